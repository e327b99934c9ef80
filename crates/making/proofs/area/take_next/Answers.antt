-- The second half's bytes are copied over the first's. Assumes nothing.
use mathlib.Core.Path.{sym, ◌∙◌}
use native.Mathlib.Omega.{arith}
use lib.Seq.{length-take-le}
use Rattle.making.proofs.Halves.{taken_front}
use Rattle.making.proofs.area.take_next.Goals as goal

pub copy_from_slice-requires : goal.copy_from_slice-requires
copy_from_slice-requires c =
    let w = c.split_at_mut-hand.ensures in
    length-take-le c.args.len _ (omega (arith, w.front_len, c.requires.0))
    ∙ sym (length-take-le c.args.len _ (omega (arith, w.back_len, c.requires.0, c.requires.1)))

pub returns : goal.returns
returns c =
    let w = c.split_at_mut-hand.ensures in
    taken_front c.args.work.now c.requires.0 c.requires.1 w.front w.back c.copy_from_slice.ensures.after
