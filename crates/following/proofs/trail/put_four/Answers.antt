-- `put_four` meets its contract: the four bytes are those of the number. Assumes nothing.
use mathlib.Core.Path.{◌∙◌}
use Prim.Native.Nat.{◌+◌, ◌-◌}
use native.Mathlib.Omega.{arith}
use Rattle.following.proofs.Trailing.{wrote}
use Rattle.following.proofs.trail.put_four.Goals as goal

pub returns : goal.returns
returns c =
    wrote c.args.area.now c.copy_from_slice.new.self c.args.at (c.args.at + 4 - c.args.at) c.args.x (omega (arith, c.requires.0)) (omega arith) c.copy_from_slice.ensures.len c.requires.1 (c.copy_from_slice.ensures.after ∙ c.to_le_bytes.ensures)
