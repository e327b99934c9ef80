-- `shorter` meets its contract: the part is that of the sheet which is kept. Assumes nothing.
use mathlib.Core.Path.{ap, ◌∙◌}
use Prim.Native.Nat.{ℕ}
use Rattle.comparing.specs.Shorter.{Kept, part_of}
use Rattle.comparing.proofs.shorter.shorter.Goals as goal

pub returns : goal.returns
returns c =
    let a = c.args in
    c.part_of.ensures
    ∙ ap (λ (w : ℕ). part_of w a.first.now a.second.now)
    (c.number_kept.ensures ∙ ap (λ (k : Kept). k.which) c.keep_shorter-kept.ensures)
