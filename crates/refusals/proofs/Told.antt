-- A call that is told the edition. Assumes nothing.
use mathlib.Core.Path.{◌≡◌, refl, ap, ◌∙◌}
use mathlib.Core.Bool.{Bool, true, false, cond}
use mathlib.Core.List.{List, ◌∷◌}
use Prim.Native.Nat.{ℕ}
use Rattle.refusals.specs.Verdicts.{Verdict, Refused}
use Rattle.refusals.specs.Lines.{Line, verdict}
use Rattle.refusals.specs.Refusals.{bad_inputs, bad_edition, told_lines}

twice : (t : Bool) (u v : Verdict) → cond t u (cond t u v) ≡ cond t u v
twice true u v = refl
twice false u v = refl

-- told an edition that there is, a call whose own lines look at n first is decided by these
pub told_known : (w n : ℕ) (ls : List Line) → (bad_edition w).holds ≡ false → verdict (told_lines w n (bad_inputs n ∷ ls))
    ≡ verdict (bad_inputs n ∷ ls)
told_known w n ls h =
    ap (λ (t : Bool). cond (bad_inputs n).holds (Refused (bad_inputs n).gives)
    (cond t (Refused (bad_edition w).gives) (verdict (bad_inputs n ∷ ls)))) h
    ∙ twice (bad_inputs n).holds (Refused (bad_inputs n).gives) (verdict ls)
