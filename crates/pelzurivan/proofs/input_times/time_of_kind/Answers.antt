-- `time_of_kind` meets its contract, kind by kind. Assumes nothing.
use mathlib.Core.Path.{◌≡◌, sym, ap, ◌∙◌}
use mathlib.Core.Bool.{Bool, cond}
use Prim.Native.Nat.{ℕ}
use native.Mathlib.Omega.{arith}
use lib.Dec.{eqb}
use lib.Ieee.{Float}
use borrow.Author.Tests.{ne_eqb}
use Rattle.times.specs.declared.input_time.InputTime.TheVariants.{NotRead, Arrival, Between}
use Rattle.pelzurivan.specs.InputTimes.{time_of_kind}
use Rattle.pelzurivan.proofs.input_times.time_of_kind.Goals as goal

module _ (kind : ℕ) (x y : Float) where
  by_kind : {p q : Bool} → eqb kind 1 ≡ p → eqb kind 2 ≡ q → cond p (Arrival x) (cond q (Between x y) NotRead)
      ≡ time_of_kind kind x y
  by_kind {p} h k =
      sym (ap (λ (t : Bool). cond t (Arrival x) (cond (eqb kind 2) (Between x y) NotRead)) h
      ∙ ap (λ (t : Bool). cond p (Arrival x) (cond t (Between x y) NotRead)) k)

pub returns-in_default : goal.returns-in_default
returns-in_default c =
    let a = c.args in
    by_kind a.kind a.first a.second (ne_eqb a.kind 1 (λ e. omega arith)) (ne_eqb a.kind 2 (λ e. omega arith))
