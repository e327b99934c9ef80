-- Every decided input from i on was asked about. Assumes nothing.
use mathlib.Core.Path.{◌≡◌, sym, ap, ◌∙◌, subst}
use mathlib.Core.Bool.{Bool, true}
use Prim.Native.Nat.{ℕ, ◌-◌}
use native.Mathlib.Decide.{ℕ_discrete}
use native.Mathlib.Omega.{arith}
use Rattle.bits.specs.Numbers.{bit}
use Rattle.bits.proofs.Bools.{clash}
use Rattle.bits.proofs.Numbers.{bit_high}
use Rattle.bits.proofs.Machine.{bit-clear}
use Rattle.tables.specs.Table.{table_bit}
use Rattle.joins.specs.StandsFor.{StandsFor}
use Rattle.joins.specs.Left.{gate_left, Valued}
use Rattle.joins.proofs.deciding.partner_of.Invariants.{NoneFrom}
use Rattle.joins.proofs.deciding.partner_of.Goals as goal

pub loop-i-init : goal.loop-i-init
loop-i-init c k h e = absurd (clash e (bit_high c.args.g.decided c.args.n k c.requires.1.below h))

-- one input more
more : (n : ℕ) (G : ℕ → Bool) (mask j i : ℕ) → NoneFrom n G mask j i
    → (bit mask (i - 1) ≡ true → (v : Bool) → StandsFor n G (i - 1) j v → ⊥) → NoneFrom n G mask j (i - 1)
more n G mask j i f here k h e v N = elim (ℕ_discrete k (i - 1)) [
  | yes z ↦ here (sym (ap (bit mask) z) ∙ e) v (subst (λ (m : ℕ). StandsFor n G m j v) z N)
  | no z ↦ f k (omega arith) e v N
]

pub loop-i-preserved-in_default : goal.loop-i-preserved-in_default
loop-i-preserved-in_default c =
    let a = c.args in
    let l = c.loop-i in
    let G = gate_left a.n (table_bit a.t.now) a.g in
    let none = subst (Valued a.n G (l.i - 1) a.j) c.in_default.is c.joint.ensures in
    more a.n G a.g.decided a.j l.i l.invariant (λ _. none)

pub loop-i-preserved : goal.loop-i-preserved
loop-i-preserved c =
    let l = c.loop-i in
    more c.args.n (gate_left c.args.n (table_bit c.args.t.now) c.args.g) c.args.g.decided c.args.j l.i l.invariant
    (λ e. absurd (clash e (bit-clear c.args.g.decided (l.i - 1) c.if-g-i-eq1.false)))

pub returns : goal.returns
returns c k = c.loop-i.invariant k (omega (arith, c.loop-i-test.false))
