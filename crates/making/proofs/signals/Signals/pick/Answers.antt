-- The loop keeps that the first m places hold what is picked below j. Assumes nothing.
use mathlib.Core.Path.{◌≡◌, refl, sym, ap, ap₂, ◌∙◌}
use mathlib.Core.Bool.{Bool, true, false, cond}
use mathlib.Core.List.{List, [], ◌∷◌, ◌++◌}
use Prim.Native.Nat.{ℕ, ◌+◌, ◌<◌}
use native.Mathlib.Numerals.{add-one}
use native.Mathlib.Omega.{arith}
use lib.ListN.{length, get_or, set, length-set}
use Rattle.bits.specs.Numbers.{bit}
use Rattle.bits.proofs.Machine.{bit-set, bit-clear}
use Rattle.bits.specs.Lists.{list_of}
use Rattle.bits.proofs.Lists.{list_set, list_at}
use Rattle.chains.specs.Chain.{pick}
use Rattle.making.proofs.signals.Signals.pick.Invariants.{first}
use Rattle.making.proofs.signals.Signals.pick.Goals as goal
use Rattle.making.proofs.signals.Signals.pick.Goals.{then-set-j-eq1, else-set-j-eq1}

-- one position more, in or out of the set
pick_more : (j : ℕ) (s : ℕ → Bool) (l : List ℕ) (t : Bool) → s j ≡ t → pick (j + 1) s l
    ≡ cond t (pick j s l ++ (get_or l j 0 ∷ [])) (pick j s l)
unfolding pick
pick_more j s l t e = ap (λ (m : ℕ). pick m s l) (add-one j)
    ∙ ap (λ (u : Bool). cond u (pick j s l ++ (get_or l j 0 ∷ [])) (pick j s l)) e

pick_takes : (j m : ℕ) (s : ℕ → Bool) (from at : List ℕ) (count : ℕ) → j < count → m < length at → s j ≡ true
    → first m at ≡ pick j s (first count from)
    → first (m + 1) (set at m (get_or from j 0)) ≡ pick (j + 1) s (first count from)
pick_takes j m s from at count l h e ih =
    list_set (λ x. x) at m (get_or from j 0) 0 h
    ∙ ap₂ (λ (y : List ℕ) (x : ℕ). y ++ (x ∷ [])) ih (sym (list_at count (λ i. get_or from i 0) j 0 l))
    ∙ sym (pick_more j s (first count from) true e)

pub loop-j-init : goal.loop-j-init
unfolding list_of pick
loop-j-init c = (refl, omega arith, refl)

pub bounds-self-j : goal.bounds-self-j
bounds-self-j c = omega (arith, c.args.self.few)

pub bounds-at-count : goal.bounds-at-count
bounds-at-count c = omega (arith, c.loop-j.invariant.1, c.args.self.few)

pub overflow_add-count : goal.overflow_add-count
overflow_add-count c = omega (arith, c.loop-j.invariant.1, c.args.self.few)

pub loop-j-preserved : goal.loop-j-preserved
loop-j-preserved c =
    let q = c.loop-j in
    let a = c.args in
    elim c.if-set-j-eq1.branch [
      | then-set-j-eq1 u ↦ (
        ap₂ first u.count-is u.at-is
            ∙ pick_takes q.j q.count (bit a.set) a.self.at q.at a.self.count (omega arith)
            (omega (arith, q.invariant.1, q.invariant.2, c.args.self.few))
            (bit-set a.set q.j u.if-set-j-eq1.true) q.invariant.0,
        omega (arith, u.count-is, q.invariant.1),
        ap length u.at-is ∙ length-set q.at q.count _ ∙ q.invariant.2,
      )
      | else-set-j-eq1 u ↦ (
        ap₂ first u.count-is u.at-is ∙ q.invariant.0
            ∙ sym (pick_more q.j (bit a.set) (first a.self.count a.self.at) false
            (bit-clear a.set q.j u.if-set-j-eq1.false)),
        omega (arith, u.count-is, q.invariant.1),
        ap length u.at-is ∙ q.invariant.2,
      )
    ]

pub returns : goal.returns
returns c =
    let q = c.loop-j in
    let a = c.args in
    let e : q.j ≡ a.self.count = omega arith in
    q.invariant.0 ∙ ap (λ (m : ℕ). pick m (bit a.set) (first a.self.count a.self.at)) e
