-- Columns can be sorted. Where p < q can change places and the column of p is the smaller one, let them: the sum of
-- every input's number times its column falls. So after some turns no such pair is left, and every cell but the last is
-- read as before. Assumes nothing.
use mathlib.Core.Path.{◌≡◌, sym, ap, ◌∙◌, subst}
use mathlib.Core.Logic.{◌⊎◌, inl, inr, ⊎_elim}
use mathlib.Core.Bool.{Bool, true, ◌&&◌, ◌||◌}
use mathlib.Core.List.{List}
use Prim.Native.Nat.{ℕ, zero, suc, ◌+◌, ◌-◌, ◌*◌, ◌<◌, ◌≤◌}
use native.Mathlib.Decide.{dec_lt}
use native.Mathlib.Omega.{arith}
use lib.Dec.{ltb, eqb}
use borrow.Author.Tests.{ltb-true, ltb-false}
use Rattle.bits.specs.Below.{least}
use Rattle.bits.proofs.Bools.{and_left, and_right}
use Rattle.bits.proofs.Least.{is_least}
use Rattle.sheets.specs.Network.{Cell, Carries}
use Rattle.networks.specs.Swapping.{Swappable, swappable}
use Rattle.networks.specs.Sorted.{Used, First, Sorted}
use Rattle.networks.proofs.Sums.{sum, sum-two}
use Rattle.networks.proofs.Padding.{carries_more}
use Rattle.networks.proofs.Using.{all_used}
use Rattle.networks.proofs.Exchanging.{swappable_is, exchanged_left, exchanged_right, exchanged_other, moves}
use Rattle.networks.proofs.Exchanging.{exchanged, changed, changed_length, changed_gives, changed_read}
use Rattle.networks.proofs.Columns.{column, column_first, column_turned}

-- ---- the sum falls

-- the larger of two numbers times the larger of two others, and the smaller times the smaller, come to more
cross : (p d c e : ℕ) → p * (c + suc e) + (p + suc d) * c < p * c + (p + suc d) * (c + suc e)
cross p d c e = omega arith

crossed : (p q c e : ℕ) → p < q → c < e → p * e + q * c < p * c + q * e
crossed p q c e a b =
    let r : p + suc (q - p - 1) ≡ q = omega arith in
    let s : c + suc (e - c - 1) ≡ e = omega arith in
    subst (λ (q : ℕ). p * e + q * c < p * c + q * e) r
    (subst (λ (e : ℕ). p * e + (p + suc (q - p - 1)) * c < p * c + (p + suc (q - p - 1)) * e) s
    (cross p (q - p - 1) c (e - c - 1)))

-- every input's number times its column, summed
weight : ℕ → List Cell → ℕ
weight n cs = sum n (λ s. s * column s cs)

module _ (n p q : ℕ) (a : p < q) (b : q < n) (f : Bool) (cs : List Cell) where
  abbrev new : List Cell
  new = changed n p q (let h : p < n = omega arith in h) b f cs

  column_at_lem : (s t : ℕ) → exchanged p q t ≡ s → column s new ≡ column t cs
  column_at_lem s t e =
      ap (λ (s : ℕ). column s new) (sym e)
      ∙ column_turned n (exchanged p q) (λ s. (eqb s p || eqb s q) && f) (moves n p q (omega arith) b f) t cs

  lighter : column p cs < column q cs → weight n new < weight n cs
  unfolding weight
  lighter h =
      let x = ap (λ (k : ℕ). p * k) (column_at_lem p q (exchanged_right p q)) in
      let y = ap (λ (k : ℕ). q * k) (column_at_lem q p (exchanged_left p q)) in
      omega (
        arith,
        crossed p q (column p cs) (column q cs) a h,
        sum-two (λ s. s * column s new) (λ s. s * column s cs) p q n a b
            (λ s l c d. ap (λ (k : ℕ). s * k) (column_at_lem s s (exchanged_other p q s c d))),
        x,
        y,
      )

-- ---- until no pair is left
module _ (n K m : ℕ) (F : ℕ → Bool) where
  record Lighter (U : Used n K m F) : Type 0 where
    next : Used n K m F
    falls : weight n next.cells < weight n U.cells

  swap : (U : Used n K m F) (p q : ℕ) → p < q → q < n → Swappable n F p q → column p U.cells < column q U.cells
      → Lighter U
  swap U p q a b s h = record {
    next = let l : p < n = omega arith in record {
      cells = changed n p q l b s.flip U.cells;
      count = changed_length n p q l b s.flip U.cells ∙ U.count;
      network = changed_gives n p q l b s.flip K F U.cells s.same U.network;
      read = λ i g. changed_read n p q l b s.flip U.cells i (U.read i g);
    };
    falls = lighter n p q a b s.flip U.cells h;
  }

  -- p and q can change places, and should
  wrong : List Cell → ℕ → ℕ → Bool
  wrong cs q p = swappable n F p q && ltb (column p cs) (column q cs)

  -- some p below q should
  wrongs : List Cell → ℕ → Bool
  wrongs cs q = ltb (least q (wrong cs q)) q

  turn : (U : Used n K m F) → Sorted n K m F ⊎ Lighter U
  unfolding wrong wrongs
  turn U = elim (dec_lt (least n (wrongs U.cells)) n) [
    | yes h ↦ inr (some (least n (wrongs U.cells)) h ((is_least n (wrongs U.cells)).here h))
    | no h ↦ inl (record { used = U; sorted = none h })
  ]
    where
      cs : List Cell
      cs = U.cells

      some : (q : ℕ) → q < n → wrongs U.cells q ≡ true → Lighter U
      some q b e =
          let p = least q (wrong cs q) in
          let a = ltb-true p q e in
          let w = (is_least q (wrong cs q)).here a in
          swap U p q a b ((swappable_is n F p q).0 (and_left (swappable n F p q) (ltb (column p cs) (column q cs)) w))
          (ltb-true (column p cs) (column q cs) (and_right (swappable n F p q) (ltb (column p cs) (column q cs)) w))

      none : (least n (wrongs U.cells) < n → ⊥) → (p q : ℕ) → p < q → q < n → Swappable n F p q
          → First U.cells p q
      none all p q a b s =
          let x = ltb-false (least q (wrong cs q)) q ((is_least n (wrongs cs)).before q (omega arith)) in
          let y = (is_least q (wrong cs q)).before p (omega arith) in
          column_first p q cs (ltb-false (column p cs) (column q cs)
          (sym (ap (λ (t : Bool). t && ltb (column p cs) (column q cs)) ((swappable_is n F p q).1 s)) ∙ y))

  sorting : (w : ℕ) (U : Used n K m F) → weight n U.cells ≤ w → Sorted n K m F
  sorting zero U h = ⊎_elim (λ s. s) (λ l. absurd (omega (arith, l.falls))) (turn U)
  sorting (suc w) U h = ⊎_elim (λ s. s) (λ l. sorting w l.next (omega (arith, l.falls))) (turn U)

-- a network of m cells or fewer makes one of m cells that is in order
pub all_sorted : (n K k m : ℕ) (F : ℕ → Bool) → 1 ≤ K → Carries n K k F → k ≤ m → Sorted n K m F
all_sorted n K k m F one C h =
    let e : m - k + k ≡ m = omega arith in
    let U = all_used n K F m one (subst (λ (m : ℕ). Carries n K m F) e (carries_more n K F (m - k) k one C)) in
    sorting n K m F (weight n U.cells) U (omega arith)
