-- The tests of the table of refusals, as the code asks them. Assumes nothing.
use mathlib.Core.Path.{◌≡◌, sym, ap, ap₂, ◌∙◌}
use mathlib.Core.Bool.{Bool, true, false, not, ◌&&◌}
use mathlib.Core.List.{List, ◌∷◌, ◌++◌}
use Prim.Native.Nat.{ℕ, ◌<◌, ◌≤◌}
use native.Mathlib.Decide.{dec_lt}
use native.Mathlib.Omega.{arith}
use lib.Dec.{leb, ltb, eqb}
use lib.ListN.{length}
use borrow.Author.Tests.{lt-ltb, le-ltb, le-leb, lt-leb, leb-true, eqb-true, not-false}
use Rattle.bits.proofs.Bools.{and_left, and_right}
use Rattle.tables.specs.Table.{most_inputs, table_length, spare_clear}
use Rattle.tables.proofs.Spare.{spare_none}
use Rattle.sheets.specs.declared.kinds.Edition.{Edition}
use Rattle.refusals.specs.Verdicts.{Verdict, Fine}
use Rattle.refusals.specs.Lines.{Line, InOrder, verdict}
use Rattle.refusals.specs.Refusals.{bad_inputs, bad_table, sized_lines, gate_lines, sheet_lines}
use Rattle.refusals.proofs.Lines.{in_order_lem}

-- ---- lines 1 and 2: a number outside its limits

module _ (low x high : ℕ) where
  pub under : x < low → not (leb low x && leb x high) ≡ true
  under h = ap (λ (t : Bool). not (t && leb x high)) (lt-leb low x h)

  pub over : low ≤ x → not (leb low x && leb x high) ≡ ltb high x
  over h = ap (λ (t : Bool). not (t && leb x high)) (le-leb low x h) ∙ elim (dec_lt high x) [
    | yes l ↦ ap not (lt-leb x high l) ∙ sym (lt-ltb high x l)
    | no l ↦ ap not (le-leb x high (omega arith)) ∙ sym (le-ltb high x (omega arith))
  ]

  pub inside : not (leb low x && leb x high) ≡ false → (low ≤ x) × (x ≤ high)
  inside h =
      let g = not-false (leb low x && leb x high) h in
      (leb-true low x (and_left (leb low x) (leb x high) g), leb-true x high (and_right (leb low x) (leb x high) g))

-- where line 1 doesn't hold, as an answer b to it says
pub few_inputs : (n : ℕ) {b : Bool} → b ≡ (bad_inputs n).holds → b ≡ false → n ≤ most_inputs
few_inputs n q e = (inside 1 n most_inputs (sym q ∙ e)).1

-- ---- line 3: a table's length

pub right_table : (n : ℕ) (t : List ℕ) → (bad_table n t).holds ≡ false → length t ≡ table_length n
right_table n t h = eqb-true (length t) (table_length n) (not-false (eqb (length t) (table_length n)) h)

-- ---- line 4: from three inputs on there is no spare bit

pub spare_line : (n : ℕ) (t : List ℕ) → (ltb n 3 && not (spare_clear n t)) ≡ not (spare_clear n t)
spare_line n t = elim (dec_lt n 3) [
  | yes l ↦ ap (λ (b : Bool). b && not (spare_clear n t)) (lt-ltb n 3 l)
  | no l ↦ ap₂ (λ (b c : Bool). b && not c) (le-ltb n 3 (omega arith)) (spare_none n t (omega arith))
      ∙ ap not (sym (spare_none n t (omega arith)))
]

-- ---- what lines 1 and 3, and lines 1, 9 and 10, let through, as a look at them comes to v

pub sized_through : (n : ℕ) (t : List ℕ) (v : Verdict) → v ≡ verdict (sized_lines n t) → v ≡ Fine → (n ≤ most_inputs)
    × (length t ≡ table_length n)
sized_through n t v p q = let w = in_order_lem (sized_lines n t) (sym p ∙ q)
    in ((inside 1 n most_inputs w.0).1, right_table n t w.1.0)

pub sheet_through : (e : Edition) (d n : ℕ) (s : List ℕ) (v : Verdict) → v
    ≡ verdict (bad_inputs n ∷ sheet_lines e d n s) → v ≡ Fine → (n ≤ most_inputs) × InOrder (sheet_lines e d n s)
sheet_through e d n s v p q = let w = in_order_lem (bad_inputs n ∷ sheet_lines e d n s) (sym p ∙ q)
    in ((inside 1 n most_inputs w.0).1, w.1)

-- ---- what lines 1 to 4 let through

pub record Sound (e : Edition) (n K : ℕ) (t : List ℕ) : Type 0 where
  pub some : 1 ≤ n
  pub most : n ≤ most_inputs
  pub two : 2 ≤ K
  pub largest : K ≤ e.most
  pub long : length t ≡ table_length n
  pub spare : spare_clear n t ≡ true

pub sound : (e : Edition) (n K : ℕ) (t : List ℕ) → InOrder (gate_lines e n K t) → Sound e n K t
sound e n K t s = let p = inside 1 n most_inputs s.0 in let q = inside 2 K e.most s.1.0 in record {
  some = p.0;
  most = p.1;
  two = q.0;
  largest = q.1;
  long = right_table n t s.1.1.0;
  spare = not-false (spare_clear n t) (sym (spare_line n t) ∙ s.1.1.1.0);
}

-- with the lines that follow them, as a look at both comes to v
pub sound_before : (e : Edition) (n K : ℕ) (t : List ℕ) (ms : List Line) (v : Verdict) → v
    ≡ verdict (gate_lines e n K t ++ ms) → v ≡ Fine → Sound e n K t
sound_before e n K t ms v p q =
    let w = in_order_lem (gate_lines e n K t ++ ms) (sym p ∙ q)
    in sound e n K t (w.0, (w.1.0, (w.1.1.0, (w.1.1.1.0, tt))))
