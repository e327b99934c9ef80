-- What the clause of a step in order names exists. Assumes nothing.
use mathlib.Core.Path.{◌≡◌}
use mathlib.Core.Bool.{Bool, true, false, cond, ◌&&◌, beq}
use mathlib.Core.List.{List, [], ◌∷◌, ◌++◌}
use Prim.Native.Nat.{ℕ, zero, suc, ◌+◌, ◌-◌, ◌/◌, ◌<◌, ◌≤◌}
use native.Mathlib.Omega.{arith}
use lib.Dec.{eqb, leb, ltb}
use borrow.Author.Tests.{ltb-true, leb-true}
use Rattle.bits.specs.Lists.{list_of}
use Rattle.bits.proofs.Bools.{and_left, and_right}
use Rattle.clauses.specs.declared.variables.Size.{Size}
use Rattle.clauses.specs.declared.variables.Variable.{Variable}
use Rattle.clauses.specs.declared.variables.Variable.TheVariants.{Reads, Differ, Apart}
use Rattle.clauses.specs.declared.variables.Literal.{Literal}
use Rattle.clauses.specs.declared.variables.Literal.TheVariants.{Said, Denied}
use Rattle.clauses.specs.declared.given.Given.{Given}
use Rattle.clauses.specs.declared.given.Given.TheVariants.{OneMore, AsMany, None, Most, Cause, Read, Differs}
use Rattle.clauses.specs.declared.given.Given.TheVariants.{Even, Table, Used, Swap, Sorted, Both, Neither}
use Rattle.clauses.specs.Variables.{IsSize, Named, variable_of, literal_of, variables}
use Rattle.clauses.specs.Swapping.{swappable}
use Rattle.clauses.specs.Clause.{Question, those, rows_differ, evenly, as_table, clause, is_cell, are_rows, are_inputs}
use Rattle.clauses.specs.Clause.{in_order}
use Rattle.clauses.specs.Shapes.{AllNamed}
use Rattle.clauses.proofs.Sizes.{number_below}

module _ (z : Size) where
  all_append : (l m : List Literal) → AllNamed z l → AllNamed z m → AllNamed z (l ++ m)
  all_append [] m h k = k
  all_append (x ∷ l) m h k = (h.0, all_append l m h.1 k)

  all_list : (n : ℕ) (f : ℕ → Literal) → ((j : ℕ) → j < n → Named z (variable_of (f j))) → AllNamed z (list_of n f)
  unfolding list_of
  all_list zero f h = tt
  all_list (suc n) f h = all_append (list_of n f) (f n ∷ []) (all_list n f (λ j l. h j (omega arith)))
      (h n (omega arith), tt)

  all_those : (n : ℕ) (s : ℕ → Bool) (f : ℕ → Literal) → ((j : ℕ) → j < n → Named z (variable_of (f j)))
      → AllNamed z (those n s f)
  unfolding those
  all_those zero s f h = tt
  all_those (suc n) s f h = go (s n) (all_those n s f (λ j l. h j (omega arith)))
    where
      go : (t : Bool) → AllNamed z (those n s f) → AllNamed z (cond t (those n s f ++ (f n ∷ [])) (those n s f))
      go true ih = all_append (those n s f) (f n ∷ []) ih (h n (omega arith), tt)
      go false ih = ih

  -- tests that hold
  two_true : (a b : Bool) → (a && b) ≡ true → (a ≡ true) × (b ≡ true)
  two_true a b h = (and_left a b h, and_right a b h)

  rows_true : (a b : ℕ) → are_rows z a b ≡ true → (a < z.rows) × (b < z.rows)
  rows_true a b h =
      let k = two_true (ltb a z.rows) (ltb b z.rows) h in (ltb-true a z.rows k.0, ltb-true b z.rows k.1)

  inputs_true : (p r : ℕ) → are_inputs z p r ≡ true → (p < z.inputs) × (r < z.inputs)
  inputs_true p r h =
      let k = two_true (ltb p r) (ltb r z.inputs) h in
      let a = ltb-true p r k.0 in let b = ltb-true r z.inputs k.1 in (omega arith, b)

  all_evenly : (d x y : Variable) (s : ℕ) → Named z d → Named z x → Named z y → AllNamed z (evenly d x y s)
  all_evenly d x y s h k l = go (eqb s 0) (eqb s 1) (eqb s 2)
    where
      go : (a b c : Bool) → AllNamed z (cond a (Denied d ∷ Said x ∷ Said y ∷ [])
          (cond b (Denied d ∷ Denied x ∷ Denied y ∷ [])
          (cond c (Said d ∷ Denied x ∷ Said y ∷ []) (Said d ∷ Said x ∷ Denied y ∷ []))))
      go true b c = (h, (k, (l, tt)))
      go false true c = (h, (k, (l, tt)))
      go false false true = (h, (k, (l, tt)))
      go false false false = (h, (k, (l, tt)))

  all_table : (t : Bool) (x : Variable) → Named z x → AllNamed z (as_table t x)
  all_table true x h = (h, tt)
  all_table false x h = (h, tt)

  cell_true : (i : ℕ) → is_cell z i ≡ true → i < z.cells
  cell_true i h = ltb-true i z.cells h

  count_true : (i p t most : ℕ) → (is_cell z i && (ltb p (z.inputs + i) && leb t most)) ≡ true
      → (i < z.cells) × (p < z.inputs + i) × (t ≤ most)
  count_true i p t most h =
      let k = two_true (is_cell z i) (ltb p (z.inputs + i) && leb t most) h in
      let l = two_true (ltb p (z.inputs + i)) (leb t most) k.1 in
      (cell_true i k.0, ltb-true p (z.inputs + i) l.0, leb-true t most l.1)

  cells_true : (i j a b : ℕ) → (is_cell z i && (ltb j i && are_rows z a b)) ≡ true
      → (i < z.cells) × (j < i) × (a < z.rows) × (b < z.rows)
  cells_true i j a b h =
      let k = two_true (is_cell z i) (ltb j i && are_rows z a b) h in
      let l = two_true (ltb j i) (are_rows z a b) k.1 in
      let r = rows_true a b l.1 in
      (cell_true i k.0, ltb-true j i l.0, r.0, r.1)

  sorted_true : (p r i : ℕ) → (are_inputs z p r && is_cell z i) ≡ true
      → (p < z.inputs) × (r < z.inputs) × (i < z.cells)
  sorted_true p r i h =
      let k = two_true (are_inputs z p r) (is_cell z i) h in
      let l = inputs_true p r k.0 in (l.0, l.1, cell_true i k.1)

module _ (q : Question) (w : IsSize q.size) where
  abbrev z : Size
  z = q.size

  pub named : (g : Given) → in_order q.size q.table g ≡ true → AllNamed q.size (clause q g)
  unfolding in_order clause
  named (OneMore i p t) h =
      let k = count_true z i p t z.cell h in
      ((k.0, omega arith), ((k.0, omega arith, omega arith), ((k.0, omega arith, omega arith), tt)))
  named (AsMany i p t) h =
      let k = count_true z i p t (z.cell + 1) h in
      ((k.0, omega arith, omega arith), ((k.0, omega arith, omega arith), tt))
  named (None i) h = ((cell_true z i h, omega arith, omega arith), tt)
  named (Most i) h = let k = cell_true z i h in ((k, omega arith, omega arith), tt)
  named (Cause i a b) h =
      let k = two_true z (is_cell z i) (are_rows z a b) h in
      let l = cell_true z i k.0 in
      let r = rows_true z a b k.1 in (
        (l, r.0, r.1),
        all_append z (those z.inputs (rows_differ q.row a b) (λ p. Said (Reads i p)))
            (list_of i (λ j. Said (Apart i j a b)))
            (all_those z z.inputs (rows_differ q.row a b) (λ p. Said (Reads i p)) (λ p e. (l, omega arith)))
            (all_list z i (λ j. Said (Apart i j a b)) (λ j e. (l, omega arith, r.0, r.1))),
      )
  named (Read i j a b) h =
      let k = cells_true z i j a b h in ((k.0, omega arith, k.2, k.3), ((k.0, omega arith), tt))
  named (Differs i j a b) h =
      let k = cells_true z i j a b h in ((k.0, omega arith, k.2, k.3), ((omega arith, k.2, k.3), tt))
  named (Even i a b s) h =
      let k = two_true z (is_cell z i) (are_rows z a b && leb s 3) h in
      let l = cell_true z i k.0 in
      let r = rows_true z a b (two_true z (are_rows z a b) (leb s 3) k.1).0 in
      all_evenly z (Differ i a b) (Differ i 0 a) (Differ i 0 b) s (l, r.0, r.1) (l, omega arith, r.0)
      (l, omega arith, r.1)
  named (Table a b) h =
      let r = rows_true z a b h in
      all_table z (beq (q.table (q.row a)) (q.table (q.row b))) (Differ (z.cells - 1) a b)
      (omega (arith, w.some), r.0, r.1)
  named (Used i) h =
      let k = ltb-true (i + 1) z.cells h in
      all_list z (z.cells - (i + 1)) (λ j. Said (Reads (i + 1 + j) (z.inputs + i))) (λ j e. (omega arith, omega arith))
  named (Swap p r) h =
      let k = inputs_true z p r (two_true z (are_inputs z p r) (swappable z.inputs q.table p r) h).0 in
      ((k.0, k.1, omega arith), tt)
  named (Sorted p r i) h =
      let k = sorted_true z p r i h in
      ((k.0, k.1, omega arith), ((k.2, omega arith), ((k.2, omega arith), tt)))
  named (Both p r i) h =
      let k = sorted_true z p r i h in
      ((k.0, k.1, omega arith), ((k.2, omega arith), ((k.0, k.1, omega arith), tt)))
  named (Neither p r i) h =
      let k = sorted_true z p r i h in
      ((k.0, k.1, omega arith), ((k.2, omega arith), ((k.0, k.1, omega arith), tt)))

-- the number of a literal that names what exists
pub literal_below : (z : Size) (l : Literal) → Named z (variable_of l) → literal_of z l / 2 < variables z
literal_below z (Said x) h = omega (arith, number_below z x h)
literal_below z (Denied x) h = omega (arith, number_below z x h)
