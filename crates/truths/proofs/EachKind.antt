-- Every clause of kinds 1 to 14 whose fields are in order is true in a network that is in order. Assumes nothing.
use mathlib.Core.Path.{◌≡◌}
use mathlib.Core.Bool.{Bool, true, ◌&&◌}
use mathlib.Core.List.{List}
use Prim.Native.Nat.{ℕ, ◌+◌, ◌^◌, ◌<◌}
use lib.Dec.{ltb, leb}
use borrow.Author.Tests.{ltb-true, leb-true}
use Rattle.bits.proofs.Bools.{and_left, and_right}
use Rattle.sheets.specs.Network.{Cell}
use Rattle.networks.specs.Swapping.{swappable}
use Rattle.networks.specs.Sorted as networks
use Rattle.clauses.specs.declared.variables.Size.{Size}
use Rattle.clauses.specs.declared.variables.Variable.{Variable}
use Rattle.clauses.specs.declared.given.Given.{Given}
use Rattle.clauses.specs.declared.given.Given.TheVariants.{OneMore, AsMany, None, Most, Cause, Read, Differs}
use Rattle.clauses.specs.declared.given.Given.TheVariants.{Even, Table, Used, Swap, Sorted, Both, Neither}
use Rattle.clauses.specs.Clause.{Question, clause, is_cell, are_rows, are_inputs, in_order}
use Rattle.truths.specs.Meaning.{means}
use Rattle.truths.proofs.OneTrue.{OneTrue}
use Rattle.truths.proofs.Counts.{one_more, as_many, at_least-none, at_most}
use Rattle.truths.proofs.Differences.{cause, is_read, differs_too, even, as_table_lem}
use Rattle.truths.proofs.Orders.{used_later, swap, in_order_lem, both, neither}

-- ---- tests that hold

two : (s t : Bool) → (s && t) ≡ true → (s ≡ true) × (t ≡ true)
two s t e = (and_left s t e, and_right s t e)

three : (s t u : Bool) → (s && (t && u)) ≡ true → (s ≡ true) × (t ≡ true) × (u ≡ true)
three s t u e = let (x, y) = two t u (and_right s (t && u) e) in (and_left s (t && u) e, x, y)

rows_are : (z : Size) (a b : ℕ) → are_rows z a b ≡ true → (a < z.rows) × (b < z.rows)
rows_are z a b e =
    let (x, y) = two (ltb a z.rows) (ltb b z.rows) e in (ltb-true a z.rows x, ltb-true b z.rows y)

inputs_are : (z : Size) (p q : ℕ) → are_inputs z p q ≡ true → (p < q) × (q < z.inputs)
inputs_are z p q e = let (x, y) = two (ltb p q) (ltb q z.inputs) e in (ltb-true p q x, ltb-true q z.inputs y)

module _ (q : Question)
    (S : networks.Sorted q.size.inputs q.size.cell q.size.cells q.table)
    (rows : (a : ℕ) → a < q.size.rows → q.row a < 2 ^ q.size.inputs) where
  abbrev z : Size
  z = q.size

  abbrev F : ℕ → Bool
  F = q.table

  abbrev row : ℕ → ℕ
  row = q.row

  abbrev cs : List Cell
  cs = S.used.cells

  abbrev h : Variable → Bool
  h = means q.size.inputs q.table q.row S.used.cells

  pub kind_true : (g : Given) → in_order q.size q.table g ≡ true → OneTrue q.size h (clause q g)
  unfolding in_order clause
  kind_true (OneMore i p t) e =
      let (a, b, c) = three (is_cell z i) (ltb p (z.inputs + i)) (leb t z.cell) e in
      one_more z F row cs i (ltb-true i z.cells a) p t (ltb-true p (z.inputs + i) b) (leb-true t z.cell c)
  kind_true (AsMany i p t) e =
      let (a, b, c) = three (is_cell z i) (ltb p (z.inputs + i)) (leb t (z.cell + 1)) e in
      as_many z F row cs i (ltb-true i z.cells a) p t (ltb-true p (z.inputs + i) b) (leb-true t (z.cell + 1) c)
  kind_true (None i) e = at_least-none z F row cs i (ltb-true i z.cells e)
  kind_true (Most i) e = at_most z F row cs i (ltb-true i z.cells e) S.used.network.wired S.used.count
  kind_true (Cause i a b) e =
      let (x, y) = two (is_cell z i) (are_rows z a b) e in
      let (u, v) = rows_are z a b y in
      cause z F row cs i a b (ltb-true i z.cells x) u v S.used.network.wired S.used.count
  kind_true (Read i j a b) e =
      let (x, y, w) = three (is_cell z i) (ltb j i) (are_rows z a b) e in
      let (u, v) = rows_are z a b w in
      is_read z F row cs i a b (ltb-true i z.cells x) u v j (ltb-true j i y)
  kind_true (Differs i j a b) e =
      let (x, y, w) = three (is_cell z i) (ltb j i) (are_rows z a b) e in
      let (u, v) = rows_are z a b w in
      differs_too z F row cs i a b (ltb-true i z.cells x) u v j (ltb-true j i y)
  kind_true (Even i a b s) e =
      let (x, y, w) = three (is_cell z i) (are_rows z a b) (leb s 3) e in
      let (u, v) = rows_are z a b y in
      even z F row cs i a b (ltb-true i z.cells x) u v s
  kind_true (Table a b) e =
      let (u, v) = rows_are z a b e in
      as_table_lem z F row cs a b S.used.network S.used.count u v (rows a u) (rows b v)
  kind_true (Used i) e = used_later z F row S i (ltb-true (i + 1) z.cells e)
  kind_true (Swap p r) e =
      let (x, y) = two (are_inputs z p r) (swappable z.inputs F p r) e in
      let (u, v) = inputs_are z p r x in
      swap z F row S p r u v y
  kind_true (Sorted p r i) e =
      let (x, y) = two (are_inputs z p r) (is_cell z i) e in
      let (u, v) = inputs_are z p r x in
      in_order_lem z F row S p r u v i (ltb-true i z.cells y)
  kind_true (Both p r i) e =
      let (x, y) = two (are_inputs z p r) (is_cell z i) e in
      let (u, v) = inputs_are z p r x in
      both z F row S p r u v i (ltb-true i z.cells y)
  kind_true (Neither p r i) e =
      let (x, y) = two (are_inputs z p r) (is_cell z i) e in
      let (u, v) = inputs_are z p r x in
      neither z F row S p r u v i (ltb-true i z.cells y)
