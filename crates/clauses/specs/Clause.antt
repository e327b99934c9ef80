-- The clause of a step of kinds 1 to 14, and when such a step is in order.
use Rattle.std.specs.Prelude.{Bool, cond, not, ◌&&◌, List, [], ◌∷◌, ◌++◌, ℕ, zero, suc, ◌+◌, ◌-◌, eqb, leb, ltb}
use Rattle.std.specs.Bool.{beq}
use Rattle.bits.specs.Numbers.{bit}
use Rattle.bits.specs.Lists.{list_of}
use Rattle.clauses.specs.declared.variables.Size.{Size}
use Rattle.clauses.specs.declared.variables.Variable.{Variable}
use Rattle.clauses.specs.declared.variables.Variable.TheVariants.{Reads, Many, Differ, Apart, Same}
use Rattle.clauses.specs.declared.variables.Literal.{Literal}
use Rattle.clauses.specs.declared.variables.Literal.TheVariants.{Said, Denied}
use Rattle.clauses.specs.declared.given.Given.{Given}
use Rattle.clauses.specs.declared.given.Given.TheVariants.{OneMore, AsMany, None, Most, Cause, Read, Differs}
use Rattle.clauses.specs.declared.given.Given.TheVariants.{Even, Table, Used, Swap, Sorted, Both, Neither}
use Rattle.clauses.specs.Swapping.{swappable}

-- what is asked: the size, the table, and the assignment of each row
pub record Question : Type 0 where
  pub size : Size
  pub table : ℕ → Bool
  pub row : ℕ → ℕ

-- the values of f at the members of s below n, upward
unfoldable pub those : {A : Type 0} → ℕ → (ℕ → Bool) → (ℕ → A) → List A
those zero s f = []
those (suc n) s f = cond (s n) (those n s f ++ (f n ∷ [])) (those n s f)

-- the rows a and b differ at the input p
abbrev pub rows_differ : (ℕ → ℕ) → ℕ → ℕ → ℕ → Bool
rows_differ row a b p = not (beq (bit (row a) p) (bit (row b) p))

-- kind 5: cell i differs, so an input that it reads does, or a cell
abbrev pub causes : Size → (ℕ → ℕ) → ℕ → ℕ → ℕ → List Literal
causes z row i a b =
    Denied (Differ i a b)
    ∷ (those z.inputs (rows_differ row a b) (λ p. Said (Reads i p)) ++ list_of i (λ j. Said (Apart i j a b)))

-- kind 10: the later cells that may read cell i
abbrev pub readers : Size → ℕ → List Literal
readers z i = list_of (z.cells - (i + 1)) (λ k. Said (Reads (i + 1 + k) (z.inputs + i)))

-- kind 8: of d, x, y an even number is true; each s rules out one way in which it would be odd
abbrev pub evenly : Variable → Variable → Variable → ℕ → List Literal
evenly d x y s =
    cond (eqb s 0) (Denied d ∷ Said x ∷ Said y ∷ [])
    (cond (eqb s 1) (Denied d ∷ Denied x ∷ Denied y ∷ [])
    (cond (eqb s 2) (Said d ∷ Denied x ∷ Said y ∷ []) (Said d ∷ Said x ∷ Denied y ∷ [])))

-- kind 9: the last cell differs at two rows if the table does
abbrev pub as_table : Bool → Variable → List Literal
as_table same x = cond same (Denied x ∷ []) (Said x ∷ [])

-- the clause, kind by kind
unfoldable pub clause : Question → Given → List Literal
clause q (OneMore i p t) = Denied (Reads i p) ∷ Denied (Many i p t) ∷ Said (Many i (p + 1) (t + 1)) ∷ []
clause q (AsMany i p t) = Denied (Many i p t) ∷ Said (Many i (p + 1) t) ∷ []
clause q (None i) = Said (Many i 0 0) ∷ []
clause q (Most i) = Denied (Many i (q.size.inputs + i) (q.size.cell + 1)) ∷ []
clause q (Cause i a b) = causes q.size q.row i a b
clause q (Read i j a b) = Denied (Apart i j a b) ∷ Said (Reads i (q.size.inputs + j)) ∷ []
clause q (Differs i j a b) = Denied (Apart i j a b) ∷ Said (Differ j a b) ∷ []
clause q (Even i a b s) = evenly (Differ i a b) (Differ i 0 a) (Differ i 0 b) s
clause q (Table a b) =
    as_table (beq (q.table (q.row a)) (q.table (q.row b))) (Differ (q.size.cells - 1) a b)
clause q (Used i) = readers q.size i
clause q (Swap p r) = Said (Same p r 0) ∷ []
clause q (Sorted p r i) = Denied (Same p r i) ∷ Denied (Reads i r) ∷ Said (Reads i p) ∷ []
clause q (Both p r i) = Denied (Same p r i) ∷ Denied (Reads i r) ∷ Said (Same p r (i + 1)) ∷ []
clause q (Neither p r i) = Denied (Same p r i) ∷ Said (Reads i p) ∷ Said (Same p r (i + 1)) ∷ []

-- a cell, two rows, two inputs in order
abbrev pub is_cell : Size → ℕ → Bool
is_cell z i = ltb i z.cells

abbrev pub are_rows : Size → ℕ → ℕ → Bool
are_rows z a b = ltb a z.rows && ltb b z.rows

abbrev pub are_inputs : Size → ℕ → ℕ → Bool
are_inputs z p r = ltb p r && ltb r z.inputs

-- in order: what the fields name exists, and of kind 11 the two inputs of the table F are swappable
unfoldable pub in_order : Size → (ℕ → Bool) → Given → Bool
in_order z F (OneMore i p t) = is_cell z i && (ltb p (z.inputs + i) && leb t z.cell)
in_order z F (AsMany i p t) = is_cell z i && (ltb p (z.inputs + i) && leb t (z.cell + 1))
in_order z F (None i) = is_cell z i
in_order z F (Most i) = is_cell z i
in_order z F (Cause i a b) = is_cell z i && are_rows z a b
in_order z F (Read i j a b) = is_cell z i && (ltb j i && are_rows z a b)
in_order z F (Differs i j a b) = is_cell z i && (ltb j i && are_rows z a b)
in_order z F (Even i a b s) = is_cell z i && (are_rows z a b && leb s 3)
in_order z F (Table a b) = are_rows z a b
in_order z F (Used i) = ltb (i + 1) z.cells
in_order z F (Swap p r) = are_inputs z p r && swappable z.inputs F p r
in_order z F (Sorted p r i) = are_inputs z p r && is_cell z i
in_order z F (Both p r i) = are_inputs z p r && is_cell z i
in_order z F (Neither p r i) = are_inputs z p r && is_cell z i
