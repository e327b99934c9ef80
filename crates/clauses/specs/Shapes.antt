-- A clause as the code holds it: up to three literals, or one of two lists.
use Rattle.std.specs.Prelude.{◌≡◌, List, [], ◌∷◌, ℕ, ◌+◌, ◌*◌, ◌^◌, ◌<◌, ◌≤◌, length}
use Rattle.clauses.specs.declared.variables.Size.{Size}
use Rattle.clauses.specs.declared.variables.Literal.{Literal}
use Rattle.clauses.specs.declared.shapes.Shape.{Shape}
use Rattle.clauses.specs.declared.shapes.Shape.TheVariants.{One, Two, Three, Causes, Readers}
use Rattle.clauses.specs.Variables.{Named, variable_of}
use Rattle.clauses.specs.Clause.{causes, readers}
use Rattle.clauses.specs.Step.{rows_in, row_at}

-- its literals, the rows being `row`
abbrev pub literals_in : Size → (ℕ → ℕ) → Shape → List Literal
literals_in z row (One a) = a ∷ []
literals_in z row (Two a b) = a ∷ b ∷ []
literals_in z row (Three a b c) = a ∷ b ∷ c ∷ []
literals_in z row (Causes i a b) = causes z row i a b
literals_in z row (Readers i) = readers z i

-- what each literal names exists
abbrev pub AllNamed : Size → List Literal → Type 0
AllNamed z [] = Unit {0}
AllNamed z (l ∷ ls) = Named z (variable_of l) × AllNamed z ls

-- a certificate whose header is in order has the rows that the size says, each an assignment of the inputs
pub record HasRows (z : Size) (c : List ℕ) : Type 0 where
  pub count : z.rows ≡ rows_in c
  pub room : 2 + 2 * z.rows ≤ length c
  pub below : (a : ℕ) → a < z.rows → row_at c a < 2 ^ z.inputs
