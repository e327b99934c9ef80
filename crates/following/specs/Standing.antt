-- What the code holds in a work area: a byte a variable, a mark a byte of the certificate where steps begin, and the
-- variables that a step has set, four bytes each.
use Rattle.std.specs.Prelude.{◌≡◌, ◌⊎◌, Bool, true, cond, ◌&&◌, List, ℕ, ◌+◌, ◌*◌, ◌/◌, ◌<◌, ◌≤◌, eqb, ltb, length}
use Rattle.bits.specs.Lists.{byte_at}
use Rattle.tables.specs.Table.{table_bit}
use Rattle.clauses.specs.declared.variables.Size.{Size}
use Rattle.clauses.specs.declared.task.Task.{Task}
use Rattle.clauses.specs.Variables.{variables}
use Rattle.clauses.specs.Clause.{in_order}
use Rattle.clauses.specs.Step.{four, kind_at, given_at, literals_at, literal_at, hints_at}
use Rattle.following.specs.declared.trail.Trail.{Trail}
use Rattle.following.specs.Following.{Following, conflict, going}

-- the literals of a step of kind 0 are there, each of a variable below V
pub record LiteralsIn (all : ℕ) (c : List ℕ) (at : ℕ) : Type 0 where
  pub room : at + 3 + 4 * literals_at c at ≤ length c
  pub below : (k : ℕ) → k < literals_at c at → literal_at c at k / 2 < all

-- the whole of it is there
abbrev pub AllThere : List ℕ → ℕ → Type 0
AllThere c at = at + 7 + 4 * literals_at c at + 4 * hints_at c at ≤ length c

-- a step whose clause can be read
pub record Usable (z : Size) (t c : List ℕ) (at : ℕ) : Type 0 where
  pub inside : at < length c
  pub derived : kind_at c at ≡ 0 → LiteralsIn (variables z) c at
  pub given : (kind_at c at ≡ 0 → ⊥) → in_order z (table_bit t) (given_at c at) ≡ true

abbrev pub CanUse : Task → ℕ → Type 0
CanUse x at = Usable x.size x.table.now x.certificate.now at

-- x was written at a place, in four bytes, and nothing else
pub record Wrote (before : List ℕ) (at x : ℕ) (after : List ℕ) : Type 0 where
  pub long : length after ≡ length before
  pub is : four after at ≡ x
  pub under : (j : ℕ) → j < at → byte_at after j ≡ byte_at before j
  pub over : (j : ℕ) → at + 4 ≤ j → byte_at after j ≡ byte_at before j

-- so many variables stand from a place on, each in front of it
abbrev pub InFront : ℕ → ℕ → List ℕ → Type 0
InFront from set work = (e : ℕ) → e < set → four work (from + 4 * e) < from

-- v is among the variables that were set
pub record Among (from set : ℕ) (work : List ℕ) (v : ℕ) : Type 0 where
  pub at : ℕ
  pub within : at < set
  pub is : four work (from + 4 * at) ≡ v

-- the values of the variables; those that are set stand, four bytes each, from a place on
pub record Trailed (all from : ℕ) (σ : ℕ → ℕ) (set : ℕ) (work : List ℕ) : Type 0 where
  pub values : (v : ℕ) → v < all → byte_at work v ≡ σ v
  pub trail : (v : ℕ) → v < all → (σ v ≡ 0) ⊎ Among from set work v
  pub below : (e : ℕ) → e < set → four work (from + 4 * e) < all

-- nothing else has changed, but behind that place
pub record Kept (all from : ℕ) (before work : List ℕ) : Type 0 where
  pub long : length work ≡ length before
  pub marks : (j : ℕ) → all ≤ j → j < from → byte_at work j ≡ byte_at before j

-- a step that is looked at has come so far
pub record Stands (all from : ℕ) (before : List ℕ) (f : Following) (work : List ℕ) (t : Trail) : Type 0 where
  pub values : ℕ → ℕ
  pub trailed : Trailed all from values t.set work
  pub kept : Kept all from before work
  pub is : f ≡ cond t.conflict conflict (going values)

-- no variable is set
abbrev pub Clean : ℕ → List ℕ → Type 0
Clean all work = (v : ℕ) → v < all → byte_at work v ≡ 0

-- the marks: of L bytes those at which earlier steps begin
abbrev pub begun_in : ℕ → ℕ → List ℕ → ℕ → Bool
begun_in all L work j = ltb j L && eqb (byte_at work (all + j)) 1

-- between two steps: no variable is set, and the clauses of the steps that are marked can be read
pub record Ready (z : Size) (t c work : List ℕ) : Type 0 where
  pub room : variables z + length c + length c ≤ length work
  pub clean : Clean (variables z) work
  pub usable : (j : ℕ) → begun_in (variables z) (length c) work j ≡ true → Usable z t c j

abbrev pub IsReady : Task → List ℕ → Type 0
IsReady x work = Ready x.size x.table.now x.certificate.now work
