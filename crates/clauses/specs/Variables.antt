-- The variables, numbered from 0 one kind after the other.
use Rattle.std.specs.Prelude.{ℕ, ◌+◌, ◌*◌, ◌<◌, ◌≤◌}
use Rattle.tables.specs.Table.{most_inputs}
use Rattle.clauses.specs.declared.variables.Size.{Size}
use Rattle.clauses.specs.declared.variables.Variable.{Variable}
use Rattle.clauses.specs.declared.variables.Variable.TheVariants.{Reads, Many, Differ, Apart, Same}
use Rattle.clauses.specs.declared.variables.Literal.{Literal}
use Rattle.clauses.specs.declared.variables.Literal.TheVariants.{Said, Denied}

-- the limits of a question: n to 16, K to 8, m from 1 to 15, 512 rows
pub record IsSize (z : Size) : Type 0 where
  pub inputs : z.inputs ≤ most_inputs
  pub cell : z.cell ≤ 8
  pub some : 1 ≤ z.cells
  pub cells : z.cells ≤ 15
  pub rows : z.rows ≤ 512

-- N: the inputs and the cells
abbrev pub signals : Size → ℕ
signals z = z.inputs + z.cells

-- how many variables there are of a kind
unfoldable pub reads_many : Size → ℕ
reads_many z = z.cells * signals z

unfoldable pub many_many : Size → ℕ
many_many z = z.cells * (signals z + 1) * (z.cell + 2)

unfoldable pub differ_many : Size → ℕ
differ_many z = z.cells * z.rows * z.rows

unfoldable pub apart_many : Size → ℕ
apart_many z = z.cells * z.cells * z.rows * z.rows

unfoldable pub same_many : Size → ℕ
same_many z = z.inputs * z.inputs * (z.cells + 1)

-- where those of a kind begin
abbrev pub differ_from : Size → ℕ
differ_from z = reads_many z + many_many z

abbrev pub apart_from : Size → ℕ
apart_from z = differ_from z + differ_many z

abbrev pub same_from : Size → ℕ
same_from z = apart_from z + apart_many z

-- V: how many there are in all; always fewer than 2 ^ 26
abbrev pub number_limit : ℕ
number_limit = 67108864

abbrev pub variables : Size → ℕ
variables z = same_from z + same_many z

-- the number of a variable
unfoldable pub number_of : Size → Variable → ℕ
number_of z (Reads i p) = i * signals z + p
number_of z (Many i p t) = reads_many z + ((i * (signals z + 1) + p) * (z.cell + 2) + t)
number_of z (Differ i a b) = differ_from z + ((i * z.rows + a) * z.rows + b)
number_of z (Apart i j a b) = apart_from z + (((i * z.cells + j) * z.rows + a) * z.rows + b)
number_of z (Same p q i) = same_from z + ((p * z.inputs + q) * (z.cells + 1) + i)

-- what a variable names exists, so that its number is its own and below V
abbrev pub Named : Size → Variable → Type 0
Named z (Reads i p) = (i < z.cells) × (p < signals z)
Named z (Many i p t) = (i < z.cells) × (p < signals z + 1) × (t < z.cell + 2)
Named z (Differ i a b) = (i < z.cells) × (a < z.rows) × (b < z.rows)
Named z (Apart i j a b) = (i < z.cells) × (j < z.cells) × (a < z.rows) × (b < z.rows)
Named z (Same p q i) = (p < z.inputs) × (q < z.inputs) × (i < z.cells + 1)

-- the number of a literal: 2 times its variable's, plus 1 if it is denied
abbrev pub literal_of : Size → Literal → ℕ
literal_of z (Said x) = 2 * number_of z x
literal_of z (Denied x) = 2 * number_of z x + 1

-- the variable of a literal
abbrev pub variable_of : Literal → Variable
variable_of (Said x) = x
variable_of (Denied x) = x
