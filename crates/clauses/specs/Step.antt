-- A step of a certificate: its fields, its length and its clause, read off the certificate's bytes. (Bytes past the end
-- are read as 0; a step that runs past the end is not in order.)
use Rattle.std.specs.Prelude.{cond, List, [], ◌∷◌, map, ℕ, ◌+◌, ◌*◌, eqb, get_or}
use Rattle.bits.specs.Lists.{byte_at, list_of}
use Rattle.tables.specs.Table.{table_bit}
use Rattle.clauses.specs.declared.variables.Size.{Size}
use Rattle.clauses.specs.declared.fields.Fields.{Fields}
use Rattle.clauses.specs.declared.given.Given.{Given}
use Rattle.clauses.specs.declared.given.Given.TheVariants.{OneMore, AsMany, None, Most, Cause, Read, Differs}
use Rattle.clauses.specs.declared.given.Given.TheVariants.{Even, Table, Used, Swap, Sorted, Both, Neither}
use Rattle.clauses.specs.Variables.{literal_of}
use Rattle.clauses.specs.Clause.{Question, clause}

-- numbers of two and of four bytes, least byte first
unfoldable pub two : List ℕ → ℕ → ℕ
two c at = byte_at c at + 256 * byte_at c (at + 1)

unfoldable pub four : List ℕ → ℕ → ℕ
four c at =
    byte_at c at + 256 * byte_at c (at + 1) + 65536 * byte_at c (at + 2) + 16777216 * byte_at c (at + 3)

-- the header: how many rows, and the rows
abbrev pub rows_in : List ℕ → ℕ
rows_in c = two c 0

abbrev pub row_at : List ℕ → ℕ → ℕ
row_at c a = two c (2 + 2 * a)

-- what is asked: n, K, m, the table, and the certificate's rows
abbrev pub size_with : ℕ → ℕ → ℕ → List ℕ → Size
size_with n K m c = record { inputs = n; cell = K; cells = m; rows = rows_in c }

abbrev pub question_in : Size → List ℕ → List ℕ → Question
question_in z t c = record { size = z; table = table_bit t; row = row_at c }

abbrev pub asked : ℕ → ℕ → ℕ → List ℕ → List ℕ → Question
asked n K m t c = question_in (size_with n K m c) t c

-- the step that begins at a place: its kind
abbrev pub kind_at : List ℕ → ℕ → ℕ
kind_at c at = byte_at c at

-- of kind 0: how many literals, the literals, how many hints, the hints
abbrev pub literals_at : List ℕ → ℕ → ℕ
literals_at c at = two c (at + 1)

abbrev pub literal_at : List ℕ → ℕ → ℕ → ℕ
literal_at c at k = four c (at + 3 + 4 * k)

abbrev pub hints_at : List ℕ → ℕ → ℕ
hints_at c at = four c (at + 3 + 4 * literals_at c at)

abbrev pub hint_at : List ℕ → ℕ → ℕ → ℕ
hint_at c at k = four c (at + 7 + 4 * literals_at c at + 4 * k)

-- of kinds 1 to 14: what stands so many bytes behind the kind, a byte or a row of two
abbrev pub behind : List ℕ → ℕ → ℕ → ℕ
behind c at k = byte_at c (at + k)

abbrev pub row_behind : List ℕ → ℕ → ℕ → ℕ
row_behind c at k = behind c at k + 256 * behind c at (k + 1)

abbrev pub fields_at : List ℕ → ℕ → Fields
fields_at c at = record {
  b1 = behind c at 1;
  b2 = behind c at 2;
  b3 = behind c at 3;
  b6 = behind c at 6;
  r1 = row_behind c at 1;
  r2 = row_behind c at 2;
  r3 = row_behind c at 3;
  r4 = row_behind c at 4;
  r5 = row_behind c at 5;
}

-- the step as each kind has its fields, from 0 on, which has none of these
unfoldable pub kinds_of : Fields → List Given
kinds_of x =
    None 0 ∷ OneMore x.b1 x.b2 x.b3 ∷ AsMany x.b1 x.b2 x.b3 ∷ None x.b1 ∷ Most x.b1
    ∷ Cause x.b1 x.r2 x.r4 ∷ Read x.b1 x.b2 x.r3 x.r5 ∷ Differs x.b1 x.b2 x.r3 x.r5
    ∷ Even x.b1 x.r2 x.r4 x.b6 ∷ Table x.r1 x.r3 ∷ Used x.b1 ∷ Swap x.b1 x.b2
    ∷ Sorted x.b1 x.b2 x.b3 ∷ Both x.b1 x.b2 x.b3 ∷ Neither x.b1 x.b2 x.b3 ∷ []

abbrev pub given_at : List ℕ → ℕ → Given
given_at c at = get_or (kinds_of (fields_at c at)) (kind_at c at) (None 0)

-- how long a step of each kind is; one of kind 0 says it itself
abbrev pub lengths : ℕ → List ℕ
lengths derived = derived ∷ 4 ∷ 4 ∷ 2 ∷ 2 ∷ 6 ∷ 7 ∷ 7 ∷ 7 ∷ 5 ∷ 2 ∷ 3 ∷ 4 ∷ 4 ∷ 4 ∷ []

-- and 0 for a kind that there isn't
unfoldable pub length_of : ℕ → ℕ → ℕ
length_of derived kind = get_or (lengths derived) kind 0

abbrev pub step_length : List ℕ → ℕ → ℕ
step_length c at = length_of (7 + 4 * literals_at c at + 4 * hints_at c at) (kind_at c at)

-- the step's clause, in numbers
unfoldable pub clause_at : Question → List ℕ → ℕ → List ℕ
clause_at q c at =
    cond (eqb (kind_at c at) 0) (list_of (literals_at c at) (literal_at c at))
    (map (literal_of q.size) (clause q (given_at c at)))
