-- Formulas 256 assignments at a time, and what the four readers give.
use Rattle.std.specs.Prelude.{◌≡◌, cond, List, Result, Ok, Err, ℕ, ◌+◌, ◌-◌, ◌*◌, ◌<◌, eqb, length}
use Rattle.values.specs.declared.stretches.Stretch.{Stretch}
use Rattle.formulas.specs.declared.reading.Read.{Read}
use Rattle.formulas.specs.declared.reading.Stuck.{Stuck}
use Rattle.values.specs.Formula.{value}
use Rattle.formulas.specs.Text.{byte_at}
use Rattle.formulas.specs.Reading.{Reading, up_to, stuck, reader}
use Rattle.values.specs.Stretches.{stretch_of}

-- what a reader gives: values with the place after them, or a place where the text can't be continued
abbrev pub TextRead : Type 0
TextRead = Result Read Stuck

-- values that were read up to q
abbrev pub read_to : Stretch → ℕ → TextRead
read_to v q = Ok (record { values = v; at = q })

-- the text can't be continued at p
abbrev pub stuck_at : ℕ → TextRead
stuck_at p = Err (record { at = p })

-- a reading as the code has it: of the formula, stretch w
abbrev pub found_of : ℕ → Reading → TextRead
found_of w (up_to F q) = read_to (stretch_of (value F) w) q
found_of w (stuck p) = stuck_at p

-- r is the reading of s at level k from p, with d levels left, as the code has it; it is that for any number of calls
-- that is enough for what is left of s
pub record Yields (s : List ℕ) (n k d p w : ℕ) (r : TextRead) : Type 0 where
  pub gives : (m : ℕ) → 4 * (length s - p) + k < m → r ≡ found_of w (reader (byte_at s) n m k d p)

-- r is the reading of a factor of one byte at p, whatever levels are left
pub record Single (s : List ℕ) (n p w : ℕ) (r : TextRead) : Type 0 where
  pub gives : (d : ℕ) → (byte_at s p ≡ 33 → ⊥) → (byte_at s p ≡ 40 → ⊥) → Yields s n 0 d p w r

-- `)` closes the values v that were read up to q; else the text can't be continued there
abbrev pub closed_at : List ℕ → Stretch → ℕ → TextRead
closed_at s v q = cond (eqb (byte_at s q) 41) (read_to v (q + 1)) (stuck_at q)
