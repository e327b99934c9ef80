-- A step's length as an option.
use Rattle.std.specs.Prelude.{ℕ, zero, suc, Option, Some, None}

-- the length, where 0 is none
abbrev pub some_length : ℕ → Option ℕ
some_length zero = None
some_length (suc n) = Some (suc n)
