-- Which signals are read, as a mask.
use Rattle.std.specs.Prelude.{List, ℕ, ltb}
use Rattle.bits.specs.Numbers.{number}
use Rattle.sheets.specs.Network.{Cell}
use Rattle.sheets.specs.Reading.{reads}

-- bit x says that the cells read signal x
abbrev pub read_mask : List Cell → ℕ
read_mask cs = number 32 (λ x. ltb 0 (reads x cs))
