-- Where things stand: a record's table at its end, and record i of a sheet behind i others. Assumes nothing.
use mathlib.Core.Path.{◌≡◌, ap, ◌∙◌}
use mathlib.Core.List.{List}
use Prim.Native.Nat.{ℕ, suc, ◌+◌, ◌-◌, ◌*◌, ◌^◌, ◌<◌, ◌≤◌}
use native.Mathlib.Nat.{mul-le-mul_left, mul-suc}
use native.Mathlib.Omega.{arith}
use lib.ListN.{length, drop, length-drop}
use lib.Pow.{pow-add}
use lib.Seq.{length-take-le}
use Rattle.sheets.specs.declared.kinds.Edition.{Edition}
use Rattle.sheets.specs.Edition.{IsEdition}
use Rattle.sheets.specs.Sheet.{record_bytes}

-- an edition's table has 2 ^ most bits
pub table-bits : (e : Edition) → IsEdition e → 8 * (e.size - e.start) ≡ 2 ^ e.most
table-bits e o =
    let p : e.most ≡ e.most - 3 + 3 = omega (arith, o.three) in
    let q : 2 ^ e.most ≡ 2 ^ (e.most - 3) * 8 = ap (λ (m : ℕ). 2 ^ m) p ∙ pow-add 2 (e.most - 3) 3 in
    omega (arith, o.ends)

-- record i of m lies within them
pub record_within : (z i m l : ℕ) → i < m → z * m ≤ l → z * i + z ≤ l
record_within z i m l h g = let k = mul-le-mul_left {m = suc i} {n = m} z h in omega (arith, mul-suc z i)

pub record_length : (e : Edition) (s : List ℕ) (i : ℕ) → e.size * i + e.size ≤ length s → length (record_bytes e s i)
    ≡ e.size
record_length e s i h = length-take-le e.size (drop (e.size * i) s) (omega (arith, length-drop (e.size * i) s))
