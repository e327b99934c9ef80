-- `put` meets its contract: the part of a record's length that is lent on comes back as the record. Assumes nothing.
use mathlib.Core.Path.{◌≡◌, ap₂}
use mathlib.Core.List.{List}
use Prim.Native.Nat.{ℕ, ◌+◌, ◌*◌, ◌-◌}
use native.Mathlib.Omega.{arith}
use lib.ListN.{length}
use borrow.Rule.Slice.PartMut.{put_mid}
use Rattle.sheets.specs.Writing.{encode}
use Rattle.sheets.specs.Held.{network_cell}
use Rattle.sheets.proofs.Inverse.{length-encode}
use Rattle.sheets.proofs.writing.put.Goals as goal

pub returns : goal.returns
returns c =
    let a = c.args in
    let at = a.e.size * a.i in
    let x = network_cell a.c in
    let q : at + a.e.size - at ≡ length (encode a.e a.d x) = omega (arith, length-encode a.e a.d x) in
    ap₂ (λ (n : ℕ) (r : List ℕ). put_mid at n a.sheet.now r) q c.write_record.ensures
