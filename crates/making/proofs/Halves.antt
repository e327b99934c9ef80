-- A half holds any gate's table; H's bytes, stored in the second half and taken back to the first, are the table at
-- hand. Assumes nothing.
use mathlib.Core.Path.{◌≡◌, ap, ◌∙◌}
use mathlib.Core.Bool.{Bool, ◌&&◌}
use mathlib.Core.List.{List, ◌++◌}
use Prim.Native.Nat.{ℕ, ◌+◌, ◌*◌, ◌/◌, ◌%◌, ◌^◌, ◌<◌, ◌≤◌}
use native.Mathlib.Nat.{mod-lt}
use native.Mathlib.Omega.{arith}
use lib.Dec.{ltb, lit<}
use lib.ListN.{length, get_or, take, drop, length-append, length-drop, get_or-append}
use lib.Seq.{get_or-take, get_or-drop, length-take-le}
use lib.Pow.{pow_mono}
use borrow.Author.Tests.{lt-ltb}
use Rattle.bits.specs.Numbers.{bit, number}
use Rattle.bits.proofs.Numbers.{bit-number}
use Rattle.tables.specs.Table.{most_inputs, table_length, table_bit, byte_of}
use Rattle.tables.proofs.Bytes.{length-holds}
use Rattle.tables.proofs.Setting.{take-number}
use Rattle.columns.specs.declared.split.Split.{Split}
use Rattle.making.specs.Area.{at_hand, next_bit, next_inputs, NextStored, NextTable}
use Rattle.tables.specs.Work.{half, work_length}

module _ (work : List ℕ) (h : work_length ≤ length work) where
  pub half_whole : length (take half work) ≡ half
  half_whole = length-take-le half work (omega arith)

  pub half-bits : (m : ℕ) → m ≤ most_inputs → 2 ^ m ≤ 8 * length (take half work)
  half-bits m l = omega (arith, half_whole, pow_mono {i = m} {j = most_inputs} l)

-- the table at hand is what stands in front
pub at_hand_lem : (work : List ℕ) (m : ℕ) → m ≤ most_inputs → number (2 ^ m) (at_hand work) ≡ number (2 ^ m) (table_bit work)
at_hand_lem work m h = take-number work half m (pow_mono {i = m} {j = most_inputs} h)

-- a byte of a function's table has its bits
byte-bit : (m : ℕ) (f : ℕ → Bool) (x : ℕ) → x < 2 ^ m → bit (byte_of m f (x / 8)) (x % 8) ≡ f x
byte-bit m f x h =
    let e : x / 8 * 8 + x % 8 ≡ x = omega arith in
    bit-number 8 (λ j. ltb (x / 8 * 8 + j) (2 ^ m) && f (x / 8 * 8 + j)) (x % 8) (mod-lt x (lit< tt))
    ∙ ap (λ (y : ℕ). ltb y (2 ^ m) && f y) e ∙ ap (λ (t : Bool). t && f x) (lt-ltb x (2 ^ m) h)

pub taken_back : (s : Split) (r len : ℕ) (before stored after : List ℕ) → len ≡ table_length (next_inputs s r before)
    → len ≤ half → NextStored s r len before stored
    → ((i : ℕ) → i < len → get_or after i 0 ≡ get_or stored (half + i) 0) → length after ≡ length stored
    → NextTable s r before after
taken_back s r len before stored after e small w back long = record { long = long ∙ w.long; bits = at }
  where
    m : ℕ
    m = next_inputs s r before

    at : (x : ℕ) → x < 2 ^ next_inputs s r before → at_hand after x ≡ next_bit s before x
    at x h =
        let l : x / 8 < len = omega (arith, e, length-holds (next_inputs s r before)) in
        ap (λ (y : ℕ). bit y (x % 8)) (get_or-take half after (x / 8) 0 (omega arith) ∙ back (x / 8) l
        ∙ w.bytes (x / 8) l)
        ∙ byte-bit (next_inputs s r before) (next_bit s before) x h

-- the first len bytes behind the first half, copied over its first
pub taken_front : {len : ℕ} (work : List ℕ) {front back copy : List ℕ} → len ≤ half → work_length ≤ length work
    → front ≡ take half work → back ≡ drop half work → copy ≡ take len back
    → ((i : ℕ) → i < len → get_or ((copy ++ drop len front) ++ back) i 0 ≡ get_or work (half + i) 0)
    × (length ((copy ++ drop len front) ++ back) ≡ length work)
taken_front {len} work {front} {back} {copy} small long f b e = (at, whole)
  where
    front_long : length front ≡ half
    front_long = ap length f ∙ length-take-le half work (omega arith)

    back_long : length back + half ≡ length work
    back_long = omega (arith, ap length b, length-drop half work)

    copy_long : length copy ≡ len
    copy_long = ap length e ∙ length-take-le len back (omega (arith, back_long))

    hand_long : length (copy ++ drop len front) ≡ half
    hand_long = omega (arith, length-append copy (drop len front), length-drop len front, copy_long, front_long)

    whole : length ((copy ++ drop len front) ++ back) ≡ length work
    whole = omega (arith, length-append (copy ++ drop len front) back, hand_long, back_long)

    at : (i : ℕ) → i < len → get_or ((copy ++ drop len front) ++ back) i 0 ≡ get_or work (half + i) 0
    at i h =
        get_or-append (copy ++ drop len front) back 0 i (omega (arith, hand_long))
        ∙ get_or-append copy (drop len front) 0 i (omega (arith, copy_long))
        ∙ ap (λ (l : List ℕ). get_or l i 0) e ∙ get_or-take len back i 0 h
        ∙ ap (λ (l : List ℕ). get_or l i 0) b ∙ get_or-drop half work i 0
