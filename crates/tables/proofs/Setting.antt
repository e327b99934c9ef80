-- A table over some of the inputs in front of a room: packed byte by byte, or the whole table where all inputs are
-- kept. Assumes nothing.
use mathlib.Core.Path.{◌≡◌, sym, ap, ◌∙◌}
use mathlib.Core.Bool.{Bool, true}
use mathlib.Core.List.{List, ◌++◌}
use Prim.Native.Nat.{ℕ, ◌+◌, ◌*◌, ◌/◌, ◌%◌, ◌^◌, ◌<◌, ◌≤◌}
use native.Mathlib.Omega.{arith}
use lib.ListN.{length, take, get_or-append}
use lib.Seq.{get_or-take}
use Rattle.bits.specs.Numbers.{bit, number}
use Rattle.bits.specs.Sets.{size, spread}
use Rattle.bits.proofs.Numbers.{number_ext, bit-number}
use Rattle.bits.proofs.Sums.{all_ones}
use Rattle.bits.proofs.Members.{size_full}
use Rattle.tables.specs.Table.{table_length, table_bit, bytes_of}
use Rattle.tables.specs.Counting.{table_over}
use Rattle.tables.proofs.Bytes.{length_bytes, length-holds, table_bytes}
use Rattle.tables.proofs.Over.{over_full}

-- the bits of what stands in front
pub front_bit : (l m : List ℕ) (x : ℕ) → x / 8 < length l → table_bit (l ++ m) x ≡ table_bit l x
front_bit l m x h = ap (λ (b : ℕ). bit b (x % 8)) (get_or-append l m 0 (x / 8) h)

-- the first bytes have the first bits
pub take-number : (l : List ℕ) (k c : ℕ) → 2 ^ c ≤ 8 * k → number (2 ^ c) (table_bit (take k l))
    ≡ number (2 ^ c) (table_bit l)
take-number l k c h = number_ext (2 ^ c) (table_bit (take k l)) (table_bit l)
    (λ x g. ap (λ (b : ℕ). bit b (x % 8)) (get_or-take k l (x / 8) 0 (omega arith)))

module _ (n mask : ℕ) (t rest : List ℕ) where
  abbrev S : ℕ → Bool
  S = bit mask

  abbrev F : ℕ → Bool
  F = table_bit t

  pub packed_over : number (2 ^ size n S) (table_bit (bytes_of (table_length (size n S)) (λ v. F (spread n S v)) ++ rest))
      ≡ table_over n S F
  unfolding table_over
  packed_over =
      let c = size n S in
      let f : ℕ → Bool = λ v. F (spread n S v) in
      number_ext (2 ^ c) (table_bit (bytes_of (table_length c) f ++ rest)) f (λ x h.
      front_bit (bytes_of (table_length c) f) rest x (omega (arith, length_bytes (table_length c) f, length-holds c))
      ∙ table_bytes (table_length c) f x (omega (arith, length-holds c)))

  pub whole_over : mask + 1 ≡ 2 ^ n → length t ≡ table_length n → number (2 ^ size n S) (table_bit (t ++ rest))
      ≡ table_over n S F
  whole_over full long =
      ap (λ (c : ℕ). number (2 ^ c) (table_bit (t ++ rest))) (size_full n S all)
      ∙ number_ext (2 ^ n) (table_bit (t ++ rest)) F (λ x h. front_bit t rest x (omega (arith, length-holds n)))
      ∙ sym (over_full n S F all)
    where
      all : (j : ℕ) → j < n → bit mask j ≡ true
      all j h = let e : mask ≡ number n (λ j. true) = omega (arith, all_ones n) in ap (λ (m : ℕ). bit m j) e
          ∙ bit-number n (λ j. true) j h
