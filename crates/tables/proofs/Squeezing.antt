-- A word squeezed position by position. Below position j what is left stands side by side: at q * 2 ^ j + l, for an l
-- below 2 ^ (the members below j), the bit from where these spread l to, and nothing at any other l. Assumes nothing.
use mathlib.Core.Path.{◌≡◌, refl, sym, ap, ap₂, ◌∙◌}
use mathlib.Core.Bool.{Bool, true, false, not, ◌&&◌, ◌||◌, and-true, and-false, or-false}
use Prim.Native.Nat.{ℕ, ◌+◌, ◌-◌, ◌*◌, ◌/◌, ◌^◌, ◌<◌, ◌≤◌}
use native.Mathlib.Nat.{pow-suc, add-mul, mul_assoc, one-mul, mul_comm, add-zero, zero-div}
use native.Mathlib.Numerals.{add-one}
use native.Mathlib.Decide.{dec_lt}
use native.Mathlib.Omega.{arith}
use lib.Bits.{bit_and, bit_or}
use lib.Dec.{ltb}
use lib.Pow.{pow_mono}
use borrow.Author.Tests.{lt-ltb, le-ltb}
use Rattle.bits.specs.Numbers.{bit, val, number}
use Rattle.bits.specs.Sets.{word_positions, size, spread}
use Rattle.bits.proofs.Building.{bit-digit}
use Rattle.bits.proofs.Machine.{bit-or}
use Rattle.bits.proofs.Members.{spread_low}
use Rattle.bits.proofs.Numbers.{bit_below, bit_top, bit_high, bit-shr, bit-zero, number_bit, number_ext, val-mul-le}
use Rattle.bits.proofs.Sizes.{size-le, size_more}
use Rattle.bits.proofs.Spreading.{spread_more}
use Rattle.tables.proofs.Digits.{cut_number}

-- what is left of `word` in w, below position j
abbrev pub Squeezed : ℕ → ℕ → ℕ → ℕ → Type 0
Squeezed word m w j =
    (q l : ℕ) → l < 2 ^ j → q * 2 ^ j + 2 ^ j ≤ 64
    → bit w (q * 2 ^ j + l) ≡ (ltb l (2 ^ size j (bit m)) && bit word (spread j (bit m) l + q * 2 ^ j))

pub squeezed_none : (word m : ℕ) → Squeezed word m word 0
unfolding size spread number
squeezed_none word m q l h g =
    let e : q * 2 ^ 0 + l ≡ 0 + q * 2 ^ 0 = omega arith in
    ap (bit word) e ∙ sym (ap (λ (t : Bool). t && bit word (0 + q * 2 ^ 0)) (lt-ltb l 1 (omega arith)))

pub squeezed_all : (word m w : ℕ) → w < 2 ^ 64 → Squeezed word m w word_positions
    → w ≡ number (2 ^ size word_positions (bit m)) (λ u. bit word (spread word_positions (bit m) u))
squeezed_all word m w small inv =
    let many = 2 ^ size word_positions (bit m) in
    let from : ℕ → Bool = λ u. bit word (spread word_positions (bit m) u) in
    sym (number_bit 64 w small) ∙ number_ext 64 (bit w) (λ u. ltb u many && from u) (λ u l.
    let e : u ≡ 0 * 64 + u = omega arith in
    let z : spread word_positions (bit m) u + 0 * 64 ≡ spread word_positions (bit m) u = omega arith in
    ap (bit w) e ∙ inv 0 u l (omega arith) ∙ ap (λ (x : ℕ). ltb u many && bit word x) z)
    ∙ cut_number many 64 from (pow_mono {i = size word_positions (bit m)} {j = 6} (size-le word_positions (bit m)))

-- `h * ((m >> j) & 1)`
pub kept-le : (h m j : ℕ) → h * bit_and (m / 2 ^ j) 1 ≤ h
kept-le h m j = omega (arith, ap (λ (d : ℕ). h * d) (bit-digit m j), mul_comm h (val (bit m j)), val-mul-le (bit m j) h)

-- bit j of what stands in block b of q * 2 ^ (j + 1)
block : (q : ℕ) (b : Bool) (j l x : ℕ) → l < 2 ^ j → x ≡ l + val b * 2 ^ j + q * 2 ^ (j + 1) → bit x j ≡ b
block q b j l x h e = ap (λ (m : ℕ). bit m j) e ∙ bit_below (l + val b * 2 ^ j) q (j + 1) j (omega arith)
    ∙ bit_top l b j h

-- one position more: the lower half stays, and the upper one is moved to where k members leave room
module _ (word m w low high j : ℕ) (inv : Squeezed word m w j) (within : j < word_positions) (whole : w < 2 ^ 64)
    (small : high < 2 ^ 64)
    (lows : (x : ℕ) → x < 64 → bit low x ≡ (bit w x && not (bit x j)))
    (highs : (x : ℕ) → x < 64 → bit high x ≡ (bit w x && bit x j)) where
  abbrev k : ℕ
  k = size j (bit m)

  abbrev by : ℕ
  by = 2 ^ j - 2 ^ k

  abbrev moved : Bool → ℕ
  moved t = high * val t / 2 ^ by

  less : 2 ^ k ≤ 2 ^ j
  less = pow_mono {i = k} {j = j} (size-le j (bit m))

  twice : (i : ℕ) → 2 ^ (i + 1) ≡ 2 ^ i * 2
  twice i = ap (λ (e : ℕ). 2 ^ e) (add-one i) ∙ pow-suc 2 i

  even : (q : ℕ) → (q + q) * 2 ^ j ≡ q * 2 ^ (j + 1)
  even q =
      let two : q * 2 ^ j + q * 2 ^ j ≡ q * 2 ^ j * 2 = omega arith in
      add-mul q q (2 ^ j) ∙ two ∙ mul_assoc q (2 ^ j) 2 ∙ ap (λ (p : ℕ). q * p) (sym (twice j))

  odd : (q : ℕ) → (q + q + 1) * 2 ^ j ≡ q * 2 ^ (j + 1) + 2 ^ j
  odd q = add-mul (q + q) 1 (2 ^ j) ∙ ap₂ ◌+◌ (even q) (one-mul (2 ^ j))

  -- what is moved to x: nothing where j is no member, else what stands at y in the upper half of its block
  away : (x : ℕ) → bit (moved false) x ≡ false
  away x = let z : high * val false ≡ 0 = omega arith
      in ap (λ (y : ℕ). bit y x) (ap (λ (y : ℕ). y / 2 ^ by) z ∙ zero-div (2 ^ by)) ∙ bit-zero x

  came : (x y : ℕ) (b : Bool) → y ≡ by + x → bit y j ≡ b → bit (moved true) x ≡ (bit w y && b)
  came x y b e at =
      let one : high * val true ≡ high = omega arith in
      ap (λ (h : ℕ). bit (h / 2 ^ by) x) one ∙ bit-shr high by x ∙ ap (bit high) (sym e) ∙ elim (dec_lt y 64) [
        | yes l ↦ highs y l ∙ ap (λ (t : Bool). bit w y && t) at
        | no l ↦ bit_high high 64 y small (omega arith)
            ∙ sym (ap (λ (t : Bool). t && b) (bit_high w 64 y whole (omega arith)))
      ]

  -- place l of block q
  module _ (q l : ℕ) (h : l < 2 ^ (j + 1)) (g : q * 2 ^ (j + 1) + 2 ^ (j + 1) ≤ 64) where
    abbrev x : ℕ
    x = q * 2 ^ (j + 1) + l

    abbrev from : ℕ → Bool
    from d = bit word (spread j (bit m) l + d * 2 ^ j + q * 2 ^ (j + 1))

    stays : l < 2 ^ j → bit low x ≡ (ltb l (2 ^ k) && from 0)
    stays u =
        let e : x ≡ (q + q) * 2 ^ j + l = omega (arith, even q) in
        let z : spread j (bit m) l + (q + q) * 2 ^ j ≡ spread j (bit m) l + 0 * 2 ^ j
        + q * 2 ^ (j + 1) = omega (arith, even q) in
        lows x (omega arith)
        ∙ ap₂ (λ (a b : Bool). a && not b)
        (ap (bit w) e ∙ inv (q + q) l u (omega (arith, even q, twice j))
        ∙ ap (λ (y : ℕ). ltb l (2 ^ k) && bit word y) z)
        (block q false j l x u (omega arith))
        ∙ and-true (ltb l (2 ^ k) && from 0)

    goes : 2 ^ j ≤ l → bit low x ≡ false
    goes u =
        lows x (omega arith) ∙ ap (λ (b : Bool). bit w x && not b)
        (block q true j (l - 2 ^ j) x (omega (arith, twice j)) (omega arith))
        ∙ and-false (bit w x)

    -- no member
    without : (bit low x || bit (moved false) x) ≡ (ltb l (2 ^ (k + 0)) && from 0)
    without = ap (λ (t : Bool). bit low x || t) (away x) ∙ or-false (bit low x) ∙ elim (dec_lt l (2 ^ j)) [
      | yes u ↦ stays u ∙ ap (λ (i : ℕ). ltb l (2 ^ i) && from 0) (sym (add-zero k))
      | no u ↦ goes (omega arith) ∙ sym (ap (λ (t : Bool). t && from 0)
          (le-ltb l (2 ^ (k + 0)) (omega (arith, less, ap (λ (i : ℕ). 2 ^ i) (add-zero k)))))
    ]

    -- a member, and l below where the upper half goes, at it, and past it
    under : l < 2 ^ k → (bit low x || bit (moved true) x) ≡ (ltb l (2 ^ (k + 1)) && from (val (bit l k)))
    under u =
        ap₂ ◌||◌ (stays (omega (arith, less)) ∙ ap (λ (t : Bool). t && from 0) (lt-ltb l (2 ^ k) u))
        (came x (by + x) false refl (block q false j (by + l) (by + x) (omega (arith, less)) (omega arith))
        ∙ and-false (bit w (by + x)))
        ∙ or-false (from 0)
        ∙ sym (ap₂ (λ (t : Bool) (d : ℕ). t && from d) (lt-ltb l (2 ^ (k + 1)) (omega (arith, twice k)))
        (ap val (bit_high l k k u (omega arith))))

    there : 2 ^ k ≤ l → l < 2 ^ j + 2 ^ k → (bit low x || bit (moved true) x)
        ≡ (ltb l (2 ^ (k + 1)) && from (val (bit l k)))
    there u v = ap₂ ◌||◌ none (came x (by + x) true refl
        (block q true j (l - 2 ^ k) (by + x) (omega arith) (omega (arith, less))) ∙ and-true (bit w (by + x))) ∙ read
      where
        none : bit low x ≡ false
        none = elim (dec_lt l (2 ^ j)) [
          | yes p ↦ stays p ∙ ap (λ (t : Bool). t && from 0) (le-ltb l (2 ^ k) u)
          | no p ↦ goes (omega arith)
        ]

        read : bit w (by + x) ≡ (ltb l (2 ^ (k + 1)) && from (val (bit l k)))
        read =
            let e : by + x ≡ (q + q + 1) * 2 ^ j + (l - 2 ^ k) = omega (arith, odd q, less) in
            ap (bit w) e ∙ inv (q + q + 1) (l - 2 ^ k) (omega arith) (omega (arith, odd q, twice j))
            ∙ elim (dec_lt l (2 ^ (k + 1))) [
              | yes p ↦
                  let is : l ≡ l - 2 ^ k + val true * 2 ^ k = omega arith in
                  let small : l - 2 ^ k < 2 ^ k = omega (arith, twice k) in
                  let same : spread j (bit m) (l - 2 ^ k) ≡ spread j (bit m) l =
                  spread_low j (bit m) (l - 2 ^ k) l (λ i b. sym
                  (ap (λ (y : ℕ). bit y i) is ∙ bit_below (l - 2 ^ k) (val true) k i b)) in
                  let one : bit l k ≡ true = ap (λ (y : ℕ). bit y k) is ∙ bit_top (l - 2 ^ k) true k small in
                  let z : spread j (bit m) (l - 2 ^ k) + (q + q + 1) * 2 ^ j ≡ spread j (bit m) l + 1 * 2 ^ j
                  + q * 2 ^ (j + 1) = omega (arith, odd q, same) in
                  ap₂ (λ (t : Bool) (y : ℕ). t && bit word y) (lt-ltb (l - 2 ^ k) (2 ^ k) small) z
                  ∙ sym (ap₂ (λ (t : Bool) (d : ℕ). t && from d) (lt-ltb l (2 ^ (k + 1)) p) (ap val one))
              | no p ↦
                  ap (λ (t : Bool). t && bit word (spread j (bit m) (l - 2 ^ k) + (q + q + 1) * 2 ^ j))
                  (le-ltb (l - 2 ^ k) (2 ^ k) (omega (arith, twice k)))
                  ∙ sym (ap (λ (t : Bool). t && from (val (bit l k))) (le-ltb l (2 ^ (k + 1)) (omega arith)))
            ]

    past : 2 ^ j + 2 ^ k ≤ l → (bit low x || bit (moved true) x) ≡ (ltb l (2 ^ (k + 1)) && from (val (bit l k)))
    past u =
        let next : (q + 1) * 2 ^ (j + 1) ≡ q * 2 ^ (j + 1) + 2 ^ (j + 1) = add-mul q 1 (2 ^ (j + 1))
        ∙ ap (λ (p : ℕ). q * 2 ^ (j + 1) + p) (one-mul (2 ^ (j + 1))) in
        ap₂ ◌||◌ (goes (omega arith))
        (came x (by + x) false refl (block (q + 1) false j (l - 2 ^ k - 2 ^ j) (by + x) (omega (arith, twice j, less))
        (omega (arith, next, twice j, less))) ∙ and-false (bit w (by + x)))
        ∙ sym (ap (λ (t : Bool). t && from (val (bit l k))) (le-ltb l (2 ^ (k + 1)) (omega (arith, twice k, less))))

    both : (t : Bool) → (bit low x || bit (moved t) x) ≡ (ltb l (2 ^ (k + val t)) && from (val (t && bit l k)))
    both true = elim (dec_lt l (2 ^ k)) [
      | yes u ↦ under u
      | no u ↦ elim (dec_lt l (2 ^ j + 2 ^ k)) [ yes v ↦ there (omega arith) v | no v ↦ past (omega arith) ]
    ]
    both false = without

  pub squeezed_more : Squeezed word m (bit_or low (moved (bit m j))) (j + 1)
  squeezed_more q l h g =
      bit-or low (moved (bit m j)) (q * 2 ^ (j + 1) + l) ∙ both q l h g (bit m j)
      ∙ sym (ap₂ (λ (i y : ℕ). ltb l (2 ^ i) && bit word (y + q * 2 ^ (j + 1))) (size_more j (bit m))
      (spread_more j (bit m) l))
