-- Words of a sheet and of a table, place by place: where they are the same no assignment differs, and the lowest place
-- at which they aren't is the least assignment that does. Past the last assignment both are 0. Assumes nothing.
use mathlib.Core.Path.{◌≡◌, refl, sym, ap, ap₂, ◌∙◌, subst}
use mathlib.Core.Bool.{Bool, true, false, not, ◌&&◌, ◌||◌, beq}
use mathlib.Core.List.{List}
use Prim.Native.Nat.{ℕ, ◌+◌, ◌-◌, ◌*◌, ◌/◌, ◌%◌, ◌^◌, ◌<◌, ◌≤◌}
use native.Mathlib.Decide.{dec_lt}
use native.Mathlib.Omega.{arith}
use lib.Bits.{bit_xor, xor_lt, xor_self, xor_assoc, xor_shr, xor_mod, xor_zero_r}
use lib.Dec.{ltb, eqb}
use lib.ListN.{length, get_or-eq_default}
use lib.Pow.{pow-add, pow_mono, pow_pos}
use borrow.Author.Tests.{lt-ltb, le-ltb, not-true, not-false}
use Rattle.std.specs.Int.{w64, trailing_zeros}
use Rattle.std.proofs.lemmas.Nat.Bits.{bit_at-trailing_zeros}
use Rattle.bits.specs.Numbers.{bit, val}
use Rattle.bits.specs.Below.{least, IsLeast}
use Rattle.bits.proofs.Bools.{clash, beq_same, same-beq}
use Rattle.bits.proofs.Below.{every_at}
use Rattle.bits.proofs.Least.{is_least, least-of}
use Rattle.bits.proofs.Machine.{by_digits}
use Rattle.bits.proofs.Numbers.{bit-number, bit-zero, number_bit, number_ext, number_lt}
use Rattle.tables.specs.Table.{table_length, table_bit, spare_clear}
use Rattle.tables.specs.Words.{WordAt}
use Rattle.sheets.specs.declared.kinds.Edition.{Edition}
use Rattle.sheets.specs.Sheet.{sheet_bit}
use Rattle.runs.specs.Words.{sheet_word}
use Rattle.runs.specs.Checking.{differs, first_difference, apart}

not-apart : (a b i : ℕ) → bit a i ≡ bit b i → apart a b i ≡ false
not-apart a b i h = ap not (same-beq (bit a i) (bit b i) h)

-- a table's bits from 2 ^ n up are 0, past its end too
pub spare_false : (n : ℕ) (t : List ℕ) → length t ≡ table_length n → spare_clear n t ≡ true → (x : ℕ) → 2 ^ n ≤ x
    → table_bit t x ≡ false
unfolding spare_clear
spare_false n t long spare x h = elim (dec_lt x 8) [
  | yes l ↦
      not-true (table_bit t x) (sym (ap (λ (s : Bool). s || not (table_bit t x)) (le-ltb x (2 ^ n) h))
      ∙ every_at 8 (λ y. ltb y (2 ^ n) || not (table_bit t y)) spare x l)
  | no l ↦ ap (λ (b : ℕ). bit b (x % 8)) (get_or-eq_default t 0 (past l)) ∙ bit-zero (x % 8)
]
  where
    past : (x < 8 → ⊥) → length t ≤ x / 8
    past l = elim (dec_lt n 3) [
      | yes g ↦ let e : n - 3 ≡ 0 = omega arith in omega (arith, long, ap (λ (m : ℕ). 2 ^ m) e)
      | no g ↦ let e : n ≡ 3 + (n - 3) = omega arith
          in omega (arith, long, ap (λ (m : ℕ). 2 ^ m) e ∙ pow-add 2 3 (n - 3))
    ]

-- the word of the table at a multiple of 64 lies in it
pub word_there : (n : ℕ) (t : List ℕ) → length t ≡ table_length n → (f : ℕ) → f % 64 ≡ 0 → f < 2 ^ n → WordAt t f
word_there n t long f z l = elim (dec_lt n 6) [
  | yes g ↦
      let p = pow_mono {i = n - 3} {j = 2} (omega arith) in
      let q = pow_mono {i = n} {j = 5} (omega arith) in
      record { long = λ h. absurd (omega (arith, long, p)); short = λ h. omega (arith, q) }
  | no g ↦
      let e : n ≡ 6 + (n - 6) = omega arith in
      let d : n - 3 ≡ 3 + (n - 6) = omega arith in
      let p = ap (λ (m : ℕ). 2 ^ m) e ∙ pow-add 2 6 (n - 6) in
      let q = ap (λ (m : ℕ). 2 ^ m) d ∙ pow-add 2 3 (n - 6) in
      record {
        long = λ h. omega (arith, long, p, q);
        short = λ h. absurd (omega (arith, long, q, pow_mono {i = 0} {j = n - 6} (omega arith)));
      }
]

-- of two words that aren't the same, the lowest bit of their exclusive or is where they first differ
bit-xor : (a b j : ℕ) → bit (bit_xor a b) j ≡ apart a b j
bit-xor = by_digits bit_xor (λ s t. not (beq s t)) xor_shr xor_mod one
  where
    one : (s t : Bool) → eqb (bit_xor (val s) (val t)) 1 ≡ not (beq s t)
    one true true = refl
    one true false = refl
    one false true = refl
    one false false = refl

pub lowest_apart : (a b : ℕ) → a < 2 ^ 64 → b < 2 ^ 64 → (a ≡ b → ⊥)
    → (trailing_zeros w64 (bit_xor a b) ≡ least 64 (apart a b)) × (trailing_zeros w64 (bit_xor a b) < 64)
lowest_apart a b l g q =
    let x = bit_xor a b in
    let same : x ≡ 0 → a ≡ b = λ (z : x ≡ 0).
    sym (xor_zero_r a) ∙ ap (bit_xor a) (sym (xor_self b)) ∙ sym (xor_assoc a b b) ∙ ap (λ (y : ℕ). bit_xor y b) z in
    let some : 0 < x = elim (dec_lt 0 x) [ yes h ↦ h | no h ↦ absurd (q (same (omega arith))) ] in
    let h = bit_at-trailing_zeros w64 x some (xor_lt 64 a b l g) in
    let i = trailing_zeros w64 x in (
      sym (least-of 64 (apart a b) i (record {
        within = omega (arith, h.0);
        before = λ k p. sym (bit-xor a b k) ∙ ap (λ (d : ℕ). eqb d 1) (h.2 k p);
        here = λ _. sym (bit-xor a b i) ∙ ap (λ (d : ℕ). eqb d 1) h.1;
      })),
      h.0,
    )

-- the words of a table of n inputs: each starts within it, and they reach its end
pub word_begins : (n w : ℕ) → w < 2 ^ (n - 6) → 64 * w < 2 ^ n
word_begins n w h = elim (dec_lt n 6) [
  | yes g ↦ let z : n - 6 ≡ 0 = omega arith in omega (arith, ap (λ (m : ℕ). 2 ^ m) z, pow_pos n)
  | no g ↦ let z : n ≡ 6 + (n - 6) = omega arith in omega (arith, ap (λ (m : ℕ). 2 ^ m) z ∙ pow-add 2 6 (n - 6))
]

pub words_end : (n : ℕ) → 2 ^ n ≤ 64 * 2 ^ (n - 6)
words_end n = elim (dec_lt n 6) [
  | yes g ↦ let z : n - 6 ≡ 0 = omega arith in omega (arith, ap (λ (m : ℕ). 2 ^ m) z, pow_mono {i = n} {j = 6} (omega arith))
  | no g ↦ let z : n ≡ 6 + (n - 6) = omega arith in omega (arith, ap (λ (m : ℕ). 2 ^ m) z ∙ pow-add 2 6 (n - 6))
]

module _ (e : Edition) (n : ℕ) (s : List ℕ) (m : ℕ) (t : List ℕ) (long : length t ≡ table_length n)
    (spare : spare_clear n t ≡ true)
    (w a b : ℕ) (given : a ≡ sheet_word e n s m w)
    (asked : (k : ℕ) → 64 * w % 64 + k < 64 → bit b k ≡ table_bit t (64 * w + k))
  where
    abbrev f : ℕ
    f = 64 * w

    -- the sheet's word, place by place
    given_at : (k : ℕ) → k < 64 → bit a k ≡ (ltb (f + k) (2 ^ n) && sheet_bit e n s m (f + k))
    given_at k h =
        ap (λ (v : ℕ). bit v k) given ∙ bit-number 64 (λ i. ltb (f + i) (2 ^ n) && sheet_bit e n s m (f + i)) k h

    asked_at : (k : ℕ) → k < 64 → bit b k ≡ table_bit t (f + k)
    asked_at k h = asked k (omega arith)

    -- within the table a place differs exactly as its assignment does; past it none does
    inside : (k : ℕ) → k < 64 → f + k < 2 ^ n → apart a b k ≡ differs e n s m t (f + k)
    inside k h l =
        ap₂ (λ (u v : Bool). not (beq u v)) (given_at k h
        ∙ ap (λ (v : Bool). v && sheet_bit e n s m (f + k)) (lt-ltb (f + k) (2 ^ n) l)) (asked_at k h)

    past : (k : ℕ) → k < 64 → 2 ^ n ≤ f + k → apart a b k ≡ false
    past k h l =
        not-apart a b k (given_at k h ∙ ap (λ (v : Bool). v && sheet_bit e n s m (f + k)) (le-ltb (f + k) (2 ^ n) l)
        ∙ sym (asked_at k h ∙ spare_false n t long spare (f + k) l))

    -- the same word: no assignment of it differs
    pub same_word : a ≡ b → (x : ℕ) → f ≤ x → x < f + 64 → x < 2 ^ n → differs e n s m t x ≡ false
    same_word q x g h l =
        let k = x - f in
        let r : f + k ≡ x = omega arith in
        let i : k < 64 = omega arith in
        sym (inside k i (subst (λ (y : ℕ). y < 2 ^ n) (sym r) l) ∙ ap (differs e n s m t) r)
        ∙ not-apart a b k (ap (λ (v : ℕ). bit v k) q)

    -- different words, of 64 bits both: the lowest place at which they differ is the least assignment that does
    pub apart-word : (a ≡ b → ⊥) → b < 2 ^ 64 → ((x : ℕ) → x < f → x < 2 ^ n → differs e n s m t x ≡ false)
        → (f + least 64 (apart a b) ≡ first_difference e n s m t) × (f + least 64 (apart a b) < 2 ^ n)
    apart-word q w before =
        let i = least 64 (apart a b) in
        let l = is_least 64 (apart a b) in
        let h : i < 64 = low l in
        let g : f + i < 2 ^ n = within i h (l.here h) in (
          sym (least-of (2 ^ n) (differs e n s m t) (f + i) (record {
            within = omega arith;
            before = λ x p. early x p g;
            here = λ _. sym (inside i h g) ∙ l.here h;
          })),
          g,
        )
      where
        -- no place differs: then the words are the same
        equal : ((k : ℕ) → k < 64 → apart a b k ≡ false) → a ≡ b
        equal h =
            let p = sym (number_bit 64 a (subst (λ (v : ℕ). v < 2 ^ 64) (sym given) (number_lt 64 _))) in
            p ∙ number_ext 64 (bit a) (bit b) (λ k l. beq_same (bit a k) (bit b k)
            (not-false (beq (bit a k) (bit b k)) (h k l))) ∙ number_bit 64 b w

        low : IsLeast 64 (apart a b) (least 64 (apart a b)) → least 64 (apart a b) < 64
        low l = elim (dec_lt (least 64 (apart a b)) 64) [
          | yes h ↦ h
          | no h ↦ absurd (q (equal (λ k g. l.before k (omega arith))))
        ]

        within : (k : ℕ) → k < 64 → apart a b k ≡ true → f + k < 2 ^ n
        within k h p = elim (dec_lt (f + k) (2 ^ n)) [ yes l ↦ l | no l ↦ absurd (clash p (past k h (omega arith))) ]

        early : (x : ℕ) → x < f + least 64 (apart a b) → f + least 64 (apart a b) < 2 ^ n → differs e n s m t x ≡ false
        early x p g = elim (dec_lt x f) [
          | yes l ↦ before x l (omega arith)
          | no l ↦
              let k = x - f in
              let r : f + k ≡ x = omega arith in
              let d = is_least 64 (apart a b) in
              let i : k < 64 = omega (arith, d.within) in
              sym (inside k i (omega arith) ∙ ap (differs e n s m t) r) ∙ d.before k (omega arith)
        ]
