-- The first bits of a number are what a division leaves; the words of a gate's table. Assumes nothing.
use mathlib.Core.Path.{◌≡◌, sym, ap, ap₂, ◌∙◌}
use mathlib.Core.Bool.{Bool, false, ◌&&◌}
use Prim.Native.Nat.{ℕ, ◌+◌, ◌-◌, ◌*◌, ◌%◌, ◌^◌, ◌<◌, ◌≤◌}
use native.Mathlib.Nat.{add-mul-mod_self_right, mod-eq_of_lt, zero-add}
use native.Mathlib.Decide.{dec_lt}
use native.Mathlib.Omega.{arith}
use lib.Dec.{ltb}
use lib.Pow.{pow-add, pow_mono, pow_pos}
use borrow.Author.Tests.{lt-ltb, le-ltb}
use Rattle.bits.specs.Numbers.{number}
use Rattle.bits.proofs.Numbers.{number_lt, number_ext, none-zero}
use Rattle.bits.proofs.Sums.{number_append}
use Rattle.tables.specs.Words.{gate_word}

-- the first a bits of m
pub first-bits : (a m : ℕ) (f : ℕ → Bool) → a ≤ m → number m f % 2 ^ a ≡ number a f
first-bits a m f h =
    let e : m ≡ a + (m - a) = omega arith in
    ap (λ (k : ℕ). number k f % 2 ^ a) e ∙ ap (λ (x : ℕ). x % 2 ^ a) (number_append a (m - a) f)
    ∙ add-mul-mod_self_right (number a f) (number (m - a) (λ t. f (a + t))) (2 ^ a) ∙ mod-eq_of_lt (number_lt a f)

-- F below a, and 0 from there on
abbrev cut : ℕ → (ℕ → Bool) → ℕ → Bool
cut a F x = ltb x a && F x

-- from a on there is nothing
pub cut_none : (a b k : ℕ) (F : ℕ → Bool) → a ≤ b → number k (λ i. cut a F (b + i)) ≡ 0
cut_none a b k F h =
    number_ext k (λ i. cut a F (b + i)) (λ i. false)
    (λ i l. ap (λ (t : Bool). t && F (b + i)) (le-ltb (b + i) a (omega arith)))
    ∙ none-zero k

pub cut_number : (a m : ℕ) (F : ℕ → Bool) → a ≤ m → number m (λ x. ltb x a && F x) ≡ number a F
cut_number a m F h =
    let k = m - a in
    let e : m ≡ a + k = omega arith in
    ap (λ (i : ℕ). number i (cut a F)) e ∙ number_append a k (cut a F)
    ∙ ap₂ (λ (x y : ℕ). x + y * 2 ^ a) (number_ext a (cut a F) F (λ i l. ap (λ (t : Bool). t && F i) (lt-ltb i a l)))
    (cut_none a a k F (omega arith))
    ∙ omega arith

-- ---- the words of a table of n inputs

-- with 6 or fewer one, full with 6
pub short_word : (n : ℕ) (F : ℕ → Bool) → n ≤ 6 → number (2 ^ n) F ≡ gate_word n F 0
short_word n F h =
    sym (number_ext 64 (λ i. ltb (0 + i) (2 ^ n) && F (0 + i)) (cut (2 ^ n) F) (λ i l. ap (cut (2 ^ n) F) (zero-add i))
    ∙ cut_number (2 ^ n) 64 F (pow_mono {i = n} {j = 6} h))

-- with 6 or more all are full
pub full_word : (n : ℕ) (F : ℕ → Bool) (w : ℕ) → 6 ≤ n → w < 2 ^ (n - 6) → number 64 (λ i. F (64 * w + i))
    ≡ gate_word n F w
full_word n F w h l =
    let e : 6 + (n - 6) ≡ n = omega arith in
    number_ext 64 (λ i. F (64 * w + i)) (λ i. ltb (64 * w + i) (2 ^ n) && F (64 * w + i))
    (λ i g. sym (ap (λ (t : Bool). t && F (64 * w + i))
    (lt-ltb (64 * w + i) (2 ^ n) (omega (arith, ap (λ (k : ℕ). 2 ^ k) e, pow-add 2 6 (n - 6))))))

-- all bits of n inputs lie in the words that these make
pub within_words : (n : ℕ) → 2 ^ n ≤ 64 * 2 ^ (n - 6)
within_words n = elim (dec_lt n 6) [
  | yes l ↦ omega (arith, pow_mono {i = n} {j = 6} (omega arith), pow_pos (n - 6))
  | no l ↦ let e : n ≡ 6 + (n - 6) = omega arith in omega (arith, ap (λ (m : ℕ). 2 ^ m) e ∙ pow-add 2 6 (n - 6))
]

-- and past those there is nothing
pub past_words : (n w : ℕ) (F : ℕ → Bool) → 2 ^ (n - 6) ≤ w → gate_word n F w ≡ 0
past_words n w F h = cut_none (2 ^ n) (64 * w) 64 F (omega (arith, within_words n))

-- the bits of one word that lie in the table
pub part-word : (n w stop : ℕ) (F : ℕ → Bool) → stop ≤ 64 → 64 * w + stop ≤ 2 ^ n → (stop < 64 → 2 ^ n ≤ 64 * w + stop)
    → number stop (λ i. F (64 * w + i)) ≡ gate_word n F w
part-word n w stop F most within rest =
    sym (number_ext 64 (λ i. ltb (64 * w + i) (2 ^ n) && F (64 * w + i)) (λ i. ltb i stop && F (64 * w + i))
    (λ i l. ap (λ (t : Bool). t && F (64 * w + i)) (same i l)) ∙ cut_number stop 64 (λ i. F (64 * w + i)) most)
  where
    same : (i : ℕ) → i < 64 → ltb (64 * w + i) (2 ^ n) ≡ ltb i stop
    same i l = elim (dec_lt i stop) [
      | yes g ↦ lt-ltb (64 * w + i) (2 ^ n) (omega arith) ∙ sym (lt-ltb i stop g)
      | no g ↦ let r = rest (omega arith) in le-ltb (64 * w + i) (2 ^ n) (omega arith)
          ∙ sym (le-ltb i stop (omega arith))
    ]
