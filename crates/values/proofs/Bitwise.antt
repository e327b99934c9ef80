-- `&`, `|`, `^` and `!` on the words of bits that functions have, and on stretches of four words. Assumes nothing.
use mathlib.Core.Path.{◌≡◌, refl, sym, ap, ap₂, ◌∙◌}
use mathlib.Core.List.{[], ◌∷◌}
use mathlib.Core.Bool.{Bool, true, false, not, ◌&&◌, ◌||◌}
use Prim.Native.Nat.{ℕ, zero, suc, ◌+◌, ◌-◌, ◌*◌, ◌/◌, ◌%◌, ◌^◌, ◌<◌, ◌≤◌}
use native.Mathlib.Nat.{pow-suc, add_comm}
use native.Mathlib.Omega.{arith}
use lib.Bits.{bit_and, bit_or, bit_xor, and_block, or_block, xor_block}
use lib.Dec.{ltb}
use lib.ListN.{get_or}
use Rattle.bits.specs.Numbers.{bit, val, number}
use Rattle.bits.proofs.Numbers.{bit_below, bit-number, bit-shr, number_ext, number_lt}
use Rattle.tables.specs.Words.{gate_word}
use Rattle.runs.specs.Words.{input_word}
use Rattle.runs.proofs.Choosing.{first_of}
use Rattle.values.specs.declared.stretches.Stretch.{Stretch}
use Rattle.values.specs.Formula.{Formula, letter, constant, negated, joined, one_of, join, value}
use Rattle.values.specs.Stretches.{word_of, four, stretch_of, alike, in_each, in_both, joined_by, word_in}

and-val : (s t : Bool) → bit_and (val s) (val t) ≡ val (s && t)
and-val true true = refl
and-val true false = refl
and-val false true = refl
and-val false false = refl

or-val : (s t : Bool) → bit_or (val s) (val t) ≡ val (s || t)
or-val true true = refl
or-val true false = refl
or-val false true = refl
or-val false false = refl

xor-val : (s t : Bool) → bit_xor (val s) (val t) ≡ val (one_of s t)
xor-val true true = refl
xor-val true false = refl
xor-val false true = refl
xor-val false false = refl

-- one bit more, on top
top : (n : ℕ) (f : ℕ → Bool) → number (suc n) f ≡ val (f n) * 2 ^ n + number n f
unfolding number
top n f = add_comm (number n f) (val (f n) * 2 ^ n)

-- a law on each bit is one on the words
words : (op : ℕ → ℕ → ℕ) (b : Bool → Bool → Bool) → op 0 0 ≡ 0 → ((s t : Bool) → op (val s) (val t) ≡ val (b s t))
    → ((k x y r s : ℕ) → r < 2 ^ k → s < 2 ^ k → op (x * 2 ^ k + r) (y * 2 ^ k + s) ≡ op x y * 2 ^ k + op r s)
    → (n : ℕ) (f g : ℕ → Bool) → op (number n f) (number n g) ≡ number n (λ j. b (f j) (g j))
unfolding number
words op b z v k zero f g = z
words op b z v k (suc n) f g =
    ap₂ op (top n f) (top n g)
    ∙ k n (val (f n)) (val (g n)) (number n f) (number n g) (number_lt n f) (number_lt n g)
    ∙ ap₂ (λ (x y : ℕ). x * 2 ^ n + y) (v (f n) (g n)) (words op b z v k n f g)
    ∙ sym (top n (λ j. b (f j) (g j)))

pub number-and : (n : ℕ) (f g : ℕ → Bool) → bit_and (number n f) (number n g) ≡ number n (λ j. f j && g j)
number-and = words bit_and (λ s t. s && t) refl and-val and_block

pub number-or : (n : ℕ) (f g : ℕ → Bool) → bit_or (number n f) (number n g) ≡ number n (λ j. f j || g j)
number-or = words bit_or (λ s t. s || t) refl or-val or_block

pub number-xor : (n : ℕ) (f g : ℕ → Bool) → bit_xor (number n f) (number n g) ≡ number n (λ j. one_of (f j) (g j))
number-xor = words bit_xor one_of refl xor-val xor_block

not-val : (t : Bool) (p : ℕ) → val t * p + val (not t) * p ≡ p
not-val true p = omega arith
not-val false p = omega arith

not-sum : (n : ℕ) (f : ℕ → Bool) → number n f + number n (λ j. not (f j)) + 1 ≡ 2 ^ n
unfolding number
not-sum zero f = refl
not-sum (suc n) f = omega (arith, not-sum n f, not-val (f n) (2 ^ n), pow-suc 2 n)

pub number-not : (n : ℕ) (f : ℕ → Bool) → 2 ^ n - 1 - number n f ≡ number n (λ j. not (f j))
number-not n f = omega (arith, not-sum n f)

-- ---- stretches

pub four-of : (f : ℕ → ℕ) (w : ℕ) {x₀ x₁ x₂ x₃ : ℕ} → x₀ ≡ f (4 * w + 0) → x₁ ≡ f (4 * w + 1) → x₂ ≡ f (4 * w + 2) → x₃
    ≡ f (4 * w + 3)
    → ◌≡◌ {A = Stretch} (record { words = x₀ ∷ x₁ ∷ x₂ ∷ x₃ ∷ [] }) (four f w)
four-of f w {x₀} {x₁} {x₂} {x₃} e₀ e₁ e₂ e₃ =
    ap₂ (λ (x y : ℕ). record { words = x ∷ y ∷ x₂ ∷ x₃ ∷ [] }) e₀ e₁
    ∙ ap₂ (λ (x y : ℕ). record { words = f (4 * w + 0) ∷ f (4 * w + 1) ∷ x ∷ y ∷ [] }) e₂ e₃

-- what holds of words holds of stretches
words_of : {f g : ℕ → ℕ} → ((i : ℕ) → f i ≡ g i) → (w : ℕ) → four f w ≡ four g w
words_of {f} {g} h w = four-of g w (h (4 * w + 0)) (h (4 * w + 1)) (h (4 * w + 2)) (h (4 * w + 3))

pub joined_words : (k : ℕ) (op : ℕ → ℕ → ℕ)
    → ((f g : ℕ → Bool) → op (number 64 f) (number 64 g) ≡ number 64 (λ i. join k (f i) (g i)))
    → (F G : Formula) (w : ℕ) → in_both op (stretch_of (value F) w) (stretch_of (value G) w)
    ≡ stretch_of (value (joined k F G)) w
unfolding stretch_of value
joined_words k op h F G w = words_of (λ i. h (λ x. value F (64 * i + x)) (λ x. value G (64 * i + x))) w

pub joined_stretch : (k : ℕ) (F G : Formula) (w : ℕ) → joined_by k (stretch_of (value F) w) (stretch_of (value G) w)
    ≡ stretch_of (value (joined k F G)) w
joined_stretch zero = joined_words 0 bit_and (number-and 64)
joined_stretch (suc zero) = joined_words 1 bit_xor (number-xor 64)
joined_stretch (suc (suc k)) = joined_words (suc (suc k)) bit_or (number-or 64)

pub not_stretch : (F : Formula) (w : ℕ) → in_each (λ x. 2 ^ 64 - 1 - x) (stretch_of (value F) w)
    ≡ stretch_of (value (negated F)) w
unfolding stretch_of value
not_stretch F w = words_of (λ i. number-not 64 (λ x. value F (64 * i + x))) w

pub digit_stretch : (t : Bool) (x : ℕ) → x ≡ number 64 (λ i. t) → (w : ℕ) → alike x ≡ stretch_of (value (constant t)) w
unfolding stretch_of value
digit_stretch t x e w = words_of {f = λ i. x} (λ i. e) w

pub letter_stretch : (j w : ℕ) → four (input_word j) w ≡ stretch_of (value (letter j)) w
unfolding stretch_of value
letter_stretch j w = refl

-- inputs below 8 are alike in all stretches, and the others number the stretches
pub input_within : (j w i : ℕ) → j < 8 → input_word j i ≡ input_word j (4 * w + i)
input_within j w i h =
    number_ext 64 (λ x. bit (64 * i + x) j) (λ x. bit (64 * (4 * w + i) + x) j)
    (λ x l.
    let q : 64 * i + x + w * 2 ^ 8 ≡ 64 * (4 * w + i) + x = omega arith in
    sym (bit_below (64 * i + x) w 8 j h) ∙ ap (λ (y : ℕ). bit y j) q)

pub input_across : (j w i : ℕ) → 8 ≤ j → i < 4 → input_word (j - 2) w ≡ input_word j (4 * w + i)
input_across j w i h k =
    number_ext 64 (λ x. bit (64 * w + x) (j - 2)) (λ x. bit (64 * (4 * w + i) + x) j)
    (λ x l.
    let a : j - 2 ≡ 6 + (j - 8) = omega arith in
    let b : 8 + (j - 8) ≡ j = omega arith in
    let c : (64 * w + x) / 2 ^ 6 ≡ (64 * (4 * w + i) + x) / 2 ^ 8 = omega arith in
    ap (bit (64 * w + x)) a ∙ sym (bit-shr (64 * w + x) 6 (j - 8)) ∙ ap (λ (y : ℕ). bit y (j - 8)) c
    ∙ bit-shr (64 * (4 * w + i) + x) 8 (j - 8) ∙ ap (bit (64 * (4 * w + i) + x)) b)

pub across : (j w : ℕ) {x : ℕ} → 8 ≤ j → x ≡ input_word (j - 2) w → alike x ≡ four (input_word j) w
across j w h e = four-of (input_word j) w (e ∙ input_across j w 0 h (omega arith))
    (e ∙ input_across j w 1 h (omega arith)) (e ∙ input_across j w 2 h (omega arith))
    (e ∙ input_across j w 3 h (omega arith))

-- ---- the words of a stretch

word-of : (f : ℕ → ℕ) (w k : ℕ) → k < 4 → word_in (four f w) k ≡ f (4 * w + k)
word-of f w zero h = refl
word-of f w (suc zero) h = refl
word-of f w (suc (suc zero)) h = refl
word-of f w (suc (suc (suc zero))) h = refl
word-of f w (suc (suc (suc (suc k)))) h = absurd (omega arith)

-- the word that stands at a place below four
pub word_at : (v : Stretch) (k : ℕ) → k < 4 → get_or v.words k 0 ≡ word_in v k
word_at v zero h = refl
word_at v (suc zero) h = refl
word_at v (suc (suc zero)) h = refl
word_at v (suc (suc (suc zero))) h = refl
word_at v (suc (suc (suc (suc k)))) h = absurd (omega arith)

-- and from 3 on the last
pub word_last : (v : Stretch) (k : ℕ) → (k ≡ 0 → ⊥) → (k ≡ 1 → ⊥) → (k ≡ 2 → ⊥) → get_or v.words 3 0 ≡ word_in v k
word_last v zero a b c = absurd (a refl)
word_last v (suc zero) a b c = absurd (b refl)
word_last v (suc (suc zero)) a b c = absurd (c refl)
word_last v (suc (suc (suc k))) a b c = refl

-- the word of byte i of a table, from the stretch of that byte
pub table-word : (n i : ℕ) (F : ℕ → Bool) {v : Stretch} {y o : ℕ} → 64 * (i / 8) < 2 ^ n → v ≡ stretch_of F (i / 32) → y
    ≡ word_in v (i / 8 % 4)
    → o ≡ number 64 (λ x. ltb x (2 ^ n) && bit y x) → o ≡ gate_word n F (i / 8)
unfolding stretch_of
table-word n i F {v} {y} {o} l e d f =
    let p : 4 * (i / 32) + i / 8 % 4 ≡ i / 8 = omega arith in
    let a : y ≡ word_of F (i / 8) =
    d ∙ ap (λ (v : Stretch). word_in v (i / 8 % 4)) e ∙ word-of (word_of F) (i / 32) (i / 8 % 4) (omega arith)
    ∙ ap (word_of F) p in
    f ∙ ap (λ (y : ℕ). number 64 (λ x. ltb x (2 ^ n) && bit y x)) a
    ∙ first_of n (i / 8) (word_of F (i / 8)) F l (λ x m o. sym (bit-number 64 (λ x. F (64 * (i / 8) + x)) x m))
