-- Whether the bit changes as input j is set, seen in words: where input j is one of the six that a word's places
-- number, the word's two halves are the same; where it numbers words, two words are. And it is enough to look where the
-- inputs that are known to be idle are 0. Assumes nothing.
use mathlib.Core.Path.{◌≡◌, refl, sym, ap, ap₂, ◌∙◌, subst}
use mathlib.Core.Bool.{Bool, true, false, not, ◌&&◌, ◌||◌, and-true, and-false}
use Prim.Native.Nat.{ℕ, ◌+◌, ◌-◌, ◌*◌, ◌/◌, ◌%◌, ◌^◌, ◌<◌, ◌≤◌}
use native.Mathlib.Nat.{lt_of_le_of_lt, div-le_self}
use native.Mathlib.Decide.{dec_lt}
use native.Mathlib.Omega.{arith}
use lib.Dec.{ltb, eqb}
use lib.Bits.{bit_and, and_le_l}
use lib.Pow.{pow-add, pow_mono}
use borrow.Author.Tests.{lt-ltb, le-ltb, eq-eqb, ne_eqb, eqb-true, not-false}
use Rattle.bits.specs.Numbers.{bit}
use Rattle.bits.specs.Sets.{size, gather, spread}
use Rattle.bits.proofs.Bools.{clash, and_left}
use Rattle.bits.proofs.Numbers.{bit_below, bit_high, bit-shr, bit-number, number_lt}
use Rattle.bits.proofs.Machine.{shl_one, bit-and}
use Rattle.bits.proofs.Sums.{bit_not}
use Rattle.bits.proofs.Single.{single, plus_bit, plus_lt}
use Rattle.bits.proofs.Spreading.{gather-lt, gather-bit, bit-spread, spread-lt}
use Rattle.bits.proofs.Members.{same_bits, inside_spread}
use Rattle.tables.specs.Table.{most_inputs}
use Rattle.tables.specs.Counting.{counts}
use Rattle.tables.specs.Words.{gate_word, LowerHalf, WordWithout, Steady, Compared, Live}
use Rattle.tables.proofs.Depending.{idle_steady}
use Rattle.tables.proofs.Over.{cleared}

-- the word of an assignment
pub word_lt : (n x : ℕ) → x < 2 ^ n → x / 64 < 2 ^ (n - 6)
word_lt n x h = elim (dec_lt n 6) [
  | yes g ↦ omega (arith, pow_mono {i = n} {j = 6} (omega arith), pow_mono {i = 0} {j = n - 6} (omega arith))
  | no g ↦ let e : 6 + (n - 6) ≡ n = omega arith in omega (arith, ap (λ (k : ℕ). 2 ^ k) e, pow-add 2 6 (n - 6))
]

-- m are the inputs of a mask that number words, but for j
pub record Others (n live j top m : ℕ) : Type 0 where
  pub at : top ≡ n - 6
  pub below : m < 2 ^ top
  pub words : (i : ℕ) → bit m i ≡ (bit live (6 + i) && not (eqb (6 + i) j))

other_words : (live j : ℕ) → live < 2 ^ 16 → j < 16 → (i : ℕ) → bit (bit_and live (2 ^ 16 - 1 - 2 ^ j) / 2 ^ 6) i
    ≡ (bit live (6 + i) && not (eqb (6 + i) j))
other_words live j small l i = bit-shr (bit_and live (2 ^ 16 - 1 - 2 ^ j)) 6 i
    ∙ bit-and live (2 ^ 16 - 1 - 2 ^ j) (6 + i) ∙ elim (dec_lt (6 + i) 16) [
      | yes h ↦
          let power : 2 ^ j < 2 ^ 16 = omega (arith, pow_mono {i = j} {j = 15} (omega arith)) in
          let one = ap (λ (m : ℕ). bit m (6 + i)) (sym (single 16 j l)) ∙ bit-number 16 (λ k. eqb k j) (6 + i) h in
          ap (λ (t : Bool). bit live (6 + i) && t) (bit_not 16 (2 ^ j) (6 + i) power h ∙ ap not one)
      | no h ↦
          let off = bit_high live 16 (6 + i) small (omega arith) in
          ap (λ (t : Bool). t && bit (2 ^ 16 - 1 - 2 ^ j) (6 + i)) off
          ∙ sym (ap (λ (t : Bool). t && not (eqb (6 + i) j)) off)
    ]

-- as `(live & !(1 << j)) >> 6`
pub others_are : (n live j top : ℕ) → n ≤ most_inputs → live < 2 ^ n → j < n → top ≡ n - 6
    → Others n live j top (bit_and live (65535 - 1 * 2 ^ j % 65536) / 64)
others_are n live j top most small l e =
    subst (λ (k : ℕ). Others n live j top (bit_and live (65535 - k) / 64)) (sym (shl_one 16 j (omega arith))) (record {
      at = e;
      below = subst (λ (k : ℕ). bit_and live (65535 - 2 ^ j) / 64 < 2 ^ k) (sym e)
          (word_lt n (bit_and live (65535 - 2 ^ j)) (lt_of_le_of_lt (and_le_l live (65535 - 2 ^ j)) small));
      words = other_words live j (omega (arith, pow_mono {i = n} {j = 16} most)) (omega arith);
    })

module _ (n : ℕ) (F : ℕ → Bool) (j : ℕ) (l : j < n) where
  -- two numbers that are the same where nothing changes, and by which nothing in word w does
  pub compared : (w a b : ℕ) → (((x : ℕ) → Steady n F j x) → a ≡ b)
      → (a ≡ b → (i : ℕ) → i < 64 → Steady n F j (64 * w + i)) → Compared n F j w (not (eqb a b))
  compared w a b there back = record {
    changes = λ e. go (counts n F j) refl e;
    steady = λ e. back (eqb-true a b (not-false (eqb a b) e));
  }
    where
      go : (t : Bool) → counts n F j ≡ t → not (eqb a b) ≡ true → t ≡ true
      go true q e = refl
      go false q e = sym (ap not (eq-eqb a b (there (idle_steady n F j l q)))) ∙ e

  -- ---- within a word
  module _ (w : ℕ) (six : j < 6) (m : ℕ) (half : LowerHalf j m) where
    abbrev o : ℕ
    o = gate_word n F w

    -- what the word has at place i, and at the place where input j is set
    place-bit : (i : ℕ) → bit (64 * w + i) j ≡ bit i j
    place-bit i = let e : 64 * w + i ≡ i + w * 2 ^ 6 = omega arith in ap (λ (x : ℕ). bit x j) e ∙ bit_below i w 6 j six

    here : (i : ℕ) → i < 64 → bit (bit_and o m) i ≡ ((ltb (64 * w + i) (2 ^ n) && F (64 * w + i)) && not (bit i j))
    here i h = bit-and o m i ∙ ap₂ ◌&&◌ (bit-number 64 (λ i. ltb (64 * w + i) (2 ^ n) && F (64 * w + i)) i h)
        (half six i h)

    there : (i : ℕ) → i < 64 → bit i j ≡ false
        → bit (bit_and (o / 2 ^ (2 ^ j)) m) i ≡ ((ltb (64 * w + i + 2 ^ j) (2 ^ n) && F (64 * w + i + 2 ^ j)) && true)
    there i h off =
        let q : 64 * w + (2 ^ j + i) ≡ 64 * w + i + 2 ^ j = omega arith in
        bit-and (o / 2 ^ (2 ^ j)) m i
        ∙ ap₂ ◌&&◌ (bit-shr o (2 ^ j) i ∙ bit-number 64 (λ i. ltb (64 * w + i) (2 ^ n) && F (64 * w + i)) (2 ^ j + i)
        (omega (arith, plus_lt 6 i j h six off))
        ∙ ap (λ (x : ℕ). ltb x (2 ^ n) && F x) q) (half six i h ∙ ap not off)

    pub halves_same : ((x : ℕ) → Steady n F j x) → bit_and (o / 2 ^ (2 ^ j)) m ≡ bit_and o m
    halves_same steady =
        same_bits 64 (bit_and (o / 2 ^ (2 ^ j)) m) (bit_and o m)
        (lt_of_le_of_lt (and_le_l (o / 2 ^ (2 ^ j)) m) (lt_of_le_of_lt (div-le_self o (2 ^ (2 ^ j))) small))
        (lt_of_le_of_lt (and_le_l o m) small)
        (λ i h. go i h (bit i j) refl)
      where
        small : o < 2 ^ 64
        small = number_lt 64 (λ i. ltb (64 * w + i) (2 ^ n) && F (64 * w + i))

        both : (i : ℕ) → i < 64 → bit i j ≡ false → (ltb (64 * w + i + 2 ^ j) (2 ^ n) && F (64 * w + i + 2 ^ j))
            ≡ (ltb (64 * w + i) (2 ^ n) && F (64 * w + i))
        both i h off = elim (dec_lt (64 * w + i) (2 ^ n)) [
          | yes g ↦ let x = place-bit i ∙ off in
              ap₂ ◌&&◌ (lt-ltb (64 * w + i + 2 ^ j) (2 ^ n) (plus_lt n (64 * w + i) j g l x)
              ∙ sym (lt-ltb (64 * w + i) (2 ^ n) g))
              (sym (steady (64 * w + i) g x))
          | no g ↦ ap₂ ◌&&◌ (le-ltb (64 * w + i + 2 ^ j) (2 ^ n) (omega arith)) refl
              ∙ sym (ap₂ ◌&&◌ (le-ltb (64 * w + i) (2 ^ n) (omega arith)) refl)
        ]

        go : (i : ℕ) → i < 64 → (t : Bool) → bit i j ≡ t → bit (bit_and (o / 2 ^ (2 ^ j)) m) i ≡ bit (bit_and o m) i
        go i h true on =
            bit-and (o / 2 ^ (2 ^ j)) m i ∙ ap (λ (t : Bool). bit (o / 2 ^ (2 ^ j)) i && t) (half six i h ∙ ap not on)
            ∙ and-false (bit (o / 2 ^ (2 ^ j)) i)
            ∙ sym (bit-and o m i ∙ ap (λ (t : Bool). bit o i && t) (half six i h ∙ ap not on) ∙ and-false (bit o i))
        go i h false off = there i h off ∙ ap (λ (t : Bool). t && true) (both i h off)
            ∙ sym (here i h ∙ ap (λ (t : Bool). (ltb (64 * w + i) (2 ^ n) && F (64 * w + i)) && not t) off)

    pub halves_steady : bit_and (o / 2 ^ (2 ^ j)) m ≡ bit_and o m → (i : ℕ) → i < 64 → Steady n F j (64 * w + i)
    halves_steady e i h g off =
        let low = sym (place-bit i) ∙ off in
        sym (ap (λ (t : Bool). (t && F (64 * w + i)) && true) (lt-ltb (64 * w + i) (2 ^ n) g)
        ∙ and-true (F (64 * w + i)))
        ∙ ap (λ (t : Bool). (ltb (64 * w + i) (2 ^ n) && F (64 * w + i)) && not t) (sym low) ∙ sym (here i h)
        ∙ ap (λ (x : ℕ). bit x i) (sym e) ∙ there i h low
        ∙ ap (λ (t : Bool). (t && F (64 * w + i + 2 ^ j)) && true)
        (lt-ltb (64 * w + i + 2 ^ j) (2 ^ n) (plus_lt n (64 * w + i) j g l off))
        ∙ and-true (F (64 * w + i + 2 ^ j))

  -- ---- between words
  module _ (w : ℕ) (more : 6 ≤ j) (without : WordWithout n j w) where
    step : 64 * 2 ^ (j - 6) ≡ 2 ^ j
    step = let e : 6 + (j - 6) ≡ j = omega arith in sym (pow-add 2 6 (j - 6)) ∙ ap (λ (k : ℕ). 2 ^ k) e

    whole : 64 * 2 ^ (n - 6) ≡ 2 ^ n
    whole = let e : 6 + (n - 6) ≡ n = omega arith in sym (pow-add 2 6 (n - 6)) ∙ ap (λ (k : ℕ). 2 ^ k) e

    pub other_lt : w + 2 ^ (j - 6) < 2 ^ (n - 6)
    other_lt = plus_lt (n - 6) w (j - 6) without.below (omega arith) (without.off more)

    word-bit : (w' i : ℕ) → w' < 2 ^ (n - 6) → i < 64 → bit (gate_word n F w') i ≡ F (64 * w' + i)
    word-bit w' i g h =
        bit-number 64 (λ i. ltb (64 * w' + i) (2 ^ n) && F (64 * w' + i)) i h
        ∙ ap (λ (t : Bool). t && F (64 * w' + i)) (lt-ltb (64 * w' + i) (2 ^ n) (omega (arith, whole)))

    other_bit : (i : ℕ) → i < 64 → bit (gate_word n F (w + 2 ^ (j - 6))) i ≡ F (64 * w + i + 2 ^ j)
    other_bit i h = let e : 64 * (w + 2 ^ (j - 6)) + i ≡ 64 * w + i + 2 ^ j = omega (arith, step)
        in word-bit (w + 2 ^ (j - 6)) i other_lt h ∙ ap F e

    off : (i : ℕ) → i < 64 → bit (64 * w + i) j ≡ false
    off i h =
        let e : 6 + (j - 6) ≡ j = omega arith in
        let q : (64 * w + i) / 2 ^ 6 ≡ w = omega arith in
        ap (bit (64 * w + i)) (sym e) ∙ sym (bit-shr (64 * w + i) 6 (j - 6)) ∙ ap (λ (x : ℕ). bit x (j - 6)) q
        ∙ without.off more

    pub words_same : ((x : ℕ) → Steady n F j x) → gate_word n F w ≡ gate_word n F (w + 2 ^ (j - 6))
    words_same steady =
        same_bits 64 (gate_word n F w) (gate_word n F (w + 2 ^ (j - 6))) (number_lt 64 _) (number_lt 64 _)
        (λ i h. word-bit w i without.below h ∙ steady (64 * w + i) (omega (arith, whole, without.below)) (off i h)
        ∙ sym (other_bit i h))

    pub words_steady : gate_word n F w ≡ gate_word n F (w + 2 ^ (j - 6)) → (i : ℕ) → i < 64 → Steady n F j (64 * w + i)
    words_steady e i h g _ = sym (word-bit w i without.below h) ∙ ap (λ (x : ℕ). bit x i) e ∙ other_bit i h

  -- ---- where idle inputs are 0: F sees the inputs of a mask alone, and m are those of them that number words, but for
  -- j
  module _ (live top m : ℕ) (lives : Live n F live j) (others : Others n live j top m) where
    abbrev S : ℕ → Bool
    S = bit live

    -- a word that m numbers has input j at 0
    pub without_j : (v : ℕ) → WordWithout n j (spread top (bit m) v)
    without_j v = record {
      below = subst (λ (k : ℕ). spread top (bit m) v < 2 ^ k) others.at (spread-lt top (bit m) v);
      off = λ more.
          let e : 6 + (j - 6) ≡ j = omega arith in
          bit-spread top (bit m) v (j - 6) (omega (arith, others.at))
          ∙ ap (λ (t : Bool). t && bit v (size (j - 6) (bit m)))
          (others.words (j - 6) ∙ ap₂ (λ (s t : Bool). s && not t) (ap S e ∙ lives.member)
          (eq-eqb (6 + (j - 6)) j e));
    }

    -- x with idle inputs at 0
    only : ℕ → ℕ
    only x = spread n S (gather n S x)

    only_bit : (x i : ℕ) → i < n → bit (only x) i ≡ (S i && bit (gather n S x) (size i S))
    unfolding only
    only_bit x i h = bit-spread n S (gather n S x) i h

    only_lt : (x : ℕ) → only x < 2 ^ n
    unfolding only
    only_lt x = spread-lt n S (gather n S x)

    only_off : (x : ℕ) → bit x j ≡ false → bit (only x) j ≡ false
    unfolding only
    only_off x off = bit-spread n S (gather n S x) j l
        ∙ ap (λ (t : Bool). t && bit (gather n S x) (size j S)) lives.member
        ∙ gather-bit n S x j l lives.member ∙ off

    -- setting input j there does what it does at x
    only_steady : (x : ℕ) → x < 2 ^ n → bit x j ≡ false → F (only x) ≡ F (only x + 2 ^ j) → F x ≡ F (x + 2 ^ j)
    unfolding only
    only_steady x h off e =
        sym (cleared n F S lives.sees x h) ∙ e
        ∙ lives.sees (only x + 2 ^ j) (x + 2 ^ j) (plus_lt n (only x) j (only_lt x) l (only_off x off))
        (plus_lt n x j h l off) (λ i g s.
        plus_bit n (only x) j (only_lt x) l (only_off x off) i g
        ∙ ap (λ (t : Bool). t || eqb i j) (only_bit x i g ∙ ap (λ (t : Bool). t && bit (gather n S x) (size i S)) s
        ∙ gather-bit n S x i g s)
        ∙ sym (plus_bit n x j h l off i g))

    -- and its word is one of those that m numbers
    only_word : (x : ℕ) → bit x j ≡ false → only x / 64 ≡ spread top (bit m) (gather top (bit m) (only x / 64))
    only_word x off =
        sym (inside_spread top (bit m) (only x / 64) (subst (λ (k : ℕ). only x / 64 < 2 ^ k) (sym others.at)
        (word_lt n (only x) (only_lt x))) (λ i h on.
        others.words i ∙ ap₂ (λ (s t : Bool). s && not t) (in_S i h on)
        (ne_eqb (6 + i) j (λ e. clash (high i on) (ap (bit (only x)) e ∙ only_off x off)))))
      where
        high : (i : ℕ) → bit (only x / 64) i ≡ true → bit (only x) (6 + i) ≡ true
        high i on = sym (bit-shr (only x) 6 i) ∙ on

        in_S : (i : ℕ) → i < top → bit (only x / 64) i ≡ true → S (6 + i) ≡ true
        in_S i h on = and_left (S (6 + i)) (bit (gather n S x) (size (6 + i) S))
            (sym (only_bit x (6 + i) (omega (arith, others.at))) ∙ high i on)

    pub enough_words : ((v : ℕ) → v < 2 ^ size top (bit m) → (i : ℕ) → i < 64
        → Steady n F j (64 * spread top (bit m) v + i)) → (x : ℕ) → Steady n F j x
    enough_words steady x h off =
        let y = only x in
        let v = gather top (bit m) (y / 64) in
        let e : 64 * spread top (bit m) v + y % 64 ≡ y = omega (arith, only_word x off) in
        let s : Steady n F j (64 * spread top (bit m) v + y % 64) = steady v (gather-lt top (bit m) (y / 64)) (y % 64)
        (omega arith) in
        only_steady x h off (at (64 * spread top (bit m) v + y % 64) y e s (only_lt x) (only_off x off))
      where
        at : (a b : ℕ) → a ≡ b → Steady n F j a → Steady n F j b
        at a b e s g o = ap F (sym e) ∙ s (omega arith) (ap (λ (z : ℕ). bit z j) e ∙ o)
            ∙ ap (λ (z : ℕ). F (z + 2 ^ j)) e
