-- Words of 64 assignments: an input's word is a pattern or alike in all bits, and a cell's word is found by choosing
-- between the halves of its table, one induction over its inputs. Assumes nothing.
use mathlib.Core.Path.{◌≡◌, refl, sym, ap, ap₂, ◌∙◌}
use mathlib.Core.Bool.{Bool, true, false, cond, not, ◌&&◌}
use mathlib.Core.List.{List, [], ◌∷◌}
use Prim.Native.Nat.{ℕ, zero, suc, ◌+◌, ◌-◌, ◌*◌, ◌/◌, ◌%◌, ◌^◌, ◌<◌, ◌≤◌}
use native.Mathlib.Nat.{mod-lt, add-mul, mul_assoc, zero-add}
use native.Mathlib.Decide.{dec_lt}
use native.Mathlib.Omega.{arith}
use lib.Dec.{ltb, eqb, lit<}
use lib.ListN.{length, get_or, set, take, drop}
use lib.Pow.{pow_mono, pow_pos, pow-add}
use lib.Seq.{get_or-set_same, get_or-set_other}
use borrow.Author.Tests.{lt-ltb, le-ltb, ltb-true, ltb-false, eqb-true, eqb-false}
use Rattle.bits.specs.Numbers.{bit, val, number}
use Rattle.bits.specs.Patterns.{pattern}
use Rattle.bits.proofs.Numbers.{bit_below, bit-shr, bit-mod, bit-zero, number_bit, number_ext, number_lt, number-mod}
use Rattle.bits.proofs.Numbers.{val-lt}
use Rattle.bits.proofs.Sums.{number_append, bit_not}
use Rattle.bits.proofs.Filling.{Filled}
use Rattle.tables.specs.Table.{table_length, table_bit}
use Rattle.tables.specs.Words.{WordAt}
use Rattle.runs.specs.Words.{input_word, lane}
use Rattle.sheets.specs.declared.kinds.Edition.{Edition}
use Rattle.sheets.specs.Network.{output}
use Rattle.sheets.specs.Record.{byte_at, cell_bit, cell_of}
use Rattle.runs.specs.Running.{input_at, Runnable}
use Rattle.runs.proofs.Runs.{number_short, output_at, table-room, table-part, part_length}

-- ---- of a cell's table inputs 6 and 7 choose a word, and the others a bit of it

module _ (e : Edition) (r : List ℕ) (w : Runnable e r) (v : ℕ → Bool) {q : ℕ}
    (is : q ≡ number 2 (λ j. input_at (byte_at r) v (6 + j))) where
  abbrev part : List ℕ
  part = take (length r - e.start) (drop e.start r)

  abbrev f : ℕ → Bool
  f = input_at (byte_at r) v

  all : 64 * q + number 6 f ≡ number 8 f
  all = omega (arith, is, number_append 6 2 f)

  room : (64 * q + number 6 f) / 8 < length r - e.start
  room =
      let g : ℕ → Bool = λ j. v (byte_at r (j + 1)) in
      let h : 64 * q + number 6 f < 2 ^ byte_at r 0 =
      omega (
        arith,
        all,
        number_short (byte_at r 0) 8 g (omega (arith, w.sound.eight, w.readable.few)),
        number_lt
            (byte_at r 0) g,
      ) in
      omega (arith, w.long, table-room e w.sound (byte_at r 0) (64 * q + number 6 f) w.readable.few h)

  pub word_there : WordAt part (64 * q)
  word_there = record {
    long = λ h. elim (dec_lt e.most 6) [ yes g ↦ absurd (short h g) | no g ↦ long (omega arith) ];
    short = λ h. omega (arith, room, part_length e r);
  }
    where
      short : 8 ≤ length part → e.most < 6 → ⊥
      short h g = omega (
        arith,
        w.long,
        part_length e r,
        w.sound.ends,
        pow_mono {i = e.most - 3} {j = 2}
            (omega arith),
      )

      long : 6 ≤ e.most → 8 * (64 * q / 64) + 8 ≤ length part
      long g =
          let z : e.most - 3 ≡ 3 + (e.most - 6) = omega arith in
          omega (
            arith,
            room,
            w.long,
            part_length e r,
            w.sound.ends,
            ap (λ (k : ℕ). 2 ^ k) z
                ∙ pow-add 2 3 (e.most - 6),
          )

  pub output-word : (t : ℕ) → ((k : ℕ) → 64 * q % 64 + k < 64 → bit t k ≡ table_bit part (64 * q + k))
      → bit t (number 6 f) ≡ output (cell_of e (byte_at r)) v
  output-word t at =
      at (number 6 f) (omega (arith, number_lt 6 f)) ∙ table-part e r (64 * q + number 6 f) room
      ∙ ap (cell_bit e (byte_at r)) all
      ∙ sym (output_at e (byte_at r) v 8 (omega (arith, w.sound.eight, w.readable.few)))

-- ---- an input's word

pub input_low : (j w : ℕ) → j < 6 → pattern j ≡ input_word j w
unfolding pattern
input_low j w h =
    number_ext 64 (λ x. bit x j) (λ i. bit (64 * w + i) j)
    (λ i l. let q : i + w * 2 ^ 6 ≡ 64 * w + i = omega arith in sym (bit_below i w 6 j h) ∙ ap (λ (x : ℕ). bit x j) q)

pub input_high : (j w : ℕ) (t : Bool) → 6 ≤ j → bit w (j - 6) ≡ t → input_word j w ≡ number 64 (λ i. t)
input_high j w t h e =
    number_ext 64 (λ i. bit (64 * w + i) j) (λ i. t)
    (λ i l.
    let p : j ≡ 6 + (j - 6) = omega arith in
    let q : (64 * w + i) / 2 ^ 6 ≡ w = omega arith in
    ap (bit (64 * w + i)) p ∙ sym (bit-shr (64 * w + i) 6 (j - 6)) ∙ ap (λ (x : ℕ). bit x (j - 6)) q ∙ e)

-- ---- the word of a pair of bits: 0, the turned word of input 0, that word, or all ones

abbrev pub four : ℕ → List ℕ
four s = 0 ∷ (2 ^ 64 - 1 - s) ∷ s ∷ (2 ^ 64 - 1 - 0) ∷ []

four-bit : (s i z : ℕ) → s < 2 ^ 64 → i < 64 → z < 4 → bit (get_or (four s) z 0) i ≡ bit z (val (bit s i))
four-bit s i zero l h g = bit-zero i ∙ sym (bit-zero (val (bit s i)))
four-bit s i (suc zero) l h g = bit_not 64 s i l h ∙ go (bit s i)
  where
    go : (t : Bool) → not t ≡ bit 1 (val t)
    go true = refl
    go false = refl
four-bit s i (suc (suc zero)) l h g = go (bit s i)
  where
    go : (t : Bool) → t ≡ bit 2 (val t)
    go true = refl
    go false = refl
four-bit s i (suc (suc (suc zero))) l h g = bit_not 64 0 i (lit< tt) h ∙ ap not (bit-zero i) ∙ go (bit s i)
  where
    go : (t : Bool) → true ≡ bit 3 (val t)
    go true = refl
    go false = refl
four-bit s i (suc (suc (suc (suc z)))) l h g = absurd (omega arith)

pub pair_bit : (t : List ℕ) (s h i : ℕ) → s < 2 ^ 64 → i < 64
    → bit (get_or (four s) (get_or t (h / 4) 0 / 2 ^ (2 * (h % 4)) % 4) 0) i ≡ table_bit t (2 * h + val (bit s i))
pair_bit t s h i l g =
    let y = get_or t (h / 4) 0 / 2 ^ (2 * (h % 4)) in
    let b = val (bit s i) in
    let u = val-lt (bit s i) in
    let p : h / 4 ≡ (2 * h + b) / 8 = omega arith in
    let q : 2 * (h % 4) + b ≡ (2 * h + b) % 8 = omega arith in
    four-bit s i (y % 4) l g (mod-lt y (lit< tt)) ∙ bit-mod y 2 b (omega arith)
    ∙ bit-shr (get_or t (h / 4) 0) (2 * (h % 4)) b ∙ ap₂ (λ (a c : ℕ). bit (get_or t a 0) c) p q

-- ---- a cell's word, in one of its bits: T is the cell's table, f its inputs' values there, 1 + n of them

-- place h with what the inputs of g from j on make above it
abbrev above : ℕ → (ℕ → Bool) → ℕ → ℕ → ℕ
above n g j h = h + number (n - j) (λ i. g (j + i)) * 2 ^ j

above_more : (n : ℕ) (g : ℕ → Bool) (j h : ℕ) → j < n → above n g (j + 1) (h + val (g j) * 2 ^ j) ≡ above n g j h
unfolding number
above_more n g j h l =
    let r = number (n - (j + 1)) (λ i. g (j + 1 + i)) in
    let q : n - j ≡ 1 + (n - (j + 1)) = omega arith in
    let z : j + 0 ≡ j = omega arith in
    let e : number (n - j) (λ i. g (j + i)) ≡ val (g j) + r * 2 =
    ap (λ (k : ℕ). number k (λ i. g (j + i))) q ∙ number_append 1 (n - (j + 1)) (λ i. g (j + i))
    ∙ ap₂ (λ (a b : ℕ). a + b * 2) (ap (λ (i : ℕ). 0 + val (g i) * 2 ^ 0) z ∙ omega arith)
    (number_ext (n - (j + 1)) (λ i. g (j + (1 + i))) (λ i. g (j + 1 + i))
    (λ i k. let p : j + (1 + i) ≡ j + 1 + i = omega arith in ap g p)) in
    let d : (val (g j) + r * 2) * 2 ^ j ≡ val (g j) * 2 ^ j + r * 2 ^ (j + 1) =
    add-mul (val (g j)) (r * 2) (2 ^ j) ∙ ap (λ (x : ℕ). val (g j) * 2 ^ j + x)
    (mul_assoc r 2 (2 ^ j) ∙ ap (λ (x : ℕ). r * x) p) in
    omega (arith, ap (λ (x : ℕ). x * 2 ^ j) e, d)
  where
    p : 2 * 2 ^ j ≡ 2 ^ (j + 1)
    p = omega (arith, pow-add 2 j 1)

module _ (T f : ℕ → Bool) (n : ℕ) where
  -- what is left at place h where input 0 and the inputs above j have chosen
  abbrev pub left : ℕ → ℕ → Bool
  left j h = T (2 * above n (λ i. f (1 + i)) j h + val (f 0))

  pub left-none : (h : ℕ) → left n h ≡ T (2 * h + val (f 0))
  unfolding number
  left-none h =
      let q : n - n ≡ 0 = omega arith in
      ap (λ (x : ℕ). T (2 * x + val (f 0))) (ap (λ (k : ℕ). h + number k (λ i. f (1 + (n + i))) * 2 ^ n) q
      ∙ omega arith)

  -- input 1 + j chooses too
  pub left_more : (j h : ℕ) → j < n → left j h ≡ cond (f (1 + j)) (left (j + 1) (2 ^ j + h)) (left (j + 1) h)
  left_more j h l = ap (λ (x : ℕ). T (2 * x + val (f 0))) (sym (above_more n (λ i. f (1 + i)) j h l)) ∙ go (f (1 + j))
    where
      at : ℕ → Bool
      at x = left (j + 1) x

      go : (t : Bool) → at (h + val t * 2 ^ j) ≡ cond t (at (2 ^ j + h)) (at h)
      go true = let q : h + 1 * 2 ^ j ≡ 2 ^ j + h = omega arith in ap at q
      go false = let q : h + 0 * 2 ^ j ≡ h = omega arith in ap at q

  pub left_all : left 0 0 ≡ T (number (1 + n) f)
  unfolding number
  left_all =
      let q : n - 0 ≡ n = omega arith in
      let e : number (n - 0) (λ i. f (1 + (0 + i))) ≡ number n (λ i. f (1 + i)) =
      ap (λ (k : ℕ). number k (λ i. f (1 + (0 + i)))) q
      ∙ number_ext n (λ i. f (1 + (0 + i))) (λ i. f (1 + i))
      (λ i l. let p : 1 + (0 + i) ≡ 1 + i = omega arith in ap f p) in
      ap T (omega (arith, e, number_append 1 n f))

-- ---- words in places

-- what was stored from the front, read in one of its bits
pub lane_filled : {end : ℕ} {f : ℕ → ℕ} {before after : List ℕ} {i : ℕ} → Filled 0 end f before after i → (j h : ℕ) → h
    < i → lane after j h ≡ bit (f h) j
lane_filled {after = after} w j h l = ap (λ (m : ℕ). lane after j m) (sym (zero-add h))
    ∙ ap (λ (x : ℕ). bit x j) (w.new h l)

pub lane-set : (words : List ℕ) (t o i h : ℕ) → t < length words → lane (set words t o) i h
    ≡ cond (eqb h t) (bit o i) (lane words i h)
lane-set words t o i h l = go (eqb h t) refl
  where
    go : (b : Bool) → eqb h t ≡ b → lane (set words t o) i h ≡ cond b (bit o i) (lane words i h)
    go true q = ap (λ (x : ℕ). lane (set words t o) i x) (eqb-true h t q)
        ∙ ap (λ (x : ℕ). bit x i) (get_or-set_same words t o 0 l)
    go false q = ap (λ (x : ℕ). bit x i) (get_or-set_other words t h o 0 (eqb-false h t q))

-- the places of v hold what is left of a cell's table where input 0 and those above j, of 1 + n, have chosen
module _ (e : Edition) (b : ℕ → ℕ) (words : List ℕ) (n : ℕ) where
  abbrev at : ℕ → ℕ → ℕ → Bool
  at i = left (cell_bit e b) (input_at b (lane words i)) n

  abbrev pub Left : List ℕ → ℕ → Type 0
  Left v j = (h i : ℕ) → h < 2 ^ j → i < 64 → lane v i h ≡ at i j h

  pub left-halved : (v v' : List ℕ) (s half j : ℕ) → 0 < j → j ≤ n → half ≡ 2 ^ (j - 1)
      → ((i : ℕ) → bit s i ≡ input_at b (lane words i) j)
      → ((h i : ℕ) → h < half → i < 64 → lane v' i h ≡ cond (bit s i) (lane v i (half + h)) (lane v i h)) → Left v j
      → Left v' (j - 1)
  left-halved v v' s half j p l q f g w h i m k =
      let r : 1 + (j - 1) ≡ j = omega arith in
      let t : j - 1 + 1 ≡ j = omega arith in
      let u = pow-add 2 (j - 1) 1 in
      let z = ap (λ (x : ℕ). 2 ^ x) t in
      g h i (omega arith) k ∙ ap (λ (c : Bool). cond c (lane v i (half + h)) (lane v i h))
      (f i ∙ ap (input_at b (lane words i)) (sym r))
      ∙ ap₂ (cond (input_at b (lane words i) (1 + (j - 1))))
      (w (half + h) i (omega arith) k ∙ ap₂ (at i) (sym t) (ap (λ (x : ℕ). x + h) q))
      (w h i (omega arith) k ∙ ap (λ (x : ℕ). at i x h) (sym t))
      ∙ sym (left_more (cell_bit e b) (input_at b (lane words i)) n (j - 1) h (omega arith))

  pub left-output : (v : List ℕ) → b 0 ≤ 1 + n → Left v 0 → (i : ℕ) → i < 64 → lane v i 0
      ≡ output (cell_of e b) (lane words i)
  left-output v h w i l =
      w 0 i (lit< tt) l ∙ left_all (cell_bit e b) (input_at b (lane words i)) n
      ∙ sym (output_at e b (lane words i) (1 + n) h)

-- ---- a word's first 2 ^ n bits

pub first_short : (n o : ℕ) → n < 6 → o % 2 ^ (2 ^ n) ≡ number 64 (λ i. ltb i (2 ^ n) && bit o i)
first_short n o h = sym (number-mod (2 ^ n) o)
    ∙ sym (number_short (2 ^ n) 64 (bit o) (omega (arith, pow_mono {i = n} {j = 6} (omega arith))))

pub first_whole : (n o : ℕ) → 6 ≤ n → o < 2 ^ 64 → o ≡ number 64 (λ i. ltb i (2 ^ n) && bit o i)
first_whole n o h l =
    sym (number_bit 64 o l)
    ∙ number_ext 64 (bit o) (λ i. ltb i (2 ^ n) && bit o i)
    (λ i g. sym (ap (λ (t : Bool). t && bit o i) (lt-ltb i (2 ^ n) (omega (arith, pow_mono {i = 6} {j = n} h)))))

-- are those of F from 64 w on
pub first_of : (n w o : ℕ) (F : ℕ → Bool) → 64 * w < 2 ^ n
    → ((i : ℕ) → i < 64 → 64 * w + i < 2 ^ n → F (64 * w + i) ≡ bit o i)
    → number 64 (λ i. ltb i (2 ^ n) && bit o i) ≡ number 64 (λ i. ltb (64 * w + i) (2 ^ n) && F (64 * w + i))
first_of n w o F some at =
    number_ext 64 (λ i. ltb i (2 ^ n) && bit o i) (λ i. ltb (64 * w + i) (2 ^ n) && F (64 * w + i))
    (λ i l. go i l (ltb (64 * w + i) (2 ^ n)) refl)
  where
    past : (i : ℕ) → i < 64 → 2 ^ n ≤ 64 * w + i → 2 ^ n ≤ i
    past i l h = elim (dec_lt n 6) [
      | yes g ↦ omega (arith, pow_mono {i = n} {j = 5} (omega arith))
      | no g ↦ let q : 6 + (n - 6) ≡ n = omega arith
          in absurd (omega (arith, ap (λ (k : ℕ). 2 ^ k) q, pow-add 2 6 (n - 6)))
    ]

    go : (i : ℕ) → i < 64 → (t : Bool) → ltb (64 * w + i) (2 ^ n) ≡ t → (ltb i (2 ^ n) && bit o i)
        ≡ (t && F (64 * w + i))
    go i l true q =
        let h = ltb-true (64 * w + i) (2 ^ n) q in
        ap (λ (t : Bool). t && bit o i) (lt-ltb i (2 ^ n) (omega arith)) ∙ sym (at i l h)
    go i l false q = ap (λ (t : Bool). t && bit o i) (le-ltb i (2 ^ n) (past i l (ltb-false (64 * w + i) (2 ^ n) q)))

-- byte i of a table is in a word of it
pub word_starts : (n i : ℕ) → i < table_length n → 64 * (i / 8) < 2 ^ n
word_starts n i h = elim (dec_lt n 3) [
  | yes l ↦ let z : n - 3 ≡ 0 = omega arith in omega (arith, ap (λ (k : ℕ). 2 ^ k) z, pow_pos n)
  | no l ↦ let q : 3 + (n - 3) ≡ n = omega arith in omega (arith, ap (λ (k : ℕ). 2 ^ k) q, pow-add 2 3 (n - 3))
]
