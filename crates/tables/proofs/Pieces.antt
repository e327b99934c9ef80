-- A table over the members of a mask, in pieces: what the members from position 6 on spread to names a word, and what
-- those below 6 do a place within it. Assumes nothing.
use mathlib.Core.Path.{◌≡◌, refl, sym, ap, ap₂, ◌∙◌}
use mathlib.Core.Bool.{Bool, true, false, ◌&&◌, ◌||◌}
use mathlib.Core.List.{List}
use Prim.Native.Nat.{ℕ, zero, suc, ◌+◌, ◌-◌, ◌*◌, ◌/◌, ◌%◌, ◌^◌, ◌<◌, ◌≤◌}
use native.Mathlib.Nat.{add-zero, add_comm, add-mul, mul_assoc, suc-mul, mul-le-mul_right, mod-lt, mod-eq_of_lt}
use native.Mathlib.Decide.{dec_lt}
use native.Mathlib.Omega.{arith}
use lib.Dec.{lit<}
use lib.ListN.{length}
use lib.Pow.{pow-add, pow_mono, shl-shr, high}
use Rattle.bits.specs.Numbers.{bit, val, number}
use Rattle.bits.specs.Sets.{word_positions, Apart, size, spread}
use Rattle.bits.proofs.Bools.{clash, false_of, and_left}
use Rattle.bits.proofs.Building.{joined, joined_fits}
use Rattle.bits.proofs.Members.{spread_low}
use Rattle.bits.proofs.Numbers.{number_lt, number_ext, number-mod, number_bit, none-zero, bit-number, bit_below}
use Rattle.bits.proofs.Numbers.{bit_high, bit-mod, bit-shr, top_low, top_high}
use Rattle.bits.proofs.Sizes.{size-le, size_more, size_ext}
use Rattle.bits.proofs.Spreading.{bit-spread, spread-lt, spread_more, spread_ext}
use Rattle.bits.proofs.Sums.{number_append, number-join}
use Rattle.tables.specs.Table.{table_bit}
use Rattle.tables.specs.Words.{WordAt}

-- a byte of a table, taken from the word that has it
pub word_byte : (f : ℕ → Bool) (i w : ℕ) → w ≡ number 64 (λ j. f (64 * (i / 8) + j)) → w / 2 ^ (8 * (i % 8)) % 2 ^ 8
    ≡ number 8 (λ j. f (i * 8 + j))
word_byte f i w e =
    sym (number-mod 8 (w / 2 ^ (8 * (i % 8)))) ∙ number_ext 8 (bit (w / 2 ^ (8 * (i % 8)))) (λ j. f (i * 8 + j)) (λ j l.
    let at : 64 * (i / 8) + (8 * (i % 8) + j) ≡ i * 8 + j = omega arith in
    bit-shr w (8 * (i % 8)) j ∙ ap (λ (y : ℕ). bit y (8 * (i % 8) + j)) e
    ∙ bit-number 64 (λ j. f (64 * (i / 8) + j)) (8 * (i % 8) + j) (omega arith) ∙ ap f at)

-- an assignment's word lies in the table
pub word_at : (n : ℕ) (t : List ℕ) (p : ℕ) → 2 ^ n ≤ 8 * length t → p < 2 ^ n → WordAt t p
word_at n t p room l = record { long = long; short = λ h. omega arith }
  where
    long : 8 ≤ length t → 8 * (p / 64) + 8 ≤ length t
    long h = elim (dec_lt n 6) [
      | yes g ↦ omega (arith, pow_mono {i = n} {j = 6} (omega arith))
      | no g ↦ let e : n ≡ 6 + (n - 6) = omega arith in omega (arith, ap (λ (m : ℕ). 2 ^ m) e ∙ pow-add 2 6 (n - 6))
    ]

-- what has no member of the mask stays an assignment as the mask's are added
pub apart-lt : (n a m v : ℕ) → a < 2 ^ n → Apart n (bit a) (bit m) → a + spread n (bit m) v < 2 ^ n
unfolding spread
apart-lt n a m v l apart =
    let g : ℕ → Bool = λ j. bit m j && bit v (size j (bit m)) in
    omega (
      arith,
      number_bit n a l,
      number-join n (bit a) g
          (λ j h e. off (bit m j) (bit v (size j (bit m))) (λ q. clash e (apart j h q))),
      number_lt n
          (λ j. bit a j || g j),
    )
  where
    off : (s t : Bool) → (s ≡ true → ⊥) → (s && t) ≡ false
    off true t h = absurd (h refl)
    off false t h = refl

-- what is spread over a mask has bits at its members alone
pub spread-part : (n m v j : ℕ) → bit (spread n (bit m) v) j ≡ true → bit m j ≡ true
spread-part n m v j e = elim (dec_lt j n) [
  | yes l ↦ and_left (bit m j) _ (sym (bit-spread n (bit m) v j l) ∙ e)
  | no l ↦ absurd (clash e (bit_high (spread n (bit m) v) n j (spread-lt n (bit m) v) (omega arith)))
]

-- the mask's members from position 6 on
abbrev above : ℕ → ℕ
above m = m / 2 ^ word_positions * 2 ^ word_positions

pub above-part : (m j : ℕ) → bit (above m) j ≡ true → bit m j ≡ true
above-part m j e = elim (dec_lt j word_positions) [
  | yes l ↦ absurd (clash e (top_low m word_positions j l))
  | no l ↦ sym (top_high m word_positions j (omega arith)) ∙ e
]

-- their parts step from word to word
pub above_whole : (n m v : ℕ) → spread n (bit (above m)) v % 64 ≡ 0
above_whole n m v =
    sym (number-mod word_positions (spread n (bit (above m)) v))
    ∙ number_ext word_positions (bit (spread n (bit (above m)) v)) (λ j. false) (λ j l.
    false_of _ (λ e. clash (spread-part n (above m) v j e) (top_low m word_positions j l))) ∙ none-zero word_positions

-- past the mask's own positions nothing is spread
spread_wide : (n e m v : ℕ) → m < 2 ^ n → spread (n + e) (bit m) v ≡ spread n (bit m) v
spread_wide n zero m v h = ap (λ (i : ℕ). spread i (bit m) v) (add-zero n)
spread_wide n (suc e) m v h =
    let i : n + suc e ≡ n + e + 1 = omega arith in
    let none = ap (λ (t : Bool). val (t && bit v (size (n + e) (bit m))) * 2 ^ (n + e))
    (bit_high m n (n + e) h (omega arith)) in
    ap (λ (i : ℕ). spread i (bit m) v) i ∙ spread_more (n + e) (bit m) v ∙ omega (arith, none, spread_wide n e m v h)

-- c and u, one above the other: c goes to the members from 6 on, u to those below
module _ (m c u : ℕ) (small : u < 2 ^ size word_positions (bit m)) where
  abbrev k : ℕ
  k = size word_positions (bit m)

  abbrev v : ℕ
  v = c * 2 ^ k + u

  sizes : (e : ℕ) → size (6 + e) (bit m) ≡ k + size (6 + e) (bit (above m))
  unfolding size
  sizes zero = sym (ap (λ (i : ℕ). k + i) (size_ext 6 (bit (above m)) (λ j. false) (λ j l. top_low m 6 j l))
      ∙ add-zero k)
  sizes (suc e) =
      let i : 6 + suc e ≡ 6 + e + 1 = omega arith in
      omega (
        arith,
        sizes e,
        ap val (top_high m 6 (6 + e) (omega arith)),
        ap (λ (i : ℕ). size i (bit m)) i ∙ size_more (6 + e) (bit m),
        ap (λ (i : ℕ). size i (bit (above m))) i ∙ size_more (6 + e) (bit (above m)),
      )

  parts : (e : ℕ) → spread (6 + e) (bit m) v ≡ spread (6 + e) (bit (above m)) c + spread 6 (bit m) u
  unfolding spread number
  parts zero =
      let none = spread_ext 6 (bit (above m)) (λ j. false) c (λ j l. top_low m 6 j l) ∙ none-zero 6 in
      let low = spread_low 6 (bit m) v u (λ i l. ap (λ (y : ℕ). bit y i) (add_comm (c * 2 ^ k) u) ∙ bit_below u c k i l)
      in
      omega (arith, none, low)
  parts (suc e) =
      let read : bit v (size (6 + e) (bit m)) ≡ bit c (size (6 + e) (bit (above m))) =
      ap (bit v) (sizes e) ∙ sym (bit-shr v k (size (6 + e) (bit (above m))))
      ∙ ap (λ (y : ℕ). bit y (size (6 + e) (bit (above m)))) (high c k small) in
      let i : 6 + suc e ≡ 6 + e + 1 = omega arith in
      omega (
        arith,
        parts e,
        ap₂ (λ (s t : Bool). val (s && t) * 2 ^ (6 + e)) (sym (top_high m 6 (6 + e) (omega arith))) read,
        ap (λ (i : ℕ). spread i (bit m) v) i ∙ spread_more (6 + e) (bit m) v,
        ap (λ (i : ℕ). spread i (bit (above m)) c) i ∙ spread_more (6 + e) (bit (above m)) c,
      )

  two-parts : (n : ℕ) → m < 2 ^ n → spread n (bit m) v ≡ spread n (bit (above m)) c + spread 6 (bit m) u
  two-parts n below =
      omega (
        arith,
        spread_wide n 6 m v below,
        spread_wide n 6 (above m) c (omega arith),
        parts n,
        ap (λ (i : ℕ). spread i (bit m) v) (add_comm n 6),
        ap (λ (i : ℕ). spread i (bit (above m)) c) (add_comm n 6),
      )

-- ---- the pieces of a word: p of them, each of 2 ^ k bits

module _ (m : ℕ) where
  abbrev pub each : ℕ
  each = 2 ^ size word_positions (bit m)

  -- `members(mask % 64)`, and `64 >> few`
  pub few_is : (few : ℕ) → few ≡ size word_positions (bit (m % 64)) → few ≡ size word_positions (bit m)
  few_is few e = e ∙ size_ext word_positions (bit (m % 64)) (bit m) (λ j l. bit-mod m word_positions j l)

  pub pieces_fill : (few : ℕ) → few ≡ size word_positions (bit m) → 64 / 2 ^ few * each ≡ 64
  pieces_fill few e =
      let k = size word_positions (bit m) in
      let i : 6 ≡ 6 - k + k = omega (arith, size-le word_positions (bit m)) in
      let all : 64 ≡ 2 ^ (6 - k) * 2 ^ k = ap (λ (j : ℕ). 2 ^ j) i ∙ pow-add 2 (6 - k) k in
      ap (λ (j : ℕ). 64 / 2 ^ j * 2 ^ k) e ∙ ap (λ (j : ℕ). j / 2 ^ k * 2 ^ k) all
      ∙ ap (λ (j : ℕ). j * 2 ^ k) (shl-shr (2 ^ (6 - k)) k) ∙ sym all

  -- piece q ends within the word
  pub piece_within : (p q : ℕ) → p * each ≡ 64 → q < p → q * each + each ≤ 64
  piece_within p q fill l = omega (arith, mul-le-mul_right {m = suc q} {n = p} each l, suc-mul q each, fill)

  -- `q << few`
  pub piece_place : (few p q : ℕ) → few ≡ size word_positions (bit m) → p * each ≡ 64 → q < p → q * 2 ^ few % 2 ^ 32
      ≡ q * each
  piece_place few p q e fill l = ap (λ (j : ℕ). q * 2 ^ j % 2 ^ 32) e
      ∙ mod-eq_of_lt (omega (arith, piece_within p q fill l))

-- word i of the table over the members, the others as a has them; f names the word of its piece q
module _ (t : List ℕ) (n m a : ℕ) (room : 2 ^ n ≤ 8 * length t) (below : m < 2 ^ n) (under : a < 2 ^ n)
    (apart : Apart n (bit a) (bit m)) where
  abbrev over : ℕ → ℕ → Bool
  over i j = table_bit t (a + spread n (bit m) (64 * i + j))

  module _ (i p q f : ℕ) (fill : p * each m ≡ 64) (l : q < p) (at : f ≡ spread n (bit (above m)) (i * p + q)) where
    pub piece_lt : a + f < 2 ^ n
    piece_lt = omega (arith, at, apart-lt n a (above m) (i * p + q) under (λ j h e. apart j h (above-part m j e)))

    pub piece_word : WordAt t (a + f)
    piece_word = word_at n t (a + f) room piece_lt

    -- a place within the word
    inside : (u : ℕ) → (a + f) % 64 + spread 6 (bit m) u < 64
    inside u =
        omega (
          arith,
          at,
          above_whole n m (i * p + q),
          apart-lt 6 (a % 64) m u (mod-lt a (lit< tt)) (λ j h e. bit-mod a 6 j h ∙ elim (dec_lt j n) [
            | yes g ↦ apart j g e
            | no g ↦ bit_high a n j under (omega arith)
          ]),
        )

    -- w is the bits from a + f on, s what is squeezed of them
    module _ (w : ℕ) {s : ℕ} (read : (k : ℕ) → (a + f) % 64 + k < 64 → bit w k ≡ table_bit t (a + f + k))
        (is : s ≡ number (each m) (λ u. bit w (spread 6 (bit m) u))) where
      small : s < 2 ^ each m
      small = omega (arith, is, number_lt (each m) (λ u. bit w (spread 6 (bit m) u)))

      piece : s ≡ number (each m) (λ u. over i (q * each m + u))
      piece = is ∙ number_ext (each m) (λ u. bit w (spread 6 (bit m) u)) (λ u. over i (q * each m + u)) (λ u h.
          let v : (i * p + q) * each m + u ≡ 64 * i + (q * each m + u) =
          omega (arith, add-mul (i * p) q (each m), mul_assoc i p (each m), ap (λ (x : ℕ). i * x) fill) in
          let x : a + f + spread 6 (bit m) u ≡ a + spread n (bit m) (64 * i + (q * each m + u)) =
          omega (arith, at, two-parts m (i * p + q) u h n below, ap (spread n (bit m)) v) in
          read (spread 6 (bit m) u) (inside u) ∙ ap (table_bit t) x)

      -- one piece more
      module _ {r : ℕ} (so_far : r ≡ number (q * each m) (over i)) where
        less : r < 2 ^ (q * each m)
        less = omega (arith, so_far, number_lt (q * each m) (over i))

        pub piece_fits : r + s * 2 ^ (q * each m) % 2 ^ 64 < 2 ^ 64
        piece_fits = joined_fits 64 (each m) (q * each m) (piece_within m p q fill l) less small

        pub piece_joined : r + s * 2 ^ (q * each m) % 2 ^ 64 ≡ number ((q + 1) * each m) (over i)
        piece_joined =
            let e : q * each m + each m ≡ (q + 1) * each m = omega (arith, add-mul q 1 (each m)) in
            joined 64 (each m) (q * each m) (piece_within m p q fill l) less small
            ∙ ap₂ (λ (x y : ℕ). x + y * 2 ^ (q * each m)) so_far piece
            ∙ sym (number_append (q * each m) (each m) (over i))
            ∙ ap (λ (j : ℕ). number j (over i)) e
