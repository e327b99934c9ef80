-- More than m columns of four bits: a point for each of them, and they are pairwise told apart. Assumes nothing.
use Rattle.std.proofs.Common.{◌≡◌, ℕ, zero, suc, ◌+◌, ◌*◌, ◌/◌, ◌%◌, ◌^◌, ◌<◌, ◌≤◌, Bool, true, false, ◌||◌, List, sym, refl, ap, ◌∙◌, ap₂, mod-lt, arith, lit<, eqb-true}
use mathlib.Core.Bool.{Bool-discrete}
use native.Mathlib.Decide.{dec_lt}
use lib.Bits.{bit_and, bit_or, bit_xor, xor_lt, xor_block, xor_zero_r}
use Rattle.bits.specs.Numbers.{bit, val}
use Rattle.bits.specs.Sets.{size, spread}
use Rattle.bits.proofs.Bools.{clash, or-none}
use Rattle.bits.proofs.Numbers.{bit-zero, bit-number}
use Rattle.bits.proofs.Building.{bit-digit}
use Rattle.bits.proofs.Machine.{bit-or}
use Rattle.bits.proofs.Members.{Place, place}
use Rattle.tables.specs.Table.{table_bit}
use Rattle.tables.specs.Words.{table_word}
use Rattle.witness.specs.Witness.{RulesOut}
use Rattle.witness.specs.Crowd.{column_over, HasColumn, Seen}
use Rattle.witness.proofs.Members.{power_bit}
use Rattle.witness.proofs.Points.{xor_still, xor-alike}
use Rattle.witness.proofs.Corners.{spread_low}
use Rattle.witness.proofs.Law.{witness_rules}

-- ---- where two columns differ
module _ (F : ℕ → Bool) (e f : ℕ) where
  four : ℕ → ℕ → ℕ
  four zero x = x
  four (suc zero) x = bit_xor x e
  four (suc (suc zero)) x = bit_xor x f
  four (suc (suc (suc o))) x = bit_xor (bit_xor x e) f

  where_told : (x y : ℕ) → (column_over F e f x ≡ column_over F e f y → ⊥) → (o : ℕ) × (F (four o x) ≡ F (four o y) → ⊥)
  unfolding four
  where_told x y h = go (same 0) (same 1) (same 2) (same 3)
    where
      same : (o : ℕ) → Dec (F (four o x) ≡ F (four o y))
      same o = Bool-discrete (F (four o x)) (F (four o y))

      go : Dec (F (four 0 x) ≡ F (four 0 y)) → Dec (F (four 1 x) ≡ F (four 1 y)) → Dec (F (four 2 x) ≡ F (four 2 y))
          → Dec (F (four 3 x) ≡ F (four 3 y)) → (o : ℕ) × (F (four o x) ≡ F (four o y) → ⊥)
      go (no g) q r s = (0, g)
      go (yes p) (no g) r s = (1, g)
      go (yes p) (yes q) (no g) s = (2, g)
      go (yes p) (yes q) (yes r) (no g) = (3, g)
      go (yes p) (yes q) (yes r) (yes s) =
          let all : column_over F e f x ≡ column_over F e f y = omega (arith, ap val p, ap val q, ap val r, ap val s) in
          absurd (h all)

  -- ---- the offsets move no position that neither has
  four_still : (o x j : ℕ) → bit (bit_or e f) j ≡ false → bit (four o x) j ≡ bit x j
  unfolding four
  four_still o x j h = go o
    where
      w : (bit e j ≡ false) × (bit f j ≡ false)
      w = or-none (bit e j) (bit f j) (sym (bit-or e f j) ∙ h)

      go : (o : ℕ) → bit (four o x) j ≡ bit x j
      go zero = refl
      go (suc zero) = xor_still x e j w.0
      go (suc (suc zero)) = xor_still x f j w.1
      go (suc (suc (suc o))) = xor_still (bit_xor x e) f j w.1 ∙ xor_still x e j w.0

  four-alike : (o x y j : ℕ) → bit x j ≡ bit y j → bit (four o x) j ≡ bit (four o y) j
  unfolding four
  four-alike zero x y j h = h
  four-alike (suc zero) x y j h = xor-alike x y e j h
  four-alike (suc (suc zero)) x y j h = xor-alike x y f j h
  four-alike (suc (suc (suc o))) x y j h = xor-alike (bit_xor x e) (bit_xor y e) f j (xor-alike x y e j h)

  module _ (n : ℕ) (below_e : e < 2 ^ n) (below_f : f < 2 ^ n) where
    four-lt : (o x : ℕ) → x < 2 ^ n → four o x < 2 ^ n
    unfolding four
    four-lt zero x l = l
    four-lt (suc zero) x l = xor_lt n x e l below_e
    four-lt (suc (suc zero)) x l = xor_lt n x f l below_f
    four-lt (suc (suc (suc o))) x l = xor_lt n (bit_xor x e) f (xor_lt n x e l below_e) below_f

    -- ---- a point for each column: point p has the column that p others come before
    module _ (m own base seen : ℕ) (below_base : base < 2 ^ n) (points : Seen n F own base e f seen)
        (many : m < size 16 (bit seen)) where
      column : {p : ℕ} → p < size 16 (bit seen) → Place 16 (bit seen) p
      column {p} = place 16 (bit seen) p

      pick : {p : ℕ} → Dec (p < size 16 (bit seen)) → ℕ
      pick (yes l) = (points (column l).at (column l).member).point
      pick (no l) = base

      point : ℕ → ℕ
      point p = pick (dec_lt p (size 16 (bit seen)))

      point_lt : (p : ℕ) → point p < 2 ^ n
      unfolding point pick
      point_lt p = at (dec_lt p (size 16 (bit seen)))
        where
          at : (d : Dec (p < size 16 (bit seen))) → pick d < 2 ^ n
          at (yes l) = (points (column l).at (column l).member).below
          at (no l) = below_base

      point_like : (p j : ℕ) → j < n → bit own j ≡ false → bit (point p) j ≡ bit base j
      unfolding point pick
      point_like p j b h = at (dec_lt p (size 16 (bit seen)))
        where
          at : (d : Dec (p < size 16 (bit seen))) → bit (pick d) j ≡ bit base j
          at (yes l) = (points (column l).at (column l).member).like j b h
          at (no l) = refl

      point_rank : (p : ℕ) → p < size 16 (bit seen) → size (column_over F e f (point p)) (bit seen) ≡ p
      unfolding point pick
      point_rank p b = at (dec_lt p (size 16 (bit seen)))
        where
          at : (d : Dec (p < size 16 (bit seen))) → size (column_over F e f (pick d)) (bit seen) ≡ p
          at (yes l) = ap (λ (c : ℕ). size c (bit seen)) (points (column l).at (column l).member).is
              ∙ (column l).rank
          at (no l) = absurd (l b)

      pub crowd_rule : RulesOut n F m (bit own) (bit (bit_or e f))
      crowd_rule = witness_rules (record {
        at = λ p o. four o (point p);
        spots = record {
          below = λ p o. four-lt o (point p) (point_lt p);
          points = λ p p' o j l h. four-alike o (point p) (point p') j (point_like p j l h ∙ sym (point_like p' j l h));
          offsets = λ p o o' j l h. four_still o (point p) j h ∙ sym (four_still o' (point p) j h);
        };
        told = λ p p' l h. where_told (point p) (point p') (λ q. omega (
          arith,
          l,
          point_rank p (omega (arith, many)),
          point_rank p' (omega (arith, many)),
          ap (λ (c : ℕ). size c (bit seen)) q,
        ));
      })

-- ---- as the code says it

-- at first no column is seen
pub seen_none : {n : ℕ} {F : ℕ → Bool} {own base e f : ℕ} → Seen n F own base e f 0
seen_none c h = absurd (clash h (bit-zero c))

-- then that of one more point
pub seen_more : {n : ℕ} {F : ℕ → Bool} {own base e f : ℕ} (seen new x v : ℕ) → Seen n F own base e f seen → base < 2 ^ n
    → x < 2 ^ n → x ≡ spread n (bit own) v
    → new ≡ 2 ^ column_over F e f (bit_xor base x) → Seen n F own base e f (bit_or seen new)
seen_more {n} {F} {own} {base} {e} {f} seen new x v w b l at is c h = go (bit seen c) refl (sym (bit-or seen new c) ∙ h)
  where
    go : (t : Bool) → bit seen c ≡ t → (t || bit new c) ≡ true → HasColumn n F own base e f c
    go true q r = w c q
    go false q r = record {
      point = bit_xor base x;
      below = xor_lt n base x b l;
      like = λ j k g. xor_still base x j (spread_low n own x v j at k g);
      is = sym (eqb-true c (column_over F e f (bit_xor base x))
          (sym (power_bit (column_over F e f (bit_xor base x)) c) ∙ ap (λ (m : ℕ). bit m c) (sym is) ∙ r));
    }

pub column_lt : (F : ℕ → Bool) (e f x : ℕ) → column_over F e f x < 16
column_lt F e f x = omega (
  arith,
  small (F x),
  small (F (bit_xor x e)),
  small (F (bit_xor x f)),
  small
      (F (bit_xor (bit_xor x e) f)),
)
  where
    small : (t : Bool) → val t ≤ 1
    small true = omega arith
    small false = omega arith

-- ---- where the offsets stay in one word

near-xor : (a r d : ℕ) → r < 64 → d < 64 → bit_xor (64 * a + r) d ≡ 64 * a + bit_xor r d
near-xor a r d h l =
    let e : 64 * a + r ≡ a * 2 ^ 6 + r = omega arith in
    let q : bit_xor a 0 * 2 ^ 6 + bit_xor r d ≡ 64 * a + bit_xor r d = omega (arith, xor_zero_r a) in
    let z : d ≡ 0 * 2 ^ 6 + d = omega arith in
    ap₂ bit_xor e z ∙ xor_block 6 a 0 r d h l ∙ q

module _ (t : List ℕ) (w x e f : ℕ) (below_e : e < 64) (below_f : f < 64) (is : w ≡ table_word t (x / 64)) where
  low : x % 64 < 64
  low = mod-lt x (lit< tt)

  split_x : x ≡ 64 * (x / 64) + x % 64
  split_x = omega arith

  by_e : bit_xor x e ≡ 64 * (x / 64) + bit_xor (x % 64) e
  by_e = ap (λ (m : ℕ). bit_xor m e) split_x ∙ near-xor (x / 64) (x % 64) e low below_e

  digit : (j y : ℕ) → j < 64 → y ≡ 64 * (x / 64) + j → bit_and (w / 2 ^ j) 1 ≡ val (table_bit t y)
  digit j y l q = bit-digit w j ∙ ap val (ap (λ (m : ℕ). bit m j) is
      ∙ bit-number 64 (λ i. table_bit t (64 * (x / 64) + i)) j l ∙ ap (table_bit t) (sym q))

  pub near_column : bit_and (w / 2 ^ (x % 64)) 1 + 2 * bit_and (w / 2 ^ bit_xor (x % 64) e) 1
      + 4 * bit_and (w / 2 ^ bit_xor (x % 64) f) 1
      + 8 * bit_and (w / 2 ^ bit_xor (bit_xor (x % 64) e) f) 1 ≡ column_over (table_bit t) e f x
  near_column =
      let le : bit_xor (x % 64) e < 64 = xor_lt 6 (x % 64) e low below_e in
      omega (
        arith,
        digit (x % 64) x low split_x,
        digit (bit_xor (x % 64) e) (bit_xor x e) le by_e,
        digit (bit_xor (x % 64) f) (bit_xor x f) (xor_lt 6 (x % 64) f low below_f)
            (ap (λ (m : ℕ). bit_xor m f) split_x ∙ near-xor (x / 64) (x % 64) f low below_f),
        digit (bit_xor (bit_xor (x % 64) e) f) (bit_xor (bit_xor x e) f) (xor_lt 6 (bit_xor (x % 64) e) f le below_f)
            (ap (λ (m : ℕ). bit_xor m f) by_e ∙ near-xor (x / 64) (bit_xor (x % 64) e) f le below_f),
      )
