-- Whether a time is a whole number of sixteenths: what the product by 16, the cut and the way back say. Assumes
-- nothing.
use Rattle.std.proofs.Common.{◌≡◌, ℕ, zero, suc, ◌+◌, ◌-◌, ◌*◌, ◌/◌, ◌%◌, ◌^◌, ◌<◌, ◌≤◌, Bool, true, false, ◌&&◌, ◌||◌, T, eqb, ltb, leb, ℤ, pos, negsuc, sym, refl, ap, ◌∙◌, subst, ap₂, le_trans, lt_trans, lt_of_lt_of_le, lt_of_le_of_lt, le_of_lt, lt_irrefl, mul-le-mul_right, zero-lt-suc, mul_assoc, mul_comm, mul-pos, zero-mul, mul-one, mul_right_comm, le_of_mul-le-mul_right, mul_left_comm, arith, lit<, lit≤, le→leb, eqb→eq, ltb→lt, lt→ltb, leb→le, pow_pos, pow-add, shl_lt, eq-eqb}
use native.Mathlib.Nat.{eq_of_mul-eq-mul_right}
use native.Mathlib.Nat.{min-le_left, div-le_of_le-mul}
use native.Mathlib.Decide.{dec_le}
use lib.Pow.{pow-lt}
use lib.Ieee.{Float, nan, inf, fin, binary64, up, down, round, mul, eq, lt, le, fits, of_int, to_unsigned, in_float}
use lib.Ieee.Exact.{HasValue, round_exact}
use lib.Ieee.Scale.{round_same}
use lib.Ieee.Back.{round_whole, unsigned_back}
use lib.Ieee.Fits.{up_pos, down_pos, and_l, and_r}
use Rattle.times.specs.InputTimes.{plain_zero, in_range}

never : true ≡ false → ⊥
never e = subst T e tt

-- ---- a value of i sixteenths, times 16

pub mul16 : (x : Float) (i : ℕ) → HasValue x false i 16 → mul binary64 x (fin false 1 (pos 4)) ≡ of_int binary64 (pos i)
unfolding mul of_int
mul16 nan i h = absurd h
mul16 (inf s) i h = absurd h
mul16 (fin true m e) i h = absurd (never h.0)
mul16 (fin false m e) i h =
    round_same binary64 false (m * up e * 16) (down e * 1) i 1 (mul-pos (down_pos e) (lit< tt)) (lit< tt)
    (mul-one (m * up e * 16) ∙ h.1 ∙ ap (λ (n : ℕ). i * n) (sym (mul-one (down e))))

-- ---- a time in range, times 16: nothing is rounded

small_exp : (k : ℕ) → 2 ^ suc k ≤ 2 ^ 1074 → suc k ≤ 1074
small_exp k h = go (dec_le (suc k) 1074)
  where
    go : Dec (suc k ≤ 1074) → suc k ≤ 1074
    go (yes l) = l
    go (no n) = let l : 1074 < suc k = omega arith in absurd (lt_irrefl _ (lt_of_lt_of_le (pow-lt l) h))

exact_at : (m : ℕ) (e : ℤ) → m < 2 ^ 53 → down e ≤ 2 ^ 1074 → m * up e ≤ 4096 * down e
    → HasValue (round binary64 false (m * up e * 16) (down e * 1)) false (m * up e * 16) (down e * 1)
exact_at m (pos k) q d h =
    let e : m * 2 ^ (k + 1078) ≡ m * 2 ^ k * 2 ^ 1078 = ap (λ (n : ℕ). m * n) (pow-add 2 k 1078)
    ∙ sym (mul_assoc m (2 ^ k) (2 ^ 1078)) in
    round_exact binary64 false (m * 2 ^ k * 16) 1 m (k + 1078) (lit< tt) q
    (lt_of_le_of_lt (subst (λ (n : ℕ). n ≤ 4096 * 2 ^ 1078) (sym e) (mul-le-mul_right (2 ^ 1078) h)) (lit< tt))
    (mul_assoc (m * 2 ^ k) 16 (2 ^ 1074) ∙ sym e ∙ sym (mul-one (m * 2 ^ (k + 1078))))
exact_at m (negsuc k) q d h =
    let l : suc k ≤ 1074 = small_exp k d in
    let w : 53 + (1078 - suc k) < 2098 = omega arith in
    let v : 1078 - suc k + suc k ≡ 1078 = omega arith in
    round_exact binary64 false (m * 1 * 16) (2 ^ suc k * 1) m (1078 - suc k) (mul-pos (pow_pos (suc k)) (lit< tt)) q
    (lt_trans (shl_lt 53 (1078 - suc k) q) (pow-lt w))
    (ap (λ (n : ℕ). n * 16 * 2 ^ 1074) (mul-one m)
    ∙ mul_assoc m 16 (2 ^ 1074)
    ∙ ap (λ (n : ℕ). m * 2 ^ n) (sym v)
    ∙ ap (λ (n : ℕ). m * n) (pow-add 2 (1078 - suc k) (suc k))
    ∙ sym (mul_assoc m (2 ^ (1078 - suc k)) (2 ^ suc k))
    ∙ ap (λ (n : ℕ). m * 2 ^ (1078 - suc k) * n) (sym (mul-one (2 ^ suc k))))

-- ---- what a time in range is

pub record Time (x : Float) : Type 0 where
  pub m : ℕ
  pub e : ℤ
  pub is : x ≡ fin false m e
  pub few : m < 2 ^ 53
  pub fine : down e ≤ 2 ^ 1074
  pub within : m * up e ≤ 4096 * down e

pub at_most : (a b : ℕ) → T (ltb a b || (eqb a b && (true || eqb a 0))) → a ≤ b
at_most a b t = go (ltb a b) (eqb a b) (ltb→lt a b) (eqb→eq a b) t
  where
    go : (p q : Bool) → (T p → a < b) → (T q → a ≡ b) → T (p || (q && true)) → a ≤ b
    go true q f g t = le_of_lt (f tt)
    go false true f g t = let h = g tt in omega arith
    go false false f g t = absurd t

pub bound : (m : ℕ) (e : ℤ) → T (le (fin false m e) (fin false 1 (pos 12))) → m * up e ≤ 4096 * down e
unfolding le lt eq
bound m e t = let h = at_most (m * up e * 1) (4096 * down e) t
    in subst (λ (n : ℕ). n ≤ 4096 * down e) (mul-one (m * up e)) h

pub no_minus : (m : ℕ) (e : ℤ) → T (le (fin false 0 (pos 0)) (fin true (suc m) e)) → ⊥
unfolding le lt eq
no_minus m e t = go (0 * 1 * down e) (suc m * up e * 1) (mul-pos (mul-pos (zero-lt-suc m) (up_pos e)) (lit< tt))
    (ap (λ (n : ℕ). n * down e) (zero-mul 1) ∙ zero-mul (down e)) t
  where
    go : (a b : ℕ) → 0 < b → a ≡ 0 → T (eqb a b && (false || eqb a 0)) → ⊥
    go a b h k t = let q : a ≡ b = eqb→eq a b (and_l (eqb a b) (eqb a 0) t) in omega arith

pub parts : (x : Float) → T (in_range x) → T (le (fin false 0 (pos 0)) x) × T (le x (fin false 1 (pos 12)))
unfolding in_range
parts x r = (
  and_l (le (fin false 0 (pos 0)) x) (le x (fin false 1 (pos 12))) r,
  and_r (le (fin false 0 (pos 0)) x)
      (le x (fin false 1 (pos 12))) r,
)

middle : (p q r s : Bool) → T (p && q && r && s) → T q × T r
middle true true true true t = (tt, tt)
middle true true true false t = absurd t
middle true true false s t = absurd t
middle true false r s t = absurd t
middle false q r s t = absurd t

pub time : (x : Float) → T (fits binary64 x) → T (in_range x) → x ≡ plain_zero x → Time x
unfolding le lt eq plain_zero fits
time nan f r z = absurd (parts nan r).0
time (inf true) f r z = absurd (parts (inf true) r).0
time (inf false) f r z = absurd (parts (inf false) r).1
time (fin true zero e) f r z = let h : true ≡ false = cc in absurd (never h)
time (fin true (suc m) e) f r z = absurd (no_minus m e (parts (fin true (suc m) e) r).0)
time (fin false zero e) f r z = record { m = 0; e = pos 0; is = z; few = lit< tt; fine = lit≤ tt; within = lit≤ tt }
time (fin false (suc m) e) f r z =
    let k = middle (eqb (suc m % 2) 1) (ltb (suc m) (2 ^ 53)) (leb (down e) (2 ^ 1074))
    (ltb (suc m * up e) (2 ^ 1024 * down e)) f in
    record {
      m = suc m;
      e = e;
      is = refl;
      few = ltb→lt (suc m) (2 ^ 53) k.0;
      fine = leb→le (down e) (2 ^ 1074) k.1;
      within = bound (suc m) e (parts (fin false (suc m) e) r).1;
    }

-- ---- the product of a time by 16: its value, and that it can be cut

pub product : (x : Float) (t : Time x) → HasValue (mul binary64 x (fin false 1 (pos 4))) false (t.m * up t.e * 16)
    (down t.e * 1)
unfolding mul
product x t =
    subst (λ (v : Float). HasValue (mul binary64 v (fin false 1 (pos 4))) false (t.m * up t.e * 16)
    (down t.e * 1)) (sym t.is)
    (exact_at t.m t.e t.few t.fine t.within)

few_of : (a d A C : ℕ) → 0 < C → A ≤ 1048576 * C → a * C ≡ A * d → a ≤ 1048576 * d
few_of a d A C p l h =
    le_of_mul-le-mul_right (subst (λ (n : ℕ). n ≤ 1048576 * d * C) (sym h)
    (subst (λ (n : ℕ). A * d ≤ n) (mul_right_comm 1048576 C d) (mul-le-mul_right d l))) p

small_cut : (y : Float) (A C : ℕ) → 0 < C → A ≤ 1048576 * C → HasValue y false A C → to_unsigned 64 y ≤ 1048576
unfolding to_unsigned
small_cut nan A C p l h = absurd h
small_cut (inf s) A C p l h = absurd h
small_cut (fin true m e) A C p l h = absurd (never h.0)
small_cut (fin false m e) A C p l h =
    le_trans (min-le_left (m * up e / down e) (2 ^ 64 - 1))
    (div-le_of_le-mul (down e) (subst (λ (n : ℕ). m * up e ≤ n) (mul_comm 1048576 (down e))
    (few_of (m * up e) (down e) A C p l h.1)))

pub cut : (y : Float) (A C : ℕ) → 0 < C → A ≤ 1048576 * C → HasValue y false A C → T (lt (fin true 1 (pos 0)) y)
    × T (lt y (fin false 1 (pos 64)))
unfolding lt
cut nan A C p l h = absurd h
cut (inf s) A C p l h = absurd h
cut (fin true m e) A C p l h = absurd (never h.0)
cut (fin false m e) A C p l h = (
  lt→ltb 0 (1 * 1 * down e + m * up e * 1) (let d = down_pos e in omega arith),
  lt→ltb (m * up e * 1) (2 ^ 64 * down e) (let v = few_of (m * up e) (down e) A C p l h.1 in let d = down_pos e
      in omega arith),
)

pub cuttable : (x : Float) (t : Time x) → T (lt (fin true 1 (pos 0)) (mul binary64 x (fin false 1 (pos 4))))
    × T (lt (mul binary64 x (fin false 1 (pos 4))) (fin false 1 (pos 64)))
cuttable x t =
    cut (mul binary64 x (fin false 1 (pos 4))) (t.m * up t.e * 16) (down t.e * 1)
    (mul-pos (down_pos t.e) (lit< tt)) (let w = t.within in omega arith) (product x t)

self : (s : Bool) (m : ℕ) (e : ℤ) → eq (fin s m e) (fin s m e) ≡ true
unfolding eq
self true m e = ap (λ (b : Bool). b && true) (eq-eqb (m * up e * down e) (m * up e * down e) refl)
self false m e = ap (λ (b : Bool). b && true) (eq-eqb (m * up e * down e) (m * up e * down e) refl)

-- ---- the way back

same : (y b : Float) (n A C : ℕ) → HasValue y false A C → HasValue b false n 1 → eq b y ≡ true → A ≡ n * C
unfolding eq
same nan b n A C h k q = absurd h
same (inf s) b n A C h k q = absurd h
same (fin t m e) nan n A C h k q = absurd k
same (fin t m e) (inf s) n A C h k q = absurd k
same (fin t m e) (fin u p d) n A C h k q =
    eq_of_mul-eq-mul_right (down e * down d) (mul-pos (down_pos e) (down_pos d)) A (n * C)
    (rearranged A (down e) (down d) ∙ ap (λ (v : ℕ). v * down d) (sym h.1) ∙ mul_right_comm (m * up e) C (down d)
    ∙ ap (λ (v : ℕ). v * C) (sym (eqb→eq _ _ (and_l (eqb (p * up d * down e) (m * up e * down d)) _
    (subst T (sym q) tt))))
    ∙ ap (λ (v : ℕ). v * down e * C) (sym (mul-one (p * up d)) ∙ k.1)
    ∙ last n (down d) (down e) C)
  where
    rearranged : (a b c : ℕ) → a * (b * c) ≡ a * b * c
    rearranged a b c = sym (mul_assoc a b c)

    last : (n d e c : ℕ) → n * d * e * c ≡ n * c * (e * d)
    last n d e c = simp (mul_assoc, mul_comm, mul_left_comm)

pub sound : (x : Float) (t : Time x) (n : ℕ) → HasValue (of_int binary64 (pos n)) false n 1
    → eq (of_int binary64 (pos n)) (mul binary64 x (fin false 1 (pos 4))) ≡ true → HasValue x false n 16
sound x t n h q =
    let g = same (mul binary64 x (fin false 1 (pos 4))) (of_int binary64 (pos n)) n _ _ (product x t) h q in
    subst (λ (v : Float). HasValue v false n 16) (sym t.is) (refl, g ∙ ap (λ (k : ℕ). n * k) (mul-one (down t.e)))

pub counted : (x : Float) (t : Time x) → to_unsigned 64 (mul binary64 x (fin false 1 (pos 4))) ≤ 1048576
counted x t =
    small_cut (mul binary64 x (fin false 1 (pos 4))) (t.m * up t.e * 16) (down t.e * 1)
    (mul-pos (down_pos t.e) (lit< tt)) (let w = t.within in omega arith) (product x t)

pub whole_value : (n : ℕ) → n ≤ 1048576 → HasValue (of_int binary64 (pos n)) false n 1
unfolding of_int
whole_value n h = round_whole binary64 false n (le_trans h (lit≤ tt))

pub read_back : (i : ℕ) → i ≤ 1048576 → to_unsigned 64 (of_int binary64 (pos i)) ≡ i
unfolding in_float
read_back i h = (unsigned_back binary64 64 i (le→leb i (2 ^ 53) (le_trans h (lit≤ tt))) (lt_of_le_of_lt h (lit< tt))).1

-- two floats that are one number are equal to the test too
pub apart : {y b z : Float} (n : ℕ) → y ≡ z → b ≡ z → HasValue z false n 1 → eq b y ≡ false → ⊥
apart {z = z} n e f h q = go z n h (ap₂ eq (sym f) (sym e) ∙ q)
  where
    go : (z : Float) (n : ℕ) → HasValue z false n 1 → eq z z ≡ false → ⊥
    go nan n h q = absurd h
    go (inf s) n h q = absurd h
    go (fin s m e) n h q = never (sym (self s m e) ∙ q)
