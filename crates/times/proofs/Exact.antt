-- In sixteenths nothing is rounded: the output's times as f64 are those over whole numbers. Each step of one reckoning
-- goes with the same step of the other, and after k cells a number is at most k + 1 times 65,536, far below where sums
-- are rounded. Assumes nothing.
use Rattle.std.proofs.Common.{◌≡◌, ℕ, zero, suc, ◌+◌, ◌-◌, ◌*◌, ◌<◌, ◌≤◌, Bool, true, false, cond, T, eqb, ltb, List, [], ◌∷◌, length, get_or, sym, ap, ◌∙◌, subst, lt_of_le_of_lt, mul_assoc, mul_comm, mul-lt-mul_of_pos_right, mul-pos, mul_right_comm, arith, lit<, le-ltb, lt-ltb}
use native.Mathlib.Decide.{dec_lt}
use lib.Ieee.{Float, nan, inf, fin, lt, round, binary64, up, down}
use lib.Ieee.Exact.{HasValue}
use lib.Ieee.Fits.{down_pos}
use lib.Ieee.Order.{transfer}
use Rattle.sheets.specs.Network.{Cell}
use Rattle.times.specs.Signals.{kept_time, cell_time, output_time, keep_by, keeping, delayed}
use Rattle.times.specs.Whole.{keeping_whole}
use Rattle.times.proofs.Sums.{value, add_at}

-- ---- two reckonings, step by step; R k relates what at most k cells gave

module _ {A B : Type 0} (R : ℕ → A → B → Type 0) (K : ℕ) (pick : A → A → A) (pick' : B → B → B) (after : A → A)
    (after' : B → B)
    (more : (k : ℕ) (x : A) (i : B) → R k x i → R (suc k) x i)
    (picks : (k : ℕ) (x y : A) (i j : B) → k ≤ K → R k x i → R k y j → R k (pick x y) (pick' i j))
    (afters : (k : ℕ) (x : A) (i : B) → k < K → R k x i → R (suc k) (after x) (after' i)) where
  kept_related : (k j : ℕ) (v : ℕ → A) (w : ℕ → B) → k ≤ K → ((t : ℕ) → R k (v t) (w t))
      → R k (kept_time pick v j) (kept_time pick' w j)
  unfolding kept_time
  kept_related k zero v w h r = r 0
  kept_related k (suc j) v w h r = picks k (kept_time pick v j) (v (suc j)) (kept_time pick' w j) (w (suc j)) h
      (kept_related k j v w h r) (r (suc j))

  cell_related : (k : ℕ) (c : Cell) (v : ℕ → A) (w : ℕ → B) → k < K → ((t : ℕ) → R k (v t) (w t))
      → R (suc k) (cell_time pick after c v) (cell_time pick' after' c w)
  unfolding cell_time
  cell_related k c v w h r = afters k _ _ h (kept_related k (length c.signals - 1) (λ j. v (get_or c.signals j 0))
      (λ j. w (get_or c.signals j 0)) (omega arith) (λ t. r (get_or c.signals t 0)))

  pub output_related : (cs : List Cell) (k i : ℕ) (o : A) (o' : B) (v : ℕ → A) (w : ℕ → B) → k + length cs ≤ K
      → R k o o' → ((t : ℕ) → R k (v t) (w t))
      → R (k + length cs) (output_time pick after o i cs v) (output_time pick' after' o' i cs w)
  unfolding output_time
  output_related [] k i o o' v w h q r = let z : k ≡ k + 0 = omega arith in subst (λ (m : ℕ). R m o o') z q
  output_related (c ∷ cs) k i o o' v w h q r =
      let p = cell_related k c v w (omega arith) r in
      let z : suc k + length cs ≡ k + suc (length cs) = omega arith in
      subst (λ (m : ℕ). R m (output_time pick after (cell_time pick after c v) (suc i) cs
      (λ t. cond (eqb t i) (cell_time pick after c v) (v t)))
      (output_time pick' after' (cell_time pick' after' c w) (suc i) cs
      (λ t. cond (eqb t i) (cell_time pick' after' c w) (w t)))) z
      (output_related cs (suc k) (suc i) _ _ _ _ (omega arith) p
      (λ t. one (eqb t i) (v t) (w t) p (more k (v t) (w t) (r t))))
    where
      one : (b : Bool) (x : A) (y : B) → R (suc k) (cell_time pick after c v) (cell_time pick' after' c w) → R (suc k) x y
          → R (suc k) (cond b (cell_time pick after c v) x) (cond b (cell_time pick' after' c w) y)
      one true x y p q = p
      one false x y p q = q

-- ---- f64 and whole numbers of sixteenths

-- x is exactly i sixteenths, as many as at most k cells can give
abbrev pub Exactly : ℕ → Float → ℕ → Type 0
Exactly k x i = HasValue x false i 16 × (i ≤ 65536 * suc k)

never : true ≡ false → ⊥
never e = subst T e tt

-- they are compared as the whole numbers are
same_order : (x y : Float) (i j : ℕ) → HasValue x false i 16 → HasValue y false j 16 → lt x y ≡ ltb i j
unfolding lt
same_order nan y i j h k = absurd h
same_order (inf s) y i j h k = absurd h
same_order (fin s m e) nan i j h k = absurd k
same_order (fin s m e) (inf t) i j h k = absurd k
same_order (fin true m e) (fin t n d) i j h k = absurd (never h.0)
same_order (fin false m e) (fin true n d) i j h k = absurd (never k.0)
same_order (fin false m e) (fin false n d) i j h k = elim (dec_lt i j) [
  | yes l ↦ lt-ltb (m * up e * down d) (n * up d * down e)
      (strictly (m * up e) (n * up d) (down e) (down d) i j (down_pos e) (down_pos d) h.1 k.1 l)
      ∙ sym (lt-ltb i j l)
  | no l ↦ le-ltb (m * up e * down d) (n * up d * down e)
      (transfer (n * up d) (m * up e) (down d) (down e) j i 16 16 (lit< tt) (lit< tt) k.1 h.1 (omega arith))
      ∙ sym (le-ltb i j (omega arith))
]
  where
    strictly : (x y p q i j : ℕ) → 0 < p → 0 < q → x * 16 ≡ i * p → y * 16 ≡ j * q → i < j → x * q < y * p
    strictly x y p q i j P Q h k l =
        let a : x * q * 16 ≡ i * (p * q) = mul_right_comm x q 16 ∙ ap (λ (n : ℕ). n * q) h ∙ mul_assoc i p q in
        let b : y * p * 16 ≡ j * (p * q) = mul_right_comm y p 16 ∙ ap (λ (n : ℕ). n * p) k ∙ mul_assoc j q p
        ∙ ap (λ (n : ℕ). j * n) (mul_comm q p) in
        let c : i * (p * q) < j * (p * q) = mul-lt-mul_of_pos_right l (mul-pos P Q) in
        omega (arith, a, b, c)

picks : (late : Bool) (k : ℕ) (x y : Float) (i j : ℕ) → k ≤ 15 → Exactly k x i → Exactly k y j
    → Exactly k (keeping late x y) (keeping_whole late i j)
unfolding keeping
picks late k x y i j h p q = go late
  where
    -- where a test is the same for both, it picks a time and its number
    one : (b c : Bool) → b ≡ c → Exactly k (cond b y x) (cond c j i)
    one b true e = subst (λ (b : Bool). Exactly k (cond b y x) j) (sym e) q
    one b false e = subst (λ (b : Bool). Exactly k (cond b y x) i) (sym e) p

    go : (late : Bool) → Exactly k (keep_by lt late x y) (keep_by ltb late i j)
    go true = one (lt x y) (ltb i j) (same_order x y i j p.0 q.0)
    go false = one (lt y x) (ltb j i) (same_order y x j i q.0 p.0)

afters : (delay : Float) (d : ℕ) → Exactly 0 delay d → (k : ℕ) (x : Float) (i : ℕ) → k < 15 → Exactly k x i
    → Exactly (suc k) (delayed delay x) (i + d)
afters delay d e k x i h p = (
  subst (λ (y : Float). HasValue y false (i + d) 16) (sym (add_at x delay i d 16 (lit< tt) p.0 e.0))
      (small (i + d) (omega (arith, p.1, e.1))),
  omega (arith, p.1, e.1),
)
  where
    small : (n : ℕ) → n ≤ 1048576 → HasValue (round binary64 false n 16) false n 16
    small n l = value n (lt_of_le_of_lt l (lit< tt))

-- the output's time is exactly that over whole numbers
pub exact : (late : Bool) (cs : List Cell) (n : ℕ) (delay : Float) (d : ℕ) (o : Float) (o' : ℕ) (v : ℕ → Float)
    (w : ℕ → ℕ) → length cs ≤ 15
    → Exactly 0 delay d → Exactly 0 o o' → ((t : ℕ) → Exactly 0 (v t) (w t))
    → Exactly (length cs) (output_time (keeping late) (delayed delay) o n cs v)
    (output_time (keeping_whole late) (λ i. i + d) o' n cs w)
exact late cs n delay d o o' v w l e q r =
    let z : 0 + length cs ≡ length cs = omega arith in
    subst (λ (m : ℕ). Exactly m (output_time (keeping late) (delayed delay) o n cs v)
    (output_time (keeping_whole late) (λ i. i + d) o' n cs w)) z
    (output_related Exactly 15 (keeping late) (keeping_whole late) (delayed delay) (λ i. i + d)
    (λ k x i p. (p.0, omega (arith, p.1))) (picks late) (afters delay d e) cs 0 n o o' v w (omega arith) q r)
