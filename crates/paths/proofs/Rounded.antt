-- As f64, rounded at each sum, the output's times are the least and the greatest along all paths too: rounding keeps
-- the order. Assumes nothing.
use mathlib.Core.Path.{◌≡◌, refl, sym, ap, ap₂, subst, ◌∙◌}
use mathlib.Core.Bool.{Bool, true, false, cond, ◌||◌, ◌&&◌}
use mathlib.Core.List.{List}
use Prim.Native.Nat.{ℕ, zero, suc, ◌+◌, ◌*◌, ◌^◌, ◌≤◌}
use native.Mathlib.Nat.{le_refl, add-mul, mul_assoc, mul_comm, mul_left_comm, mul-pos, mul-le-mul_right}
use native.Mathlib.Omega.{arith}
use lib.Dec.{T, ltb}
use lib.IntN.{ℤ, pos}
use lib.Ieee.{Float, inf, fin, binary64, up, down, lt, eq, le, add, sum, round, units, odd, prec, emax, low}
use lib.Ieee.Fits.{down_pos, round_is}
use lib.Ieee.Order.{kept as digits, drop, le_of_values, round_mono}
use lib.Ieee.Positive.{through}
use borrow.Author.Tests.{ltb-true, ltb-false}
use Rattle.bits.specs.Below.{every}
use Rattle.bits.proofs.Below.{every_at}
use Rattle.bits.proofs.Bools.{and_left, and_right, clash}
use Rattle.sheets.specs.declared.kinds.Edition.{Edition}
use Rattle.sheets.specs.Edition.{IsEdition}
use Rattle.sheets.specs.Sheet.{records, sheet_cells}
use Rattle.times.specs.declared.input_time.InputTime.{InputTime}
use Rattle.times.specs.declared.input_time.InputTime.TheVariants.{NotRead, Arrival, Between}
use Rattle.times.specs.InputTimes.{zero_time, plain_zero, in_range, sound_time, time_of, time_at, input_times}
use Rattle.times.specs.Signals.{keeping, delayed, settled}
use Rattle.times.proofs.Counting.{at_most}
use Rattle.times.proofs.Telling.{ranged}
use Rattle.settling.proofs.Kept.{Leaves, all_sound}
use Rattle.paths.specs.Paths.{BestPath, BeyondTime}
use Rattle.paths.proofs.Ordered.{ordered_path}
use Rattle.paths.proofs.Whole.{good_fed, some_cells}

-- ---- numbers from 0 up, infinity among them, in order

data NonNeg : Float → Type 0 where
  infinite : NonNeg (inf false)
  finite : (m : ℕ) (e : ℤ) → NonNeg (fin false m e)

of_cross : (m n : ℕ) (e d : ℤ) → m * up e * down d ≤ n * up d * down e → T (le (fin false m e) (fin false n d))
of_cross m n e d h = le_of_values (fin false m e) (fin false n d) (m * up e) (down e) (n * up d) (down d) (down_pos e)
    (down_pos d) (refl, refl) (refl, refl) h

cross_of : (m n : ℕ) (e d : ℤ) → T (le (fin false m e) (fin false n d)) → m * up e * down d ≤ n * up d * down e
unfolding le lt eq
cross_of m n e d h = at_most (m * up e * down d) (n * up d * down e) h

below_inf : (x : Float) → NonNeg x → T (le x (inf false))
unfolding le lt eq
below_inf x infinite = tt
below_inf x (finite m e) = tt

same : (x : Float) → NonNeg x → T (le x x)
same x infinite = below_inf (inf false) infinite
same x (finite m e) = of_cross m m e e (le_refl (m * up e * down e))

not-above : (n : ℕ) (d : ℤ) → T (le (inf false) (fin false n d)) → ⊥
unfolding le lt eq
not-above n d h = h

trans : (x y z : Float) → NonNeg x → NonNeg y → NonNeg z → T (le x y) → T (le y z) → T (le x z)
trans x y z p q infinite h k = below_inf x p
trans x y z p q (finite l f) h k = second q h k
  where
    first : (n : ℕ) (d : ℤ) {x : Float} → NonNeg x → T (le x (fin false n d)) → T (le (fin false n d) (fin false l f))
        → T (le x (fin false l f))
    first n d infinite h k = absurd (not-above n d h)
    first n d (finite m e) h k =
        of_cross m l e f (through (m * up e) (n * up d) (l * up f) (down e) (down d) (down f) (down_pos d)
        (cross_of m n e d h) (cross_of n l d f k))

    second : {y : Float} → NonNeg y → T (le x y) → T (le y (fin false l f)) → T (le x (fin false l f))
    second infinite h k = absurd (not-above l f k)
    second (finite n d) h k = first n d p h k

total : (x y : Float) → NonNeg x → NonNeg y → lt y x ≡ false → T (le x y)
unfolding lt
total x y p infinite h = below_inf x p
total x y p (finite n d) h = first p h
  where
    first : {x : Float} → NonNeg x → lt (fin false n d) x ≡ false → T (le x (fin false n d))
    first infinite h = absurd (clash refl h)
    first (finite m e) h = of_cross m n e d (ltb-false (n * up d * down e) (m * up e * down d) h)

less : (x y : Float) → lt x y ≡ true → T (le x y)
unfolding le
less x y h = subst (λ (b : Bool). T (b || eq x y)) (sym h) tt

-- ---- sums

odd_good : (k q i l : ℕ) → NonNeg (odd k false q i l)
unfolding odd
odd_good k zero i l = finite _ _
odd_good k (suc q) i l = finite _ _

units_good : (q k : ℕ) → NonNeg (units binary64 false q k)
unfolding units
units_good q k = go (ltb (q * 2 ^ k) (2 ^ (low binary64 + suc (emax binary64))))
  where
    go : (t : Bool) → NonNeg (cond t (odd (suc (prec binary64)) false q k (low binary64)) (inf false))
    go true = odd_good (suc (prec binary64)) q k (low binary64)
    go false = infinite

round_good : (a b : ℕ) → NonNeg (round binary64 false a b)
round_good a b =
    let n = a * 2 ^ low binary64 in
    subst NonNeg (sym (round_is binary64 false a b))
    (units_good (digits (prec binary64) n b) (drop (prec binary64) n b))

inf_add : (d : Float) → NonNeg d → add binary64 (inf false) d ≡ inf false
unfolding add sum
inf_add d infinite = refl
inf_add d (finite n f) = refl

add_good : (d x : Float) → NonNeg d → NonNeg x → NonNeg (add binary64 x d)
add_good d x q infinite = subst NonNeg (sym (inf_add d q)) infinite
add_good d x q (finite m e) = go q
  where
    go : {d : Float} → NonNeg d → NonNeg (add binary64 (fin false m e) d)
    go infinite = unfold add in infinite
    go (finite n f) = unfold add sum in round_good (m * up e * down f + n * up f * down e) (down e * down f)

-- (A r + N p) / (p r) is at most (B r + N q) / (q r) where A / p is at most B / q
cross_sum : (A B N p q r : ℕ) → A * q ≤ B * p → (A * r + N * p) * (q * r) ≤ (B * r + N * q) * (p * r)
cross_sum A B N p q r h =
    let a : (A * r + N * p) * (q * r) ≡ A * q * (r * r) + N * p * (q * r) = add-mul (A * r) (N * p) (q * r)
    ∙ ap (λ (k : ℕ). k + N * p * (q * r)) (swap A r q) in
    let b : (B * r + N * q) * (p * r) ≡ B * p * (r * r) + N * p * (q * r) = add-mul (B * r) (N * q) (p * r)
    ∙ ap₂ (λ (k l : ℕ). k + l) (swap B r p) (turn N q p r) in
    omega (arith, a, b, mul-le-mul_right (r * r) h)
  where
    swap : (a r q : ℕ) → a * r * (q * r) ≡ a * q * (r * r)
    swap a r q = simp (mul_assoc, mul_comm, mul_left_comm)

    turn : (n q p r : ℕ) → n * q * (p * r) ≡ n * p * (q * r)
    turn n q p r = simp (mul_assoc, mul_comm, mul_left_comm)

mono : (d x y : Float) → NonNeg d → NonNeg x → NonNeg y → T (le x y) → T (le (add binary64 x d) (add binary64 y d))
mono d x y r p infinite h = subst (λ (z : Float). T (le (add binary64 x d) z)) (sym (inf_add d r))
    (below_inf (add binary64 x d) (add_good d x r p))
mono d x y r p (finite n g) h = first p h
  where
    last : (m : ℕ) (e : ℤ) {d : Float} → NonNeg d → T (le (fin false m e) (fin false n g))
        → T (le (add binary64 (fin false m e) d) (add binary64 (fin false n g) d))
    last m e infinite h = unfold add in below_inf (inf false) infinite
    last m e (finite k f) h =
        unfold add sum in round_mono binary64 (m * up e * down f + k * up f * down e) (down e * down f)
        (n * up g * down f + k * up f * down g) (down g * down f)
        (mul-pos (down_pos e) (down_pos f)) (mul-pos (down_pos g) (down_pos f))
        (cross_sum (m * up e) (n * up g) (k * up f) (down e) (down g) (down f) (cross_of m n e g h))

    first : {x : Float} → NonNeg x → T (le x (fin false n g))
        → T (le (add binary64 x d) (add binary64 (fin false n g) d))
    first infinite h = absurd (not-above n g h)
    first (finite m e) h = last m e r h

-- ---- the inputs

plain_good : (x : Float) → in_range x ≡ true → NonNeg (plain_zero x)
plain_good x r = subst NonNeg (sym (ranged x r).is) (finite _ _)

time_good : (late : Bool) (t : InputTime) → sound_time t ≡ true → NonNeg (time_of late t)
time_good late NotRead s = finite 0 (pos 0)
time_good late (Arrival x) s = plain_good x s
time_good true (Between x y) s = plain_good y
    (and_left (in_range y) (le x y) (and_right (in_range x) (in_range y && le x y) s))
time_good false (Between x y) s = plain_good x (and_left (in_range x) (in_range y && le x y) s)

inputs_good : (late : Bool) (n : ℕ) (ts : List InputTime) → every n (λ j. sound_time (time_at ts j)) ≡ true → (j : ℕ)
    → NonNeg (input_times late n ts j)
inputs_good late n ts s j = go (ltb j n) refl
  where
    go : (b : Bool) → ltb j n ≡ b → NonNeg (cond b (time_of late (time_at ts j)) zero_time)
    go true q = time_good late (time_at ts j) (every_at n (λ j. sound_time (time_at ts j)) s j (ltb-true j n q))
    go false q = finite 0 (pos 0)

-- the greatest (late), or the least, over all paths
pub rounded_path : (late : Bool) (e : Edition) → IsEdition e
    → (d n : ℕ) (s : List ℕ) (delay : Float) (ts : List InputTime) → Leaves e d n s delay ts
    → BestPath (BeyondTime late) (delayed (plain_zero delay)) n (sheet_cells e s (records e s)) (input_times late n ts)
    (settled late e n s delay ts)
unfolding settled keeping
rounded_path late e ok d n s delay ts l =
    let p = plain_good delay l.within in
    ordered_path lt (λ x y. T (le x y)) NonNeg same trans less (λ x y p q. total y x q p)
    (delayed (plain_zero delay)) (λ x a. add_good (plain_zero delay) x p a) (λ x y. mono (plain_zero delay) x y p)
    n (sheet_cells e s (records e s)) (input_times late n ts) (good_fed e ok d n s (records e s) l.good)
    (inputs_good late n ts (all_sound e n s (records e s) ts l.times)) zero_time
    (some_cells e d n s (records e s) l.good) late
