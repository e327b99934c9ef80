-- A sheet whose lines are in order and whose times are in sixteenths: the output's times are exact, and the slack is a
-- whole number. Assumes nothing.
use mathlib.Core.Path.{◌≡◌, refl, subst, ◌∙◌}
use mathlib.Core.Bool.{Bool, true, false, cond, ◌&&◌}
use mathlib.Core.List.{List, [], ◌∷◌}
use Prim.Native.Nat.{ℕ, zero, suc, ◌-◌, ◌^◌, ◌<◌, ◌≤◌}
use native.Mathlib.Omega.{arith}
use lib.Dec.{ltb}
use lib.IntN.{ℤ, pos, negsuc, ◌-ℤ◌, sub_ℕ}
use lib.Ieee.{Float, le}
use lib.Ieee.Exact.{HasValue}
use lib.Signed.{mag, le_z}
use borrow.Author.Tests.{not-false, ltb-true, leb-true}
use Rattle.bits.specs.Below.{every}
use Rattle.bits.proofs.Below.{every_at}
use Rattle.bits.proofs.Bools.{and_left, and_right}
use Rattle.sheets.specs.declared.kinds.Edition.{Edition}
use Rattle.sheets.specs.Sheet.{records, sheet_cells}
use Rattle.sheets.proofs.Wiring.{cells_length}
use Rattle.times.specs.declared.input_time.InputTime.{InputTime}
use Rattle.times.specs.declared.input_time.InputTime.TheVariants.{NotRead, Arrival, Between}
use Rattle.times.specs.InputTimes.{zero_time, plain_zero, in_range, sound_time, time_of, time_at, input_times}
use Rattle.times.specs.Signals.{settled}
use Rattle.times.specs.Sixteenths.{sixteenths_of, in_sixteenths, time_in_sixteenths, deadline_ok}
use Rattle.times.specs.Whole.{settled_whole}
use Rattle.times.proofs.Telling.{whole_of, of_whole, ranged, same_count, same_sixteenths}
use Rattle.times.proofs.Exact.{Exactly, exact}
use Rattle.refusals.specs.Lines.{InOrder}
use Rattle.settling.specs.Refusals.{bad_slack}
use Rattle.settling.proofs.Kept.{Leaves, all_sound}

zero_exact : Exactly 0 zero_time (sixteenths_of zero_time)
unfolding sixteenths_of
zero_exact = ((refl, refl), omega arith)

nothing : Exactly 0 zero_time 0
nothing = ((refl, refl), omega arith)

plain_exact : (x : Float) → in_range x ≡ true → in_sixteenths x ≡ true
    → Exactly 0 (plain_zero x) (sixteenths_of (plain_zero x))
plain_exact x r h = let w = of_whole (plain_zero x) (ranged x r) (same_sixteenths x ∙ h) in (w.0, omega (arith, w.1))

time_exact : (late : Bool) (t : InputTime) → sound_time t ≡ true → time_in_sixteenths t ≡ true
    → Exactly 0 (time_of late t) (sixteenths_of (time_of late t))
time_exact late NotRead s h = zero_exact
time_exact late (Arrival x) s h = plain_exact x s h
time_exact true (Between x y) s h =
    plain_exact y (and_left (in_range y) (le x y) (and_right (in_range x) (in_range y && le x y) s))
    (and_right (in_sixteenths x) (in_sixteenths y) h)
time_exact false (Between x y) s h = plain_exact x (and_left (in_range x) (in_range y && le x y) s)
    (and_left (in_sixteenths x) (in_sixteenths y) h)

inputs_exact : (late : Bool) (n : ℕ) (ts : List InputTime) → every n (λ j. sound_time (time_at ts j)) ≡ true
    → every n (λ j. time_in_sixteenths (time_at ts j)) ≡ true
    → (j : ℕ) → Exactly 0 (input_times late n ts j) (sixteenths_of (input_times late n ts j))
inputs_exact late n ts s h j = go (ltb j n) refl
  where
    go : (b : Bool) → ltb j n ≡ b → Exactly 0 (cond b (time_of late (time_at ts j)) zero_time)
        (sixteenths_of (cond b (time_of late (time_at ts j)) zero_time))
    go true q =
        time_exact late (time_at ts j) (every_at n (λ j. sound_time (time_at ts j)) s j (ltb-true j n q))
        (every_at n (λ j. time_in_sixteenths (time_at ts j)) h j (ltb-true j n q))
    go false q = zero_exact

module _ (e : Edition) (d n : ℕ) (s : List ℕ) (delay : Float) (ts : List InputTime) (l : Leaves e d n s delay ts)
    (w : in_sixteenths delay ≡ true) (ws : every n (λ j. time_in_sixteenths (time_at ts j)) ≡ true) where
  -- exact over whole numbers
  pub settled_exact : (late : Bool) → HasValue (settled late e n s delay ts) false (settled_whole late e n s delay ts) 16
      × (settled_whole late e n s delay ts ≤ 1048576)
  unfolding settled settled_whole
  settled_exact late =
      let m = records e s in
      let c = cells_length e s 0 m in
      let x = exact late (sheet_cells e s m) n (plain_zero delay) (sixteenths_of delay) zero_time 0 (input_times late n ts)
      (λ j. sixteenths_of (input_times late n ts j))
      (omega (arith, c, l.good.most))
      (subst (Exactly 0 (plain_zero delay)) (same_count delay) (plain_exact delay l.within w)) nothing
      (inputs_exact late n ts (all_sound e n s m ts l.times) ws) in
      (x.0, omega (arith, x.1, c, l.good.most))

  pub counted : (late : Bool) → sixteenths_of (settled late e n s delay ts) ≡ settled_whole late e n s delay ts
  counted late = (whole_of (settled late e n s delay ts) (settled_whole late e n s delay ts) (settled_exact late).0).1

-- a deadline in range less such a number fits an i64
sub_mag : (a b k : ℕ) → a < k → b < k → mag (sub_ℕ a b) < k
sub_mag a b k h l = go (ltb a b)
  where
    go : (t : Bool) → mag (cond t (negsuc (b - suc a)) (pos (a - b))) < k
    go true = omega arith
    go false = omega arith

pub small : (z : ℤ) (n : ℕ) → deadline_ok z ≡ true → n ≤ 1048576 → mag (z -ℤ pos n) < 2 ^ 63
small z n h l = go z n (and_left (le_z (negsuc 1048575) z) (le_z z (pos 1048576)) h)
    (and_right (le_z (negsuc 1048575) z) (le_z z (pos 1048576)) h) l
  where
    go : (z : ℤ) (n : ℕ) → le_z (negsuc 1048575) z ≡ true → le_z z (pos 1048576) ≡ true → n ≤ 1048576 → mag (z -ℤ pos n)
        < 2 ^ 63
    go (pos a) zero h k l = omega (arith, leb-true a 1048576 k)
    go (pos a) (suc n) h k l = sub_mag a (suc n) (2 ^ 63) (omega (arith, leb-true a 1048576 k)) (omega arith)
    go (negsuc a) zero h k l = sub_mag 0 (suc a) (2 ^ 63) (omega arith) (omega (arith, leb-true a 1048575 h))
    go (negsuc a) (suc n) h k l = omega (arith, leb-true a 1048575 h)

-- what line 14 leaves
pub record InWhole (n : ℕ) (delay : Float) (ts : List InputTime) (deadline : ℤ) : Type 0 where
  pub whole : in_sixteenths delay ≡ true
  pub wholes : every n (λ j. time_in_sixteenths (time_at ts j)) ≡ true
  pub within : deadline_ok deadline ≡ true

pub in_whole : (n : ℕ) (delay : Float) (ts : List InputTime) (deadline : ℤ)
    → InOrder (bad_slack n delay ts deadline ∷ []) → InWhole n delay ts deadline
in_whole n delay ts deadline w =
    let q = every n (λ j. time_in_sixteenths (time_at ts j)) in
    let t = not-false (in_sixteenths delay && (q && deadline_ok deadline)) w.0 in
    let u = and_right (in_sixteenths delay) (q && deadline_ok deadline) t in
    record {
      whole = and_left (in_sixteenths delay) (q && deadline_ok deadline) t;
      wholes = and_left q (deadline_ok deadline) u;
      within = and_right q (deadline_ok deadline) u;
    }
