-- What lines 1, 9, 10 and 13 leave for times. Assumes nothing.
use mathlib.Core.Path.{◌≡◌}
use mathlib.Core.Bool.{true, ◌&&◌}
use mathlib.Core.List.{List}
use Prim.Native.Nat.{ℕ, ◌≤◌}
use native.Mathlib.Nat.{le_of_eq}
use native.Mathlib.Omega.{arith}
use lib.Ieee.{Float}
use lib.ListN.{length}
use borrow.Author.Tests.{not-false}
use Rattle.bits.specs.Below.{every}
use Rattle.bits.proofs.Bools.{and_left, and_right}
use Rattle.bits.proofs.Below.{every_at, every_all}
use Rattle.tables.specs.Table.{most_inputs}
use Rattle.sheets.specs.declared.kinds.Edition.{Edition}
use Rattle.sheets.specs.Edition.{IsEdition}
use Rattle.sheets.specs.Sheet.{records, Good}
use Rattle.sheets.proofs.Looks.{record_keeps}
use Rattle.sheets.proofs.Places.{record_within, record_length}
use Rattle.times.specs.declared.input_time.InputTime.{InputTime}
use Rattle.times.specs.InputTimes.{in_range, sound_time, time_at}
use Rattle.times.specs.Reading.{Timed}
use Rattle.refusals.specs.Lines.{InOrder}
use Rattle.refusals.proofs.Sheets.{good_sheet}
use Rattle.refusals.proofs.Tests.{inside}
use Rattle.settling.specs.Refusals.{input_sound}
use Rattle.settling.specs.Settle.{settle_lines}

-- the times of a good sheet can be found
pub good_timed : (e : Edition) → IsEdition e → (d n : ℕ) (s : List ℕ) (m : ℕ) → n ≤ most_inputs → Good e d n s m
    → Timed e s m
good_timed e ok d n s m h g = record {
  sound = ok;
  most = g.most;
  long = le_of_eq g.whole;
  reads = λ i l. let k = record_keeps e ok d n s m g.rules i l in record {
    sound = ok;
    long = record_length e s i (record_within e.size i m (length s) l (le_of_eq g.whole));
    some = k.some;
    few = k.most;
    known = λ j q. omega (arith, k.known j q, g.most);
  };
}

-- what a call's lines leave where none of them holds
pub record Leaves (e : Edition) (d n : ℕ) (s : List ℕ) (delay : Float) (ts : List InputTime) : Type 0 where
  pub some : 1 ≤ n
  pub inputs : n ≤ most_inputs
  pub good : Good e d n s (records e s)
  pub within : in_range delay ≡ true
  pub times : every n (input_sound e s (records e s) ts) ≡ true

module _ (e : Edition) (ok : IsEdition e) (d n : ℕ) (s : List ℕ) (delay : Float) (ts : List InputTime) where
  pub leaves : InOrder (settle_lines e d n s delay ts) → Leaves e d n s delay ts
  leaves w =
      let r = inside 1 n most_inputs w.0 in
      let t = not-false (in_range delay && every n (input_sound e s (records e s) ts)) w.1.1.1.0 in record {
        some = r.0;
        inputs = r.1;
        good = good_sheet e d n s ok (w.1.0, (w.1.1.0, tt));
        within = and_left (in_range delay) (every n (input_sound e s (records e s) ts)) t;
        times = and_right (in_range delay) (every n (input_sound e s (records e s) ts)) t;
      }

-- each input's time is sound
pub all_sound : (e : Edition) (n : ℕ) (s : List ℕ) (m : ℕ) (ts : List InputTime) → every n (input_sound e s m ts) ≡ true
    → every n (λ j. sound_time (time_at ts j)) ≡ true
all_sound e n s m ts h =
    every_all n (λ j. sound_time (time_at ts j)) (λ j l. and_left (sound_time (time_at ts j)) _
    (every_at n (input_sound e s m ts) h j l))
