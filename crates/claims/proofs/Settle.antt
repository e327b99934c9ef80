-- When does the gate settle: what is claimed of it, over any edition and desk. Assumes nothing.
use mathlib.Core.Path.{◌≡◌, refl, sym, ap, ap₂, subst, ◌∙◌, fun_ext}
use mathlib.Core.Bool.{Bool, true, false, cond, not, ◌&&◌, ◌||◌}
use mathlib.Core.List.{List, [], ◌∷◌, ◌++◌}
use Prim.Native.Nat.{ℕ, ◌+◌, ◌<◌}
use native.Mathlib.Omega.{arith}
use lib.Dec.{eqb, ltb}
use lib.Ieee.{Float}
use lib.Ieee.Exact.{HasValue}
use borrow.Author.Tests.{ne_eqb, ltb-true, not-false}
use Rattle.bits.specs.Below.{every}
use Rattle.bits.proofs.Below.{every_at, every_all, every_ext}
use Rattle.bits.proofs.Bools.{and_left, and_right, clash}
use Rattle.sheets.specs.declared.kinds.Edition.{Edition}
use Rattle.sheets.specs.Edition.{IsEdition}
use Rattle.sheets.specs.Sheet.{records, sheet_cells}
use Rattle.sheets.specs.Reading.{none_reads}
use Rattle.sheets.proofs.Unread.{none_names}
use Rattle.times.specs.declared.input_time.InputTime.{InputTime}
use Rattle.times.specs.InputTimes.{zero_time, plain_zero, in_range, sound_time, given, time_of, time_at, input_times}
use Rattle.times.specs.Signals.{keeping, delayed, output_time, settled}
use Rattle.times.specs.Sixteenths.{sixteenths_of, time_in_sixteenths}
use Rattle.times.specs.Whole.{settled_whole}
use Rattle.refusals.specs.Verdicts.{Refusal, Fine, Refused}
use Rattle.refusals.specs.Lines.{InOrder, line, verdict, number_of, place_of, reply}
use Rattle.refusals.specs.Refusals.{bad_inputs, bad_sheet, sheet_lines}
use Rattle.refusals.proofs.Lines.{in_order_lem, passes}
use Rattle.settling.specs.Refusals.{input_sound, bad_times}
use Rattle.settling.specs.Settle.{SettleAnswer, settle_lines, settle_done, settle_not, settle_outcome}
use Rattle.settling.proofs.Kept.{Leaves, leaves}
use Rattle.settling.proofs.Slacking.{settled_exact}
use Rattle.paths.specs.Paths.{Beyond, BeyondTime, BestPath}
use Rattle.paths.proofs.Whole.{whole_path}
use Rattle.paths.proofs.Rounded.{rounded_path}
use Rattle.claims.specs.Words.{ByLines, FirstBad}
use Rattle.claims.specs.Times.{Reads, SoundTimes, WholeTimes}
use Rattle.claims.proofs.Verdicts.{says_verdict, is_refused_lem, is_done, by_lines, no_place}
use Rattle.claims.proofs.Sheets.{index-first}

module _ (e : Edition) (d n : ℕ) (s : List ℕ) (delay : Float) (ts : List InputTime) where
  pub settle_says : (settle_outcome e d n s delay ts).verdict ≡ verdict (settle_lines e d n s delay ts)
  unfolding settle_outcome
  settle_says = says_verdict (λ (a : SettleAnswer). a.verdict) (settle_done e n s delay ts) settle_not refl (λ r. refl)
      (verdict (settle_lines e d n s delay ts))

  -- the verdict is that of lines 1, 9, 10 and 13
  pub settle_lines_lem : ByLines (settle_outcome e d n s delay ts).verdict (settle_lines e d n s delay ts)
  settle_lines_lem = by_lines (settle_lines e d n s delay ts) refl (settle_outcome e d n s delay ts).verdict settle_says

  -- refused: both times are zero
  pub settle_refused : (r : Refusal) → (settle_outcome e d n s delay ts).verdict ≡ Refused r
      → ((settle_outcome e d n s delay ts).earliest ≡ zero_time) × ((settle_outcome e d n s delay ts).latest ≡ zero_time)
  unfolding settle_outcome
  settle_refused r h =
      let q = is_refused_lem (λ (a : SettleAnswer). a.verdict) (settle_done e n s delay ts) settle_not refl (λ q. refl)
      (verdict (settle_lines e d n s delay ts)) r h in
      (ap (λ a. a.earliest) q, ap (λ a. a.latest) q)

  -- nothing is named but for number 10
  pub settle_no_index : (number_of (settle_outcome e d n s delay ts).verdict ≡ 10 → ⊥)
      → place_of (settle_outcome e d n s delay ts).verdict ≡ 0
  settle_no_index h = no_place (λ k. eqb k 10) (settle_lines e d n s delay ts) refl settle_says (ne_eqb _ 10 h)

  -- and then it is the first bad record
  pub settle-index : IsEdition e → number_of (settle_outcome e d n s delay ts).verdict ≡ 10
      → FirstBad e d n s (place_of (settle_outcome e d n s delay ts).verdict)
  settle-index ok h =
      index-first e ok d n s (bad_inputs n ∷ bad_sheet e s ∷ []) (bad_times e n s delay ts ∷ []) refl refl
      (settle_outcome e d n s delay ts).verdict settle_says h

  -- two answers that keep the promise are equal
  pub settle-once : (a a' : SettleAnswer) → a ≡ settle_outcome e d n s delay ts → a' ≡ settle_outcome e d n s delay ts → a
      ≡ a'
  settle-once a a' p q = p ∙ sym q

  -- ---- 13, in words

  sound_input : (j : ℕ) → input_sound e s (records e s) ts j ≡ true → given (time_at ts j) ≡ false → Reads e s j → ⊥
  sound_input j h g r =
      (none_names e s j (records e s)).0
      (or-first (given (time_at ts j)) (none_reads j (sheet_cells e s (records e s)))
      (and_right (sound_time (time_at ts j)) (given (time_at ts j) || none_reads j (sheet_cells e s (records e s))) h) g)
      (record {
        reader = r.cell;
        from = omega arith;
        within = omega (arith, r.within);
        place = r.place;
        among = r.among;
        names = r.reads;
      })
    where
      or-first : (a b : Bool) → (a || b) ≡ true → a ≡ false → b ≡ true
      or-first true b h g = absurd (clash refl g)
      or-first false b h g = h

  -- a refusal by 13 is not given exactly when the delay and the times are sound, and there where a cell reads
  pub settle_sound : (settle_outcome e d n s delay ts).verdict ≡ Fine → SoundTimes e n s delay ts
  settle_sound h =
      let w = in_order_lem (settle_lines e d n s delay ts) (sym settle_says ∙ h) in
      let q = every n (input_sound e s (records e s) ts) in
      let t = not-false (in_range delay && q) w.1.1.1.0 in record {
        delayed = and_left (in_range delay) q t;
        sound = λ j l. and_left (sound_time (time_at ts j)) _
            (every_at n (input_sound e s (records e s) ts) (and_right (in_range delay) q t) j l);
        there = λ j l. sound_input j (every_at n (input_sound e s (records e s) ts) (and_right (in_range delay) q t) j l);
      }

  module _ (form : InOrder (bad_inputs n ∷ sheet_lines e d n s)) where
    pub sound_settles : SoundTimes e n s delay ts → (settle_outcome e d n s delay ts).verdict ≡ Fine
    sound_settles w = settle_says ∙ passes (bad_inputs n ∷ sheet_lines e d n s) (bad_times e n s delay ts ∷ []) form
        ∙ rw (w.delayed, all) refl
      where
        at : (j : ℕ) → j < n → input_sound e s (records e s) ts j ≡ true
        at j l = go (given (time_at ts j)) refl
          where
            go : (b : Bool) → given (time_at ts j) ≡ b → input_sound e s (records e s) ts j ≡ true
            go true q = rw (w.sound j l, q) refl
            go false q =
                let u : none_reads j (sheet_cells e s (records e s)) ≡ true =
                (none_names e s j (records e s)).1 (λ y. w.there j l q (record {
                  cell = y.reader;
                  within = omega (arith, y.within);
                  place = y.place;
                  among = y.among;
                  reads = y.names;
                })) in
                rw (w.sound j l, q, u) refl

        all : every n (input_sound e s (records e s) ts) ≡ true
        all = every_all n (input_sound e s (records e s) ts) at

  -- ---- in sixteenths

  module _ (ok : IsEdition e) (done : (settle_outcome e d n s delay ts).verdict ≡ Fine) where
    pub left : Leaves e d n s delay ts
    left = leaves e ok d n s delay ts (in_order_lem (settle_lines e d n s delay ts) (sym settle_says ∙ done))

    is : settle_outcome e d n s delay ts ≡ settle_done e n s delay ts
    unfolding settle_outcome
    is = is_done (λ (a : SettleAnswer). a.verdict) (settle_done e n s delay ts) settle_not refl (λ q. refl)
        (verdict (settle_lines e d n s delay ts)) done

    -- nothing is rounded: the times are exactly so many sixteenths as whole numbers give
    pub settle_exact : WholeTimes n delay ts
        → HasValue (settle_outcome e d n s delay ts).earliest false (settled_whole false e n s delay ts) 16
        × HasValue (settle_outcome e d n s delay ts).latest false (settled_whole true e n s delay ts) 16
    settle_exact w =
        let x = settled_exact e d n s delay ts left w.delayed
        (every_all n (λ j. time_in_sixteenths (time_at ts j)) w.times) in (
          subst (λ (a : SettleAnswer). HasValue a.earliest false (settled_whole false e n s delay ts) 16) (sym is)
              (x false).0,
          subst (λ (a : SettleAnswer). HasValue a.latest false (settled_whole true e n s delay ts) 16) (sym is)
              (x true).0,
        )

    -- and these are the least and the greatest over all paths from an input to the output
    pub whole_paths : (late : Bool)
        → BestPath (Beyond late) (λ i. i + sixteenths_of delay) n (sheet_cells e s (records e s))
        (λ j. sixteenths_of (input_times late n ts j)) (settled_whole late e n s delay ts)
    whole_paths late = whole_path late e ok d n s delay ts left.good

    -- ---- any times: the least earliest and the greatest latest over all paths, the delay added and rounded cell by
    -- cell

    pub settle_earliest : BestPath (BeyondTime false) (delayed (plain_zero delay)) n (sheet_cells e s (records e s))
        (input_times false n ts) (settle_outcome e d n s delay ts).earliest
    settle_earliest =
        subst (λ (a : SettleAnswer). BestPath (BeyondTime false) (delayed (plain_zero delay)) n
        (sheet_cells e s (records e s)) (input_times false n ts) a.earliest) (sym is)
        (rounded_path false e ok d n s delay ts left)

    pub settle_latest : BestPath (BeyondTime true) (delayed (plain_zero delay)) n (sheet_cells e s (records e s))
        (input_times true n ts) (settle_outcome e d n s delay ts).latest
    settle_latest =
        subst (λ (a : SettleAnswer). BestPath (BeyondTime true) (delayed (plain_zero delay)) n
        (sheet_cells e s (records e s)) (input_times true n ts) a.latest) (sym is)
        (rounded_path true e ok d n s delay ts left)

-- what is said past the n inputs isn't looked at
pub settle_looks : (e : Edition) (d n : ℕ) (s : List ℕ) (delay : Float) (ts us : List InputTime)
    → ((j : ℕ) → j < n → time_at ts j ≡ time_at us j)
    → settle_outcome e d n s delay ts ≡ settle_outcome e d n s delay us
unfolding settle_outcome settled
settle_looks e d n s delay ts us h =
    ap (λ (t : Bool). answer t (input_times false n ts) (input_times true n ts))
    (every_ext n (input_sound e s (records e s) ts) (input_sound e s (records e s) us) (λ j l. rw (h j l) refl))
    ∙ ap₂ (answer (every n (input_sound e s (records e s) us))) (fun_ext (times_ext false)) (fun_ext (times_ext true))
  where
    answer : Bool → (ℕ → Float) → (ℕ → Float) → SettleAnswer
    answer sound v w =
        let settling : Bool → (ℕ → Float) → Float = λ late x. output_time (keeping late) (delayed (plain_zero delay))
        zero_time n (sheet_cells e s (records e s)) x in
        reply (verdict (bad_inputs n ∷ (sheet_lines e d n s ++ (line 13 (not (in_range delay && sound)) ∷ []))))
        (record { verdict = Fine; earliest = settling false v; latest = settling true w }) settle_not

    times_ext : (late : Bool) (j : ℕ) → input_times late n ts j ≡ input_times late n us j
    times_ext late j = go (ltb j n) refl
      where
        go : (b : Bool) → ltb j n ≡ b → cond b (time_of late (time_at ts j)) zero_time
            ≡ cond b (time_of late (time_at us j)) zero_time
        go true q = ap (time_of late) (h j (ltb-true j n q))
        go false q = refl
