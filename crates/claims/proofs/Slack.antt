-- The slack: what is claimed of it, over any edition and desk. Assumes nothing.
use mathlib.Core.Path.{◌≡◌, refl, sym, ap, ◌∙◌}
use mathlib.Core.Bool.{true}
use mathlib.Core.List.{List, [], ◌∷◌}
use Prim.Native.Nat.{ℕ, ◌+◌}
use lib.Dec.{eqb}
use lib.IntN.{ℤ, pos, ◌-ℤ◌}
use lib.Ieee.{Float}
use borrow.Author.Tests.{ne_eqb}
use Rattle.sheets.specs.declared.kinds.Edition.{Edition}
use Rattle.sheets.specs.Edition.{IsEdition}
use Rattle.sheets.specs.Sheet.{records, sheet_cells}
use Rattle.times.specs.declared.input_time.InputTime.{InputTime}
use Rattle.times.specs.InputTimes.{input_times}
use Rattle.times.specs.Sixteenths.{sixteenths_of}
use Rattle.times.specs.Whole.{settled_whole}
use Rattle.refusals.specs.Verdicts.{Refusal, Fine, Refused}
use Rattle.refusals.specs.Lines.{InOrder, verdict, number_of, place_of}
use Rattle.refusals.specs.Refusals.{bad_inputs, bad_sheet}
use Rattle.refusals.proofs.Lines.{in_order_lem}
use Rattle.settling.specs.Refusals.{bad_times, bad_slack}
use Rattle.settling.specs.Slack.{SlackAnswer, slack_lines, slack_done, slack_not, slack_outcome}
use Rattle.settling.proofs.Kept.{Leaves, leaves}
use Rattle.settling.proofs.Slacking.{counted, InWhole, in_whole}
use Rattle.paths.specs.Paths.{Beyond, BestPath}
use Rattle.paths.proofs.Whole.{whole_path}
use Rattle.claims.specs.Words.{ByLines, FirstBad}
use Rattle.claims.proofs.Verdicts.{says_verdict, is_refused_lem, is_done, by_lines, no_place}
use Rattle.claims.proofs.Sheets.{index-first}

module _ (e : Edition) (d n : ℕ) (s : List ℕ) (delay : Float) (ts : List InputTime) (deadline : ℤ) where
  pub slack_says : (slack_outcome e d n s delay ts deadline).verdict ≡ verdict (slack_lines e d n s delay ts deadline)
  unfolding slack_outcome
  slack_says = says_verdict (λ (a : SlackAnswer). a.verdict) (slack_done e n s delay ts deadline) slack_not refl
      (λ r. refl) (verdict (slack_lines e d n s delay ts deadline))

  -- the verdict is that of lines 1, 9, 10, 13 and 14
  pub slack_lines_lem : ByLines (slack_outcome e d n s delay ts deadline).verdict (slack_lines e d n s delay ts deadline)
  slack_lines_lem = by_lines (slack_lines e d n s delay ts deadline) refl (slack_outcome e d n s delay ts deadline).verdict
      slack_says

  -- refused: the slack is 0
  pub slack_refused : (r : Refusal) → (slack_outcome e d n s delay ts deadline).verdict ≡ Refused r
      → (slack_outcome e d n s delay ts deadline).slack ≡ pos 0
  unfolding slack_outcome
  slack_refused r h =
      ap (λ a. a.slack) (is_refused_lem (λ (a : SlackAnswer). a.verdict) (slack_done e n s delay ts deadline) slack_not refl
      (λ q. refl) (verdict (slack_lines e d n s delay ts deadline)) r h)

  -- nothing is named but for number 10
  pub slack_no_index : (number_of (slack_outcome e d n s delay ts deadline).verdict ≡ 10 → ⊥)
      → place_of (slack_outcome e d n s delay ts deadline).verdict ≡ 0
  slack_no_index h = no_place (λ k. eqb k 10) (slack_lines e d n s delay ts deadline) refl slack_says (ne_eqb _ 10 h)

  -- and then it is the first bad record
  pub slack-index : IsEdition e → number_of (slack_outcome e d n s delay ts deadline).verdict ≡ 10
      → FirstBad e d n s (place_of (slack_outcome e d n s delay ts deadline).verdict)
  slack-index ok h =
      index-first e ok d n s (bad_inputs n ∷ bad_sheet e s ∷ [])
      (bad_times e n s delay ts ∷ bad_slack n delay ts deadline ∷ []) refl refl
      (slack_outcome e d n s delay ts deadline).verdict slack_says h

  -- two answers that keep the promise are equal
  pub slack-once : (a a' : SlackAnswer) → a ≡ slack_outcome e d n s delay ts deadline → a'
      ≡ slack_outcome e d n s delay ts deadline → a ≡ a'
  slack-once a a' p q = p ∙ sym q

  -- ---- a whole number

  module _ (ok : IsEdition e) (done : (slack_outcome e d n s delay ts deadline).verdict ≡ Fine) where
    lines : InOrder (slack_lines e d n s delay ts deadline)
    lines = in_order_lem (slack_lines e d n s delay ts deadline) (sym slack_says ∙ done)

    left : Leaves e d n s delay ts
    left = let w = lines in leaves e ok d n s delay ts (w.0, (w.1.0, (w.1.1.0, (w.1.1.1.0, tt))))

    whole : InWhole n delay ts deadline
    whole = in_whole n delay ts deadline lines.1.1.1.1

    -- the deadline less the output's latest time over whole numbers
    pub slack_whole : (slack_outcome e d n s delay ts deadline).slack ≡ deadline -ℤ pos (settled_whole true e n s delay ts)
    unfolding slack_outcome
    slack_whole =
        ap (λ a. a.slack) (is_done (λ (a : SlackAnswer). a.verdict) (slack_done e n s delay ts deadline) slack_not refl
        (λ q. refl) (verdict (slack_lines e d n s delay ts deadline)) done)
        ∙ ap (λ (i : ℕ). deadline -ℤ pos i) (counted e d n s delay ts left whole.whole whole.wholes true)

    -- which is the greatest over all paths from an input to the output
    pub slack_path : BestPath (Beyond true) (λ i. i + sixteenths_of delay) n (sheet_cells e s (records e s))
        (λ j. sixteenths_of (input_times true n ts j)) (settled_whole true e n s delay ts)
    slack_path = whole_path true e ok d n s delay ts left.good
