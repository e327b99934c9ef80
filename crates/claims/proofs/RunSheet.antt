-- Run a sheet at an assignment: what is claimed of it, over any edition and desk. Assumes nothing.
use mathlib.Core.Path.{◌≡◌, refl, sym, ap, ◌∙◌}
use mathlib.Core.Logic.{◌↔◌}
use mathlib.Core.Bool.{false, ◌||◌}
use mathlib.Core.List.{List, [], ◌∷◌}
use Prim.Native.Nat.{ℕ}
use native.Mathlib.Omega.{arith}
use lib.Dec.{eqb}
use Rattle.sheets.specs.declared.kinds.Edition.{Edition}
use Rattle.sheets.specs.Edition.{IsEdition}
use Rattle.sheets.specs.Network.{Gives}
use Rattle.sheets.specs.Sheet.{records, sheet_bit, sheet_cells}
use Rattle.sheets.specs.Reading.{EachRead, IsFirstUnread, without}
use Rattle.sheets.proofs.Unread.{not_read}
use Rattle.sheets.proofs.Without.{sheet-without}
use Rattle.refusals.specs.Verdicts.{Refusal, Verdict, Refused}
use Rattle.refusals.specs.Lines.{refusal, InOrder, verdict, number_of, place_of, reply}
use Rattle.refusals.specs.Refusals.{bad_inputs, bad_sheet, bad_assignment, unread_record}
use Rattle.refusals.proofs.Lines.{lapses}
use Rattle.refusals.proofs.Sheets.{good_sheet, read_fine}
use Rattle.running.specs.RunSheet.{RunAnswer, run_form, run_lines, run_done, run_not, run_outcome}
use Rattle.claims.specs.Words.{ByLines, FirstBad}
use Rattle.claims.specs.Before.{run_before}
use Rattle.claims.proofs.Verdicts.{says_verdict, is_refused_lem, by_lines, no_place}
use Rattle.claims.proofs.Sheets.{index-first, unread_exactly}

module _ (e : Edition) (d n : ℕ) (s : List ℕ) (x : ℕ) where
  pub run_says : (run_outcome e d n s x).verdict ≡ verdict (run_lines e d n s x)
  unfolding run_outcome
  run_says = says_verdict (λ (a : RunAnswer). a.verdict) (run_done e n s x) run_not refl (λ r. refl)
      (verdict (run_lines e d n s x))

  -- the verdict is that of lines 1, 9, 10, 11 and 15
  pub run_lines_lem : ByLines (run_outcome e d n s x).verdict (run_lines e d n s x)
  run_lines_lem = by_lines (run_lines e d n s x) refl (run_outcome e d n s x).verdict run_says

  -- refused: the bit is 0
  pub run_refused : (r : Refusal) → (run_outcome e d n s x).verdict ≡ Refused r → (run_outcome e d n s x).bit ≡ false
  unfolding run_outcome
  run_refused r h = ap (λ a. a.bit) (is_refused_lem (λ (a : RunAnswer). a.verdict) (run_done e n s x) run_not refl
      (λ q. refl) (verdict (run_lines e d n s x)) r h)

  -- nothing is named but for numbers 10 and 15
  pub run_no_index : (eqb (number_of (run_outcome e d n s x).verdict) 10
      || eqb (number_of (run_outcome e d n s x).verdict) 15) ≡ false
      → place_of (run_outcome e d n s x).verdict ≡ 0
  run_no_index = no_place (λ k. eqb k 10 || eqb k 15) (run_lines e d n s x) refl run_says

  -- 10 names the first bad record
  pub run_index : IsEdition e → number_of (run_outcome e d n s x).verdict ≡ 10
      → FirstBad e d n s (place_of (run_outcome e d n s x).verdict)
  run_index ok h = index-first e ok d n s (bad_inputs n ∷ bad_sheet e s ∷ [])
      (bad_assignment n x ∷ unread_record e n s ∷ []) refl refl (run_outcome e d n s x).verdict run_says h

  -- 15 is given exactly where the other lines are in order and some record but the last isn't read, and names the first
  -- such
  pub run-unread : (i : ℕ) → ((run_outcome e d n s x).verdict ≡ Refused (refusal 15 i))
      ↔ (InOrder (run_form e d n s x) × IsFirstUnread e n s (records e s) i)
  run-unread = unread_exactly e n s (run_form e d n s x) refl (run_outcome e d n s x).verdict run_says

  -- where each record but the last is read, every answer is as before
  pub run_as_before : EachRead e n s (records e s) → run_outcome e d n s x ≡ run_before e d n s x
  unfolding run_outcome
  run_as_before r = ap (λ (v : Verdict). reply v (run_done e n s x) run_not)
      (lapses (run_form e d n s x) (unread_record e n s ∷ []) (read_fine e n s r, tt))

  -- 15 never hides another gate: without that record the others, renumbered, give what the sheet gives
  -- (`sheet-without`, sheets)
  pub run-without : IsEdition e → (i : ℕ) → (run_outcome e d n s x).verdict ≡ Refused (refusal 15 i)
      → Gives n e.most (sheet_bit e n s (records e s)) (without n i (sheet_cells e s (records e s)))
  run-without ok i h =
      let w = (run-unread i).0 h in
      let f = w.0.1 in
      let u = w.1 in
      let g = good_sheet e d n s ok (f.0, (f.1.0, tt)) in
      sheet-without e ok d n s (records e s) i g.rules u.within
      (not_read e s n (records e s) i (omega (arith, u.within)) u.alone)

  -- two answers that keep the promise are equal
  pub run-once : (a a' : RunAnswer) → a ≡ run_outcome e d n s x → a' ≡ run_outcome e d n s x → a ≡ a'
  run-once a a' p q = p ∙ sym q
