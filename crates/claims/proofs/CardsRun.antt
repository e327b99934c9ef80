-- Run a desk of a card at an assignment: what is claimed of it. Assumes nothing.
use mathlib.Core.Path.{◌≡◌, refl, sym, ap, ◌∙◌, subst}
use mathlib.Core.Bool.{false, ◌||◌}
use mathlib.Core.List.{List, [], ◌∷◌}
use Prim.Native.Nat.{ℕ}
use native.Mathlib.Omega.{arith}
use lib.Dec.{eqb}
use Rattle.sheets.specs.Edition.{first_edition}
use Rattle.sheets.specs.Sheet.{records, sheet_bit}
use Rattle.sheets.specs.Reading.{IsFirstUnread}
use Rattle.sheets.proofs.Keeping.{first_edition_lem}
use Rattle.refusals.specs.Verdicts.{Refusal, Fine, Refused}
use Rattle.refusals.specs.Lines.{verdict, number_of, place_of}
use Rattle.refusals.specs.Refusals.{bad_inputs, bad_record, unread_record, bad_assignment}
use Rattle.refusals.proofs.Lines.{held}
use Rattle.refusals.proofs.Sheets.{unread_named}
use Rattle.running.specs.RunSheet.{RunAnswer, run_done, run_not}
use Rattle.cards.specs.Card.{own_bytes, inputs_on, sheet_on}
use Rattle.cards.specs.Refusals.{bad_card, missing_desk, closed_desk, bad_count}
use Rattle.cards.specs.RunDesk.{run_desk_lines, run_desk_outcome}
use Rattle.cards.proofs.Desks.{run_by_lines}
use Rattle.claims.specs.Words.{ByLines, FirstBad}
use Rattle.claims.proofs.Verdicts.{says_verdict, is_done, is_refused_lem, by_lines, no_place}
use Rattle.claims.proofs.Sheets.{index-first}

module _ (c : List ℕ) (d x : ℕ) where
  -- n and the sheet, as the desk's own bytes say
  abbrev n : ℕ
  n = inputs_on (own_bytes c d)

  abbrev s : List ℕ
  s = sheet_on (own_bytes c d)

  pub run_desk_says : (run_desk_outcome c d x).verdict ≡ verdict (run_desk_lines c d x)
  run_desk_says =
      ap (λ (a : RunAnswer). a.verdict) (run_by_lines c d x)
      ∙ says_verdict (λ (a : RunAnswer). a.verdict) (run_done first_edition n s x) run_not refl (λ r. refl)
      (verdict (run_desk_lines c d x))

  -- the verdict is that of lines 20, 19, 18, 1, 9, 10, 15 and 11
  pub run_desk_lines_lem : ByLines (run_desk_outcome c d x).verdict (run_desk_lines c d x)
  run_desk_lines_lem = by_lines (run_desk_lines c d x) refl (run_desk_outcome c d x).verdict run_desk_says

  -- refused: the bit is 0
  pub run_desk_refused : (r : Refusal) → (run_desk_outcome c d x).verdict ≡ Refused r → (run_desk_outcome c d x).bit ≡ false
  run_desk_refused r h =
      let e = run_by_lines c d x in
      ap (λ (a : RunAnswer). a.bit) (e ∙ is_refused_lem (λ (a : RunAnswer). a.verdict) (run_done first_edition n s x) run_not
      refl (λ q. refl) (verdict (run_desk_lines c d x)) r
      (sym (ap (λ (a : RunAnswer). a.verdict) e) ∙ h))

  -- done: the bit that the network of the desk's sheet gives
  pub run_desk_done : (run_desk_outcome c d x).verdict ≡ Fine → (run_desk_outcome c d x).bit
      ≡ sheet_bit first_edition n s (records first_edition s) x
  run_desk_done h =
      let e = run_by_lines c d x in
      ap (λ (a : RunAnswer). a.bit) (e ∙ is_done (λ (a : RunAnswer). a.verdict) (run_done first_edition n s x) run_not
      refl (λ q. refl) (verdict (run_desk_lines c d x))
      (sym (ap (λ (a : RunAnswer). a.verdict) e) ∙ h))

  -- nothing is named but for numbers 10 and 15
  pub run_desk_no_index : (eqb (number_of (run_desk_outcome c d x).verdict) 10
      || eqb (number_of (run_desk_outcome c d x).verdict) 15) ≡ false
      → place_of (run_desk_outcome c d x).verdict ≡ 0
  run_desk_no_index = no_place (λ k. eqb k 10 || eqb k 15) (run_desk_lines c d x) refl run_desk_says

  -- 10 names the first bad record, counted within the desk; one of another desk is bad
  pub run_desk_index : number_of (run_desk_outcome c d x).verdict ≡ 10
      → FirstBad first_edition d n s (place_of (run_desk_outcome c d x).verdict)
  run_desk_index h =
      index-first first_edition first_edition_lem d n s (bad_card c ∷ missing_desk d ∷ closed_desk (own_bytes c d) ∷ bad_inputs n
      ∷ bad_count (own_bytes c d) ∷ [])
      (unread_record first_edition n s ∷ bad_assignment n x ∷ []) refl refl (run_desk_outcome c d x).verdict run_desk_says h

  -- 15 names the first unread one, counted likewise
  pub run_desk_unread : number_of (run_desk_outcome c d x).verdict ≡ 15
      → IsFirstUnread first_edition n s (records first_edition s) (place_of (run_desk_outcome c d x).verdict)
  run_desk_unread h =
      let w = held (bad_card c ∷ missing_desk d ∷ closed_desk (own_bytes c d) ∷ bad_inputs n ∷ bad_count (own_bytes c d) ∷
      bad_record first_edition d n s ∷ []) (unread_record first_edition n s)
      (bad_assignment n x ∷ []) 15 refl refl (λ z. omega arith) (ap number_of (sym run_desk_says) ∙ h) in
      subst (IsFirstUnread first_edition n s (records first_edition s)) (sym (ap place_of (run_desk_says ∙ w.1)))
      (unread_named first_edition n s w.0)

  -- two answers that keep the promise are equal
  pub run_desk_once : (a a' : RunAnswer) → a ≡ run_desk_outcome c d x → a' ≡ run_desk_outcome c d x → a ≡ a'
  run_desk_once a a' p q = p ∙ sym q
