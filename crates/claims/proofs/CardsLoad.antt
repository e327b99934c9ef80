-- Load a desk of a card, a load that is cut, one store of a load: what is claimed of the three at once, where of the
-- load's stores only ts are made. Assumes nothing.
use mathlib.Core.Path.{◌≡◌, refl, sym, ap, ◌∙◌, subst}
use mathlib.Core.Logic.{◌↔◌}
use mathlib.Core.Bool.{false, ◌||◌}
use mathlib.Core.List.{List, [], ◌∷◌}
use Prim.Native.Nat.{ℕ}
use lib.Dec.{eqb}
use Rattle.sheets.specs.Edition.{first_edition}
use Rattle.sheets.specs.Sheet.{records}
use Rattle.sheets.specs.Reading.{IsFirstUnread}
use Rattle.sheets.proofs.Keeping.{first_edition_lem}
use Rattle.refusals.specs.Verdicts.{Refusal, Verdict, Fine, Refused}
use Rattle.refusals.specs.Lines.{refusal, InOrder, verdict, number_of, place_of}
use Rattle.refusals.specs.Refusals.{bad_inputs, bad_sheet, sheet_lines, unread_record}
use Rattle.refusals.proofs.Lines.{in_order_lem}
use Rattle.cards.specs.declared.stores.Store.{Store}
use Rattle.cards.specs.Stores.{stored}
use Rattle.cards.specs.Refusals.{bad_card, bad_load}
use Rattle.cards.specs.LoadDesk.{LoadOutcome, load_lines, load_done, load_not, part_outcome}
use Rattle.cards.proofs.Desks.{Accepted, accepts}
use Rattle.claims.specs.Words.{ByLines, FirstBad}
use Rattle.claims.proofs.Verdicts.{says_verdict, is_done, is_refused_lem, by_lines, no_place}
use Rattle.claims.proofs.Sheets.{index-first, unread_exactly}

module _ (ts : List Store) (c : List ℕ) (d n : ℕ) (s : List ℕ) where
  pub load_says : (part_outcome ts c d n s).verdict ≡ verdict (load_lines c d n s)
  unfolding part_outcome
  load_says = says_verdict (λ (o : LoadOutcome). o.verdict) (load_done ts c) (load_not c) refl (λ r. refl)
      (verdict (load_lines c d n s))

  -- the verdict is that of lines 20, 19, 1, 9, 10 and 15
  pub load_lines_lem : ByLines (part_outcome ts c d n s).verdict (load_lines c d n s)
  load_lines_lem = by_lines (load_lines c d n s) refl (part_outcome ts c d n s).verdict load_says

  -- refused: no byte of the card is changed
  pub load_refused : (r : Refusal) → (part_outcome ts c d n s).verdict ≡ Refused r → (part_outcome ts c d n s).card ≡ c
  unfolding part_outcome
  load_refused r h =
      ap (λ o. o.card) (is_refused_lem (λ (o : LoadOutcome). o.verdict) (load_done ts c) (load_not c) refl (λ q. refl)
      (verdict (load_lines c d n s)) r h)

  -- done: the stores are made
  pub load_made : (part_outcome ts c d n s).verdict ≡ Fine → (part_outcome ts c d n s).card ≡ stored ts c
  unfolding part_outcome
  load_made h = ap (λ o. o.card) (is_done (λ (o : LoadOutcome). o.verdict) (load_done ts c) (load_not c) refl
      (λ q. refl) (verdict (load_lines c d n s)) h)

  -- what is then known: the card's length, the desk, and that the sheet is good
  pub load_accepted : (part_outcome ts c d n s).verdict ≡ Fine → Accepted c d n s
  load_accepted h = accepts c d n s (in_order_lem (load_lines c d n s) (sym load_says ∙ h))

  -- so what holds of the card as it was, and of an accepted load's stores made on it, holds of the card afterwards
  pub load_either : (P : List ℕ → Type 0) → P c → (Accepted c d n s → P (stored ts c))
      → P (part_outcome ts c d n s).card
  load_either P same new = go (part_outcome ts c d n s).verdict refl
    where
      go : (v : Verdict) → (part_outcome ts c d n s).verdict ≡ v → P (part_outcome ts c d n s).card
      go Fine h = subst P (sym (load_made h)) (new (load_accepted h))
      go (Refused r) h = subst P (sym (load_refused r h)) same

  -- nothing is named but for numbers 10 and 15
  pub load_no_index : (eqb (number_of (part_outcome ts c d n s).verdict) 10
      || eqb (number_of (part_outcome ts c d n s).verdict) 15) ≡ false
      → place_of (part_outcome ts c d n s).verdict ≡ 0
  load_no_index = no_place (λ k. eqb k 10 || eqb k 15) (load_lines c d n s) refl load_says

  -- 10 names the first bad record, one of another desk being bad
  pub load_index : number_of (part_outcome ts c d n s).verdict ≡ 10
      → FirstBad first_edition d n s (place_of (part_outcome ts c d n s).verdict)
  load_index h =
      index-first first_edition first_edition_lem d n s (bad_card c ∷ bad_load d s ∷ bad_inputs n ∷ bad_sheet first_edition s ∷
      []) (unread_record first_edition n s ∷ []) refl refl
      (part_outcome ts c d n s).verdict load_says h

  -- 15 is given exactly where the other lines are in order and some record but the last isn't read, and names the first
  -- such
  pub load_unread : (i : ℕ) → ((part_outcome ts c d n s).verdict ≡ Refused (refusal 15 i))
      ↔ (InOrder (bad_card c ∷ bad_load d s ∷ bad_inputs n ∷ sheet_lines first_edition d n s)
      × IsFirstUnread first_edition n s (records first_edition s) i)
  load_unread =
      unread_exactly first_edition n s (bad_card c ∷ bad_load d s ∷ bad_inputs n ∷ sheet_lines first_edition d n s) refl
      (part_outcome ts c d n s).verdict load_says

  -- two outcomes that keep the promise are equal: the verdict, and the card afterwards
  pub load_once : (v v' : Verdict) (l l' : List ℕ) → record { verdict = v; card = l } ≡ part_outcome ts c d n s
      → record { verdict = v'; card = l' } ≡ part_outcome ts c d n s
      → (v ≡ v') × (l ≡ l')
  load_once v v' l l' p q = (ap (λ o. o.verdict) (p ∙ sym q), ap (λ o. o.card) (p ∙ sym q))
