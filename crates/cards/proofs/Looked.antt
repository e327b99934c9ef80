-- Running a desk looks at its mark, n, count and used places, and at nothing else of its bytes. Assumes nothing.
use mathlib.Core.Path.{◌≡◌, refl, sym, ap, ap₂, ◌∙◌}
use mathlib.Core.Bool.{Bool, true, false, not, ◌&&◌, and-false}
use mathlib.Core.List.{List, [], ◌∷◌}
use Prim.Native.Nat.{ℕ, ◌*◌, ◌<◌, ◌≤◌, min}
use native.Mathlib.Decide.{dec_lt}
use native.Mathlib.Omega.{arith}
use lib.Dec.{leb, eqb}
use lib.ListN.{length, take, length-take}
use lib.Seq.{ext_get_or, get_or-take}
use borrow.Author.Tests.{lt-leb}
use Rattle.sheets.specs.Edition.{record_size, most_records, first_edition}
use Rattle.refusals.specs.Lines.{line, verdict, reply}
use Rattle.refusals.specs.Refusals.{bad_inputs, bad_record, unread_record, bad_assignment}
use Rattle.running.specs.RunSheet.{RunAnswer, run_done, run_not}
use Rattle.cards.specs.Card.{open_mark, inputs_on, count_on, sheet_on, SameUse}
use Rattle.cards.specs.Refusals.{no_desk}
use Rattle.cards.specs.RunDesk.{desk_outcome}

module _ (d x : ℕ) where
  -- what a desk answers, from the mark, n, whether the count is wrong, and the sheet
  says : ℕ → ℕ → Bool → List ℕ → RunAnswer
  says m n w s =
      reply (verdict (line 19 (no_desk d) ∷ line 18 (not (eqb m 1)) ∷ bad_inputs n ∷ line 9 w ∷ bad_record first_edition d n
      s
      ∷ unread_record first_edition n s ∷ bad_assignment n x ∷ [])) (run_done first_edition n s x) run_not

  abbrev wrong : ℕ → Bool
  wrong k = not (leb 1 k && leb k most_records)

  -- where the count is wrong no sheet is looked at
  no_sheet : (m n : ℕ) (s t : List ℕ) → says m n true s ≡ says m n true t
  unfolding says
  no_sheet m n s t = go (no_desk d) (not (eqb m 1)) (bad_inputs n).holds
    where
      go : (a b c : Bool)
          → reply (verdict (line 19 a ∷ line 18 b ∷ line 1 c ∷ line 9 true ∷ bad_record first_edition d n s ∷ unread_record
          first_edition n s ∷ bad_assignment n x ∷ []))
          (run_done first_edition n s x) run_not
          ≡ reply (verdict (line 19 a ∷ line 18 b ∷ line 1 c ∷ line 9 true ∷ bad_record first_edition d n t ∷ unread_record
          first_edition n t ∷ bad_assignment n x ∷ []))
          (run_done first_edition n t x) run_not
      go true b c = refl
      go false true c = refl
      go false false true = refl
      go false false false = refl

  pub looks_used : (o p : List ℕ) → SameUse o p → desk_outcome o d x ≡ desk_outcome p d x
  unfolding desk_outcome says
  looks_used o p u =
      ap₂ (λ (m n : ℕ). says m n (wrong (count_on o)) (sheet_on o)) u.marks u.ns ∙ sheets
      ∙ ap (λ (k : ℕ). says (open_mark p) (inputs_on p) (wrong k) (take (record_size * k) p)) u.counts
    where
      sheets : says (open_mark p) (inputs_on p) (wrong (count_on o)) (take (record_size * count_on o) o)
          ≡ says (open_mark p) (inputs_on p) (wrong (count_on o)) (take (record_size * count_on o) p)
      sheets = elim (dec_lt most_records (count_on o)) [
        | yes h ↦ let w : wrong (count_on o) ≡ true = many (count_on o) h in
            ap (λ (t : Bool). says (open_mark p) (inputs_on p) t (take (record_size * count_on o) o)) w
            ∙ no_sheet (open_mark p) (inputs_on p) (take (record_size * count_on o) o) (take (record_size * count_on o) p)
            ∙ sym (ap (λ (t : Bool). says (open_mark p) (inputs_on p) t (take (record_size * count_on o) p)) w)
        | no h ↦ ap (says (open_mark p) (inputs_on p) (wrong (count_on o))) (alike (omega arith))
      ]
        where
          many : (i : ℕ) → most_records < i → wrong i ≡ true
          many i h = ap not (ap (λ (b : Bool). leb 1 i && b) (lt-leb i most_records h) ∙ and-false (leb 1 i))

          alike : count_on o ≤ most_records → take (record_size * count_on o) o ≡ take (record_size * count_on o) p
          alike h =
              let m = record_size * count_on o in
              ext_get_or 0 (take m o) (take m p) (length-take m o ∙ ap (min m) u.lengths ∙ sym (length-take m p))
              (λ j l. let i : j < m = short m o j l in get_or-take m o j 0 i ∙ u.used j i (omega arith)
              ∙ sym (get_or-take m p j 0 i))
            where
              short : (m : ℕ) (l : List ℕ) (j : ℕ) → j < length (take m l) → j < m
              short m l j h = omega (arith, h, length-take m l)
