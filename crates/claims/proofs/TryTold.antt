-- Try a named split in a told edition: what is claimed of it. Told an edition that there is, it is try in that edition:
-- every claim on try (TrySplit) holds of it, with either edition's K. Assumes nothing.
use mathlib.Core.Path.{◌≡◌, refl, sym, ap, ◌∙◌, subst}
use mathlib.Core.Logic.{◌↔◌}
use mathlib.Core.Bool.{false}
use mathlib.Core.List.{List}
use Prim.Native.Nat.{ℕ, ◌^◌, ◌<◌, ◌≤◌}
use native.Mathlib.Nat.{le_refl}
use lib.ListN.{get_or, drop}
use Rattle.bits.specs.Numbers.{bit, val}
use Rattle.bits.specs.Sets.{gather}
use Rattle.tables.specs.Table.{table_bit}
use Rattle.tables.specs.Cells.{cell_words, table_number}
use Rattle.splits.specs.Split.{Possible, reads_d, input_h}
use Rattle.splits.specs.Pair.{table_d}
use Rattle.charts.specs.Cells.{no_cells}
use Rattle.sheets.specs.declared.kinds.Edition.{Edition}
use Rattle.sheets.specs.Edition.{first_edition, edition_of}
use Rattle.sheets.proofs.Keeping.{is_edition, edition_one}
use Rattle.refusals.specs.Verdicts.{Refusal, Verdict, Fine, Refused}
use Rattle.refusals.specs.Lines.{InOrder, verdict, number_of, reply}
use Rattle.refusals.specs.Refusals.{bad_edition}
use Rattle.refusals.proofs.Lines.{in_order_lem}
use Rattle.refusals.proofs.Told.{told_known}
use Rattle.splitting.specs.TrySplit.{TryAnswer, TryOutcome, try_form, try_lines, try_done, try_not, try_outcome}
use Rattle.splitting.specs.TryTold.{try_told_lines, try_told}
use Rattle.claims.specs.Words.{ByLines}
use Rattle.claims.proofs.Verdicts.{says_verdict, is_refused_lem, by_lines}
use Rattle.claims.proofs.TrySplit.{refused_exactly, tried_one-table, tried_one-word, tried_one_works}

module _ (w n K A B : ℕ) (t room : List ℕ) where
  says : (try_told w n K A B t room).answer.verdict ≡ verdict (try_told_lines w n K A B t room)
  says = says_verdict (λ (o : TryOutcome). o.answer.verdict) (try_done n 1 A B t room) (try_not n A B t room) refl
      (λ u. refl) (verdict (try_told_lines w n K A B t room))

  -- the verdict is that of 1, of 2 for the edition, and of lines 1 to 6 and 8 in that edition
  pub try_told_lines_lem : ByLines (try_told w n K A B t room).answer.verdict (try_told_lines w n K A B t room)
  try_told_lines_lem = by_lines (try_told_lines w n K A B t room) refl (try_told w n K A B t room).answer.verdict says

  -- refused: all bytes of D are 0, and the room for H is as it was lent
  pub try_told_refused : (why : Refusal) → (try_told w n K A B t room).answer.verdict ≡ Refused why
      → ((try_told w n K A B t room).answer.d ≡ no_cells) × ((try_told w n K A B t room).room ≡ room)
  try_told_refused why h =
      let q = is_refused_lem (λ (o : TryOutcome). o.answer.verdict) (try_done n 1 A B t room) (try_not n A B t room) refl
      (λ u. refl) (verdict (try_told_lines w n K A B t room)) why h in
      (ap (λ o. o.answer.d) q, ap (λ o. o.room) q)

  -- two outcomes that keep the promise are equal: the answer, and the room for H afterwards
  pub try_told-once : (a a' : TryAnswer) (l l' : List ℕ) → record { answer = a; room = l } ≡ try_told w n K A B t room
      → record { answer = a'; room = l' } ≡ try_told w n K A B t room → (a ≡ a') × (l ≡ l')
  try_told-once a a' l l' p q = (ap (λ o. o.answer) (p ∙ sym q), ap (λ o. o.room) (p ∙ sym q))

  -- told an edition that there is, it is try in that edition
  pub try_told_is : (bad_edition w).holds ≡ false → try_told w n K A B t room ≡ try_outcome (edition_of w) n K 1 A B t room
  unfolding try_outcome
  try_told_is known = ap (λ (v : Verdict). reply v (try_done n 1 A B t room) (try_not n A B t room))
      (told_known w n (drop 1 (try_lines (edition_of w) n K 1 A B t room)) known)

  -- demand 3, where form and room are in order: refused as 8 exactly if no D and no H of any kind make the split work
  pub told_refused_exactly : (bad_edition w).holds ≡ false → InOrder (try_form (edition_of w) n K 1 A B t room)
      → (number_of (try_told w n K A B t room).answer.verdict ≡ 8) ↔ (Possible n (table_bit t) (bit A) (bit B) 1 → ⊥)
  told_refused_exactly known form =
      subst (λ (o : TryOutcome). (number_of o.answer.verdict ≡ 8) ↔ (Possible n (table_bit t) (bit A) (bit B) 1 → ⊥))
      (sym (try_told_is known))
      (refused_exactly (edition_of w) n K 1 A B t room form)

  module _ (done : (try_told w n K A B t room).answer.verdict ≡ Fine) where
    is : try_told w n K A B t room ≡ try_outcome (edition_of w) n K 1 A B t room
    is = try_told_is (in_order_lem (try_told_lines w n K A B t room) (sym says ∙ done)).1.0

    done_there : (try_outcome (edition_of w) n K 1 A B t room).answer.verdict ≡ Fine
    done_there = ap (λ (o : TryOutcome). o.answer.verdict) (sym is) ∙ done

    -- D's words make document 01's D as a number
    pub told-table : table_number (try_told w n K A B t room).answer.d.first ≡ table_d n (table_bit t) (bit A) (bit B) 0
    told-table = ap (λ (o : TryOutcome). table_number o.answer.d.first) is
        ∙ tried_one-table (edition_of w) n K A B t room done_there (is_edition w)

    -- demand 2: at every assignment the table's bit is H's bit at D's bit
    pub told_works : (x : ℕ) → x < 2 ^ n
        → table_bit t x
        ≡ table_bit (try_told w n K A B t room).room
        (input_h n (bit A) (bit B) x (val (bit (table_number (try_told w n K A B t room).answer.d.first)
        (gather n (reads_d (bit A) (bit B)) x))))
    told_works x l =
        tried_one_works (edition_of w) n K A B t room done_there (is_edition w) x l
        ∙ ap (λ (o : TryOutcome).
        table_bit o.room (input_h n (bit A) (bit B) x
        (val (bit (table_number o.answer.d.first) (gather n (reads_d (bit A) (bit B)) x))))) (sym is)

-- told 1 it is document 01's call
pub try_told-one : (n K A B : ℕ) (t room : List ℕ) → try_told 1 n K A B t room ≡ try_outcome first_edition n K 1 A B t room
try_told-one n K A B t room = try_told_is 1 n K A B t room refl
    ∙ ap (λ (e : Edition). try_outcome e n K 1 A B t room) edition_one

-- whose D is the first eight bytes, and the others are 0
pub told-one-word : (n K A B : ℕ) (t room : List ℕ) → (try_told 1 n K A B t room).answer.verdict ≡ Fine
    → (get_or (try_told 1 n K A B t room).answer.d.first.words 0 0 ≡ table_d n (table_bit t) (bit A) (bit B) 0)
    × ((j : ℕ) → 1 ≤ j → j < cell_words → get_or (try_told 1 n K A B t room).answer.d.first.words j 0 ≡ 0)
told-one-word n K A B t room done =
    let is = try_told-one n K A B t room in
    let w = tried_one-word first_edition n K A B t room (ap (λ (o : TryOutcome). o.answer.verdict) (sym is) ∙ done)
    (le_refl 6) in (
      ap (λ (o : TryOutcome). get_or o.answer.d.first.words 0 0) is
          ∙ w.0,
      λ j p l. ap (λ (o : TryOutcome). get_or o.answer.d.first.words j 0) is ∙ w.1 j p l,
    )
