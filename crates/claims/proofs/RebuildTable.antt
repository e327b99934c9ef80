-- Rebuild a table from a sheet: what is claimed of it, over any edition and desk. Assumes nothing.
use mathlib.Core.Path.{◌≡◌, refl, sym, ap, ◌∙◌}
use mathlib.Core.Logic.{◌↔◌}
use mathlib.Core.Bool.{Bool, false, ◌||◌}
use mathlib.Core.List.{List, [], ◌∷◌}
use Prim.Native.Nat.{ℕ, ◌*◌, ◌^◌, ◌<◌, ◌≤◌}
use lib.Dec.{eqb}
use lib.ListN.{length}
use Rattle.tables.specs.Table.{most_inputs, table_length, table_bit}
use Rattle.tables.proofs.Bytes.{length-table}
use Rattle.sheets.specs.declared.kinds.Edition.{Edition}
use Rattle.sheets.specs.Edition.{IsEdition}
use Rattle.sheets.specs.Sheet.{records, sheet_bit, rebuilt, Good}
use Rattle.sheets.specs.Reading.{EachRead, IsFirstUnread}
use Rattle.sheets.proofs.Wholes.{rebuilt-bit}
use Rattle.refusals.specs.Verdicts.{Refusal, Verdict, Fine, Refused}
use Rattle.refusals.specs.Lines.{refusal, InOrder, verdict, number_of, place_of, reply}
use Rattle.refusals.specs.Refusals.{bad_inputs, bad_table, bad_sheet, unread_record}
use Rattle.refusals.proofs.Lines.{lapses, in_order_lem}
use Rattle.refusals.proofs.Tests.{inside, right_table}
use Rattle.refusals.proofs.Sheets.{good_sheet, all_read, read_fine}
use Rattle.running.specs.RunSheet.{run_outcome}
use Rattle.rebuilding.specs.RebuildTable.{RebuildOutcome, rebuild_form, rebuild_lines, rebuild_done, rebuild_not}
use Rattle.rebuilding.specs.RebuildTable.{rebuild_outcome}
use Rattle.claims.specs.Words.{ByLines, FirstBad}
use Rattle.claims.specs.Before.{rebuild_before}
use Rattle.claims.proofs.Verdicts.{says_verdict, is_done, is_refused_lem, by_lines, no_place}
use Rattle.claims.proofs.Tables.{spare_zero}
use Rattle.claims.proofs.Sheets.{index-first, good_run, unread_exactly}

module _ (e : Edition) (d n : ℕ) (s table : List ℕ) where
  pub rebuild_says : (rebuild_outcome e d n s table).verdict ≡ verdict (rebuild_lines e d n s table)
  unfolding rebuild_outcome
  rebuild_says = says_verdict (λ (o : RebuildOutcome). o.verdict) (rebuild_done e n s) (rebuild_not table) refl
      (λ r. refl) (verdict (rebuild_lines e d n s table))

  -- the verdict is that of lines 1, 3, 9, 10 and 15
  pub rebuild_lines_lem : ByLines (rebuild_outcome e d n s table).verdict (rebuild_lines e d n s table)
  rebuild_lines_lem = by_lines (rebuild_lines e d n s table) refl (rebuild_outcome e d n s table).verdict rebuild_says

  -- refused: the table is as it was lent
  pub rebuild_refused : (r : Refusal) → (rebuild_outcome e d n s table).verdict ≡ Refused r
      → (rebuild_outcome e d n s table).table ≡ table
  unfolding rebuild_outcome
  rebuild_refused r h =
      ap (λ o. o.table) (is_refused_lem (λ (o : RebuildOutcome). o.verdict) (rebuild_done e n s) (rebuild_not table) refl
      (λ q. refl) (verdict (rebuild_lines e d n s table)) r h)

  -- nothing is named but for numbers 10 and 15
  pub rebuild_no_index : (eqb (number_of (rebuild_outcome e d n s table).verdict) 10
      || eqb (number_of (rebuild_outcome e d n s table).verdict) 15) ≡ false
      → place_of (rebuild_outcome e d n s table).verdict ≡ 0
  rebuild_no_index = no_place (λ k. eqb k 10 || eqb k 15) (rebuild_lines e d n s table) refl rebuild_says

  -- 10 names the first bad record
  pub rebuild-index : IsEdition e → number_of (rebuild_outcome e d n s table).verdict ≡ 10
      → FirstBad e d n s (place_of (rebuild_outcome e d n s table).verdict)
  rebuild-index ok h = index-first e ok d n s (bad_inputs n ∷ bad_table n table ∷ bad_sheet e s ∷ [])
      (unread_record e n s ∷ []) refl refl (rebuild_outcome e d n s table).verdict rebuild_says h

  -- 15 is given exactly where the other lines are in order and some record but the last isn't read, and names the first
  -- such
  pub rebuild-unread : (i : ℕ) → ((rebuild_outcome e d n s table).verdict ≡ Refused (refusal 15 i))
      ↔ (InOrder (rebuild_form e d n s table) × IsFirstUnread e n s (records e s) i)
  rebuild-unread = unread_exactly e n s (rebuild_form e d n s table) refl (rebuild_outcome e d n s table).verdict
      rebuild_says

  -- where each record but the last is read, every answer is as before
  pub rebuild_as_before : EachRead e n s (records e s) → rebuild_outcome e d n s table ≡ rebuild_before e d n s table
  unfolding rebuild_outcome
  rebuild_as_before r =
      ap (λ (v : Verdict). reply v (rebuild_done e n s) (rebuild_not table))
      (lapses (rebuild_form e d n s table) (unread_record e n s ∷ []) (read_fine e n s r, tt))

  -- two outcomes that keep the promise are equal: the verdict, and the table afterwards
  pub rebuild-once : (v v' : Verdict) (l l' : List ℕ) → record { verdict = v; table = l } ≡ rebuild_outcome e d n s table
      → record { verdict = v'; table = l' } ≡ rebuild_outcome e d n s table
      → (v ≡ v') × (l ≡ l')
  rebuild-once v v' l l' p q = (ap (λ o. o.verdict) (p ∙ sym q), ap (λ o. o.table) (p ∙ sym q))

  -- ---- done

  module _ (ok : IsEdition e) (done : (rebuild_outcome e d n s table).verdict ≡ Fine) where
    whole : (rebuild_outcome e d n s table).table ≡ rebuilt e n s (records e s)
    unfolding rebuild_outcome
    whole = ap (λ o. o.table) (is_done (λ (o : RebuildOutcome). o.verdict) (rebuild_done e n s) (rebuild_not table) refl
        (λ q. refl) (verdict (rebuild_lines e d n s table)) done)

    -- the sheet is good, and each record but the last is read
    pub rebuilt_good : (1 ≤ n) × (n ≤ most_inputs) × (length table ≡ table_length n) × Good e d n s (records e s)
        × EachRead e n s (records e s)
    rebuilt_good =
        let w = in_order_lem (rebuild_lines e d n s table) (sym rebuild_says ∙ done) in
        let p = inside 1 n most_inputs w.0 in (
          p.0,
          p.1,
          right_table n table w.1.0,
          good_sheet e d n s ok (w.1.1.0, (w.1.1.1.0, tt)),
          all_read e
              n s w.1.1.1.1.0,
        )

    -- demand 2: running it is done at every assignment, and bit for bit the table is what running rebuild-says
    -- (`rebuilt-bit`, sheets)
    pub rebuilt_runs : (x : ℕ) → x < 2 ^ n → run_outcome e d n s x
        ≡ record { verdict = Fine; bit = table_bit (rebuild_outcome e d n s table).table x }
    rebuilt_runs x h =
        let w = rebuilt_good in
        let m = records e s in
        good_run e ok d n s m w.0 w.1 w.3 w.4 x h
        ∙ ap (λ (b : Bool). record { verdict = Fine; bit = b })
        (sym (ap (λ (l : List ℕ). table_bit l x) whole ∙ rebuilt-bit e n s m x h))

    -- the table is written whole
    pub rebuilt-length : length (rebuild_outcome e d n s table).table ≡ table_length n
    unfolding rebuilt
    rebuilt-length = ap length whole ∙ length-table n (sheet_bit e n s (records e s))

    -- its spare bits are zero
    pub rebuilt_spare : (x : ℕ) → 2 ^ n ≤ x → x < 8 * table_length n → table_bit (rebuild_outcome e d n s table).table x
        ≡ false
    unfolding rebuilt
    rebuilt_spare x h l = ap (λ (r : List ℕ). table_bit r x) whole ∙ spare_zero n (sheet_bit e n s (records e s)) x h l
