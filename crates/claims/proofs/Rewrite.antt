-- Write a first-edition sheet in the second edition: what is claimed of it, over any two editions of which the second
-- has cells as large or larger. Assumes nothing.
use mathlib.Core.Path.{◌≡◌, refl, sym, ap, ap₂, ◌∙◌, subst}
use mathlib.Core.Logic.{◌↔◌}
use mathlib.Core.Bool.{false, cond, ◌||◌}
use mathlib.Core.List.{List, [], ◌∷◌}
use Prim.Native.Nat.{ℕ, ◌*◌, ◌≤◌}
use native.Mathlib.Omega.{arith}
use lib.Dec.{eqb}
use lib.ListN.{length, drop}
use lib.Seq.{take_at, drop_at}
use Rattle.sheets.specs.declared.kinds.Edition.{Edition}
use Rattle.sheets.specs.Edition.{IsEdition, first_edition, second_edition}
use Rattle.sheets.specs.Desk.{desk_of}
use Rattle.sheets.specs.Sheet.{sheet_cells, records, rebuilt, Good}
use Rattle.sheets.specs.Reading.{EachRead, IsFirstUnread}
use Rattle.sheets.proofs.Keeping.{first_edition_lem, second_edition_lem, edition_two}
use Rattle.sheets.proofs.Wiring.{cells_length}
use Rattle.sheets.proofs.Wholes.{length-sheet}
use Rattle.refusals.specs.Verdicts.{Refusal, Verdict, Fine, Refused}
use Rattle.refusals.specs.Lines.{refusal, InOrder, verdict, number_of, place_of, reply}
use Rattle.refusals.specs.Refusals.{bad_inputs, bad_table, bad_sheet, short_records, unread_record, read_sheet_lines}
use Rattle.refusals.proofs.Lines.{passes, lapses, in_order_lem}
use Rattle.refusals.proofs.Sheets.{good_sheet, sheet_fine, counted, all_read, read_fine}
use Rattle.rebuilding.specs.RebuildTable.{rebuild_done, rebuild_not, rebuild_outcome, rebuild_own}
use Rattle.rebuilding.specs.RebuildTold.{rebuild_told}
use Rattle.rewriting.specs.Rewrite.{RewriteAnswer, SaysTheSame, RewriteOutcome, new_records, rewritten, rewrite_form, rewrite_lines}
use Rattle.rewriting.specs.Rewrite.{rewrite_done, rewrite_not, rewrite_outcome, rewrite_own}
use Rattle.rewriting.proofs.Widened.{widened}
use Rattle.claims.specs.Words.{ByLines, FirstBad}
use Rattle.claims.proofs.Verdicts.{says_verdict, is_done, is_refused_lem, by_lines, no_place}
use Rattle.claims.proofs.Sheets.{index-first, unread_exactly}
use Rattle.claims.proofs.RebuildTable.{rebuild_says}
use Rattle.claims.proofs.RebuildTold.{rebuild-told_is, rebuild-told-one}

module _ (e f : Edition) (d n : ℕ) (s room : List ℕ) where
  pub rewrite_says : (rewrite_outcome e f d n s room).answer.verdict ≡ verdict (rewrite_lines e f d n s room)
  unfolding rewrite_outcome
  rewrite_says =
      says_verdict (λ (o : RewriteOutcome). o.answer.verdict) (rewrite_done e f d s room) (rewrite_not room) refl
      (λ r. refl) (verdict (rewrite_lines e f d n s room))

  -- the verdict is that of lines 1, 6, 9, 10 and 15
  pub rewrite_lines_lem : ByLines (rewrite_outcome e f d n s room).answer.verdict (rewrite_lines e f d n s room)
  rewrite_lines_lem = by_lines (rewrite_lines e f d n s room) refl (rewrite_outcome e f d n s room).answer.verdict
      rewrite_says

  -- where the room is long enough it is what rebuild says, into any table of the right length
  pub rewrite_as_rebuild : (table : List ℕ) → (short_records f room).holds ≡ false → (bad_table n table).holds ≡ false
      → (rewrite_outcome e f d n s room).answer.verdict ≡ (rebuild_outcome e d n s table).verdict
  rewrite_as_rebuild table h g =
      let after : Verdict → Verdict = λ v. cond (bad_inputs n).holds (Refused (bad_inputs n).gives) v in
      rewrite_says ∙ ap after (passes (short_records f room ∷ []) (read_sheet_lines e d n s) (h, tt)
      ∙ sym (passes (bad_table n table ∷ []) (read_sheet_lines e d n s) (g, tt)))
      ∙ sym (rebuild_says e d n s table)

  -- refused: the count is 0, and the room is as it was lent
  pub rewrite_refused : (r : Refusal) → (rewrite_outcome e f d n s room).answer.verdict ≡ Refused r
      → ((rewrite_outcome e f d n s room).answer.count ≡ 0) × ((rewrite_outcome e f d n s room).room ≡ room)
  unfolding rewrite_outcome
  rewrite_refused r h =
      let q = is_refused_lem (λ (o : RewriteOutcome). o.answer.verdict) (rewrite_done e f d s room) (rewrite_not room) refl
      (λ u. refl) (verdict (rewrite_lines e f d n s room)) r h in
      (ap (λ o. o.answer.count) q, ap (λ o. o.room) q)

  -- nothing is named but for numbers 10 and 15
  pub rewrite_no_index : (eqb (number_of (rewrite_outcome e f d n s room).answer.verdict) 10
      || eqb (number_of (rewrite_outcome e f d n s room).answer.verdict) 15) ≡ false
      → place_of (rewrite_outcome e f d n s room).answer.verdict ≡ 0
  rewrite_no_index = no_place (λ k. eqb k 10 || eqb k 15) (rewrite_lines e f d n s room) refl rewrite_says

  -- 10 names the first bad record
  pub rewrite-index : IsEdition e → number_of (rewrite_outcome e f d n s room).answer.verdict ≡ 10
      → FirstBad e d n s (place_of (rewrite_outcome e f d n s room).answer.verdict)
  rewrite-index ok h =
      index-first e ok d n s (bad_inputs n ∷ short_records f room ∷ bad_sheet e s ∷ []) (unread_record e n s ∷ []) refl refl
      (rewrite_outcome e f d n s room).answer.verdict rewrite_says h

  -- 15 is given exactly where the other lines are in order and some record but the last isn't read, and names the first
  -- such
  pub rewrite-unread : (i : ℕ) → ((rewrite_outcome e f d n s room).answer.verdict ≡ Refused (refusal 15 i))
      ↔ (InOrder (rewrite_form e f d n s room) × IsFirstUnread e n s (records e s) i)
  rewrite-unread = unread_exactly e n s (rewrite_form e f d n s room) refl
      (rewrite_outcome e f d n s room).answer.verdict rewrite_says

  -- two outcomes that keep the promise are equal: the answer, and the room afterwards
  pub rewrite-once : (a a' : RewriteAnswer) (l l' : List ℕ) → record { answer = a; room = l }
      ≡ rewrite_outcome e f d n s room
      → record { answer = a'; room = l' } ≡ rewrite_outcome e f d n s room → (a ≡ a') × (l ≡ l')
  rewrite-once a a' l l' p q = (ap (λ o. o.answer) (p ∙ sym q), ap (λ o. o.room) (p ∙ sym q))

  -- done: as many records as the sheet has; the bytes after them stay
  module _ (done : (rewrite_outcome e f d n s room).answer.verdict ≡ Fine) where
    whole : rewrite_outcome e f d n s room ≡ rewrite_done e f d s room
    unfolding rewrite_outcome
    whole = is_done (λ (o : RewriteOutcome). o.answer.verdict) (rewrite_done e f d s room) (rewrite_not room) refl
        (λ u. refl) (verdict (rewrite_lines e f d n s room)) done

    long : length (rewritten e f d s (records e s)) ≡ f.size * records e s
    long = length-sheet f d (sheet_cells e s (records e s))
        ∙ ap (λ (k : ℕ). f.size * k) (cells_length e s 0 (records e s))

    pub rewrite-count : (rewrite_outcome e f d n s room).answer.count ≡ records e s
    rewrite-count = ap (λ o. o.answer.count) whole

    pub rewrite-records : new_records f (rewrite_outcome e f d n s room) ≡ rewritten e f d s (records e s)
    rewrite-records =
        let b = rewritten e f d s (records e s) in
        ap (new_records f) whole ∙ take_at b (drop (length b) room) (f.size * records e s) long

    pub rewrite-rest : drop (f.size * (rewrite_outcome e f d n s room).answer.count)
        (rewrite_outcome e f d n s room).room
        ≡ drop (f.size * (rewrite_outcome e f d n s room).answer.count) room
    rewrite-rest =
        let b = rewritten e f d s (records e s) in
        ap₂ (λ (k : ℕ) (l : List ℕ). drop (f.size * k) l) rewrite-count (ap (λ o. o.room) whole)
        ∙ drop_at b (drop (length b) room) (f.size * records e s) long
        ∙ ap (λ (k : ℕ). drop k room) (long ∙ ap (λ (k : ℕ). f.size * k) (sym rewrite-count))

-- a good sheet whose records are read is refused by rebuild for the table's length alone
good_rebuilt : (e : Edition) → IsEdition e → (d n : ℕ) (s : List ℕ) (m : ℕ) → (bad_inputs n).holds ≡ false
    → Good e d n s m → EachRead e n s m → (table : List ℕ)
    → rebuild_outcome e d n s table ≡ reply (verdict (bad_table n table ∷ []))
    (record { verdict = Fine; table = rebuilt e n s m }) (rebuild_not table)
unfolding rebuild_outcome
good_rebuilt e ok d n s m inputs g r table =
    let q = counted e d n s ok m g in
    let w = sheet_fine e d n s ok m g in
    let u = read_fine e n s (subst (EachRead e n s) (sym q) r) in
    ap (λ (v : Verdict). reply v (rebuild_done e n s) (rebuild_not table))
    (passes (bad_inputs n ∷ []) (bad_table n table ∷ read_sheet_lines e d n s) (inputs, tt)
    ∙ lapses (bad_table n table ∷ []) (read_sheet_lines e d n s) (w.0, (w.1.0, (u, tt))))
    ∙ ap (λ (k : ℕ). reply (verdict (bad_table n table ∷ [])) (record { verdict = Fine; table = rebuilt e n s k })
    (rebuild_not table)) q

-- ---- a sheet for its own desk, rewritten

module _ (e f : Edition) (o : IsEdition e) (p : IsEdition f) (larger : e.most ≤ f.most) (n : ℕ) (s room : List ℕ)
    (done : (rewrite_own e f n s room).answer.verdict ≡ Fine) where
  lines : InOrder (rewrite_lines e f (desk_of e s) n s room)
  lines = in_order_lem (rewrite_lines e f (desk_of e s) n s room) (sym (rewrite_says e f (desk_of e s) n s room) ∙ done)

  good : Good e (desk_of e s) n s (records e s)
  good = good_sheet e (desk_of e s) n s o (lines.1.1.0, (lines.1.1.1.0, tt))

  read : EachRead e n s (records e s)
  read = all_read e n s lines.1.1.1.1.0

  -- the records that were written say the same: good in their edition, each but the last read, for the same desk, and
  -- the same table rebuilt
  pub rewrite_says_the_same : SaysTheSame e f n s (new_records f (rewrite_own e f n s room)) (records e s)
  rewrite_says_the_same =
      subst (λ (r : List ℕ). SaysTheSame e f n s r (records e s)) (sym (rewrite-records e f (desk_of e s) n s room done))
      (widened e f o p larger n s (records e s) good)

  -- so rebuilding them is rebuilding the sheet, whatever table is lent
  pub rewrite_rebuilds : (table : List ℕ) → rebuild_own f n (new_records f (rewrite_own e f n s room)) table
      ≡ rebuild_own e n s table
  rewrite_rebuilds table =
      let r = new_records f (rewrite_own e f n s room) in
      let m = records e s in
      let w = rewrite_says_the_same in
      ap (λ (d : ℕ). rebuild_outcome f d n r table) w.desk
      ∙ good_rebuilt f p (desk_of e s) n r m lines.0 w.rules (w.read read) table
      ∙ ap (λ (t : List ℕ). reply (verdict (bad_table n table ∷ [])) (record { verdict = Fine; table = t })
      (rebuild_not table)) w.table
      ∙ sym (good_rebuilt e o (desk_of e s) n s m lines.0 good read table)

-- the call: a first-edition sheet, rewritten in the second and rebuilt there, gives the table that it gives in the
-- first
pub rewritten_rebuilds : (n : ℕ) (s room : List ℕ) → (rewrite_own first_edition second_edition n s room).answer.verdict
    ≡ Fine → (table : List ℕ)
    → rebuild_told 2 n (new_records second_edition (rewrite_own first_edition second_edition n s room)) table
    ≡ rebuild_told 1 n s table
rewritten_rebuilds n s room done table =
    let r = new_records second_edition (rewrite_own first_edition second_edition n s room) in
    rebuild-told_is 2 n r table refl ∙ ap (λ (e : Edition). rebuild_own e n r table) edition_two
    ∙ rewrite_rebuilds first_edition second_edition first_edition_lem second_edition_lem (omega arith) n s room done table
    ∙ sym (rebuild-told-one n s table)
