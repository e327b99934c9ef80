-- Check a sheet against a table: what is claimed of it, over any edition and desk. Assumes nothing.
use mathlib.Core.Path.{◌≡◌, refl, sym, ap, ◌∙◌, subst}
use mathlib.Core.Logic.{◌↔◌}
use mathlib.Core.Bool.{true, false, not, ◌||◌, beq}
use mathlib.Core.List.{List, [], ◌∷◌, ◌++◌}
use Prim.Native.Nat.{ℕ, ◌^◌, ◌≤◌, ◌<◌}
use native.Mathlib.Omega.{arith}
use lib.Dec.{eqb}
use lib.ListN.{length}
use borrow.Author.Tests.{ltb-true, ltb-false, lt-ltb, le-ltb, le-leb, eq-eqb, not-false}
use Rattle.bits.specs.Numbers.{bit}
use Rattle.bits.proofs.Bools.{clash, false_of, beq_same, same-beq}
use Rattle.bits.proofs.Least.{is_least, least-of}
use Rattle.tables.specs.Table.{most_inputs, table_length, table_bit, spare_clear}
use Rattle.sheets.specs.declared.kinds.Edition.{Edition}
use Rattle.sheets.specs.Edition.{IsEdition}
use Rattle.sheets.specs.Network.{Gives, Carries}
use Rattle.sheets.specs.Sheet.{records, sheet_bit, sheet_cells, rebuilt, Good}
use Rattle.sheets.specs.Reading.{EachRead, IsFirstUnread, without}
use Rattle.sheets.proofs.Wholes.{rebuilt-bit}
use Rattle.sheets.proofs.Unread.{not_read}
use Rattle.sheets.proofs.Without.{sheet-without}
use Rattle.sheets.proofs.Wiring.{cells_length, good_wired}
use Rattle.runs.specs.Checking.{differs, first_difference}
use Rattle.refusals.specs.Verdicts.{Verdict, Fine, Refused}
use Rattle.refusals.specs.Lines.{refusal, InOrder, verdict, number_of, place_of}
use Rattle.refusals.specs.Refusals.{bad_sheet, sheet_lines, table_differs, unread_record}
use Rattle.refusals.proofs.Lines.{lapses, in_order_lem, passes, held, names_nothing}
use Rattle.refusals.proofs.Tests.{Sound, inside, right_table, spare_line}
use Rattle.refusals.proofs.Sheets.{good_sheet, sheet_fine, counted, all_read, read_fine}
use Rattle.running.specs.RunSheet.{RunAnswer}
use Rattle.rebuilding.specs.RebuildTable.{RebuildOutcome, rebuild_outcome}
use Rattle.bench.specs.MakeSheet.{MakeOutcome, make_outcome}
use Rattle.inspection.specs.CheckSheet.{table_lines, against_lines, check_lines, check_outcome, Accepted, FirstDifferent}
use Rattle.claims.specs.Words.{ByLines, AllBytes, FirstBad, records_of}
use Rattle.claims.specs.Before.{check_before}
use Rattle.claims.proofs.Verdicts.{by_lines}
use Rattle.claims.proofs.Tables.{table_back}
use Rattle.claims.proofs.Sheets.{index-first, good_run, good_rebuild, unread_exactly, read_never}
use Rattle.claims.proofs.RebuildTable.{rebuilt_good}
use Rattle.claims.proofs.Written.{IsWritten, outcome_records, outcome_good, outcome_each_read, outcome_runs}
use Rattle.claims.proofs.Made.{is_made, made_written}

-- a gate that is sound has its table in order
table_fine : (e : Edition) (n K : ℕ) (t : List ℕ) → Sound e n K t → InOrder (table_lines n t)
table_fine e n K t g = (
  rw (le-leb 1 n g.some, le-leb n most_inputs g.most),
  (ap not (eq-eqb (length t) (table_length n) g.long), (spare_line n t ∙ ap not g.spare, tt)),
)

module _ (e : Edition) (d n : ℕ) (t s : List ℕ) where
  pub check_says : check_outcome e d n t s ≡ verdict (check_lines e d n t s)
  unfolding check_outcome
  check_says = refl

  -- the verdict is that of lines 1, 3, 4, 9, 10, 12 and 15
  pub check_lines_lem : ByLines (check_outcome e d n t s) (check_lines e d n t s)
  check_lines_lem = by_lines (check_lines e d n t s) refl (check_outcome e d n t s) check_says

  -- nothing is named but for 10, 12 and 15
  pub check_no_place : (eqb (number_of (check_outcome e d n t s)) 10
      || (eqb (number_of (check_outcome e d n t s)) 12 || eqb (number_of (check_outcome e d n t s)) 15)) ≡ false
      → place_of (check_outcome e d n t s) ≡ 0
  unfolding check_outcome
  check_no_place h = names_nothing (λ k. eqb k 10 || (eqb k 12 || eqb k 15)) (check_lines e d n t s) refl h

  -- 10 names the first bad record
  pub check_index : IsEdition e → number_of (check_outcome e d n t s) ≡ 10
      → FirstBad e d n s (place_of (check_outcome e d n t s))
  check_index ok h = index-first e ok d n s (table_lines n t ++ (bad_sheet e s ∷ []))
      (table_differs e n t s ∷ unread_record e n s ∷ []) refl refl (check_outcome e d n t s) check_says h

  -- 15 is given exactly where the other lines are in order and some record but the last isn't read, and names the first
  -- such
  pub check_unread : (i : ℕ) → (check_outcome e d n t s ≡ Refused (refusal 15 i))
      ↔ (InOrder (table_lines n t ++ against_lines e d n t s) × IsFirstUnread e n s (records e s) i)
  check_unread = unread_exactly e n s (table_lines n t ++ against_lines e d n t s) refl (check_outcome e d n t s)
      check_says

  -- where each record but the last is read, every answer is as before
  pub check_as_before : EachRead e n s (records e s) → check_outcome e d n t s ≡ check_before e d n t s
  unfolding check_outcome
  check_as_before r = lapses (table_lines n t ++ against_lines e d n t s) (unread_record e n s ∷ [])
      (read_fine e n s r, tt)

  -- two answers that keep the promise are equal
  pub check_once : (v v' : Verdict) → v ≡ check_outcome e d n t s → v' ≡ check_outcome e d n t s → v ≡ v'
  check_once v v' p q = p ∙ sym q

  -- ---- 12 at x exactly when x differs and no smaller assignment does

  not-differs : (x : ℕ) → differs e n s (records e s) t x ≡ false → sheet_bit e n s (records e s) x ≡ table_bit t x
  not-differs x h = beq_same (sheet_bit e n s (records e s) x) (table_bit t x)
      (not-false (beq (sheet_bit e n s (records e s) x) (table_bit t x)) h)

  no_differ : (x : ℕ) → sheet_bit e n s (records e s) x ≡ table_bit t x → differs e n s (records e s) t x ≡ false
  no_differ x h = ap not (same-beq (sheet_bit e n s (records e s) x) (table_bit t x) h)

  pub check_least : number_of (check_outcome e d n t s) ≡ 12 → FirstDifferent e n t s (place_of (check_outcome e d n t s))
  unfolding check_outcome
  check_least h =
      let w = held (table_lines n t ++ sheet_lines e d n s) (table_differs e n t s) (unread_record e n s ∷ []) 12 refl refl
      (λ z. omega arith) h in
      let x = first_difference e n s (records e s) t in
      let i = is_least (2 ^ n) (differs e n s (records e s) t) in
      let l = ltb-true x (2 ^ n) w.0 in
      subst (FirstDifferent e n t s) (sym (ap place_of w.1))
      (record {
        within = l;
        differ = λ q. clash (i.here l) (no_differ x q);
        before = λ y g. not-differs y (i.before y g);
      })

  module _ (form : InOrder (table_lines n t ++ sheet_lines e d n s)) where
    by_bits : check_outcome e d n t s ≡ verdict (table_differs e n t s ∷ unread_record e n s ∷ [])
    unfolding check_outcome
    by_bits = passes (table_lines n t ++ sheet_lines e d n s) (table_differs e n t s ∷ unread_record e n s ∷ []) form

    pub least_check : (x : ℕ) → FirstDifferent e n t s x → check_outcome e d n t s ≡ Refused (refusal 12 x)
    least_check x f =
        let is = least-of (2 ^ n) (differs e n s (records e s) t) x (record {
          within = omega (arith, f.within);
          before = λ y g. no_differ y (f.before y g);
          here = λ g. not_same f.differ;
        }) in
        by_bits ∙ rw (is, lt-ltb x (2 ^ n) f.within) refl
      where
        not_same : (sheet_bit e n s (records e s) x ≡ table_bit t x → ⊥) → differs e n s (records e s) t x ≡ true
        not_same h = ap not (false_of (beq (sheet_bit e n s (records e s) x) (table_bit t x))
            (λ q. h (beq_same (sheet_bit e n s (records e s) x) (table_bit t x) q)))

    same-accepted : ((x : ℕ) → x < 2 ^ n → sheet_bit e n s (records e s) x ≡ table_bit t x) → EachRead e n s (records e s)
        → check_outcome e d n t s ≡ Fine
    same-accepted h r =
        let is = least-of (2 ^ n) (differs e n s (records e s) t) (2 ^ n) (record {
          within = omega arith;
          before = λ y g. no_differ y (h y g);
          here = λ g. absurd (omega arith);
        }) in
        by_bits ∙ rw (is, le-ltb (2 ^ n) (2 ^ n) (omega arith), read_fine e n s r) refl

  module _ (ok : IsEdition e) where
    -- an accepted sheet keeps the record rules and gives the table's bit at every assignment, and each record but the
    -- last is read
    pub check_accepted : check_outcome e d n t s ≡ Fine → Accepted e d n t s
    unfolding check_outcome
    check_accepted h =
        let w = (in_order_lem (check_lines e d n t s) h).1.1.1 in
        let i = is_least (2 ^ n) (differs e n s (records e s) t) in record {
          rules = good_sheet e d n s ok (w.0, (w.1.0, tt));
          gives = λ x l. not-differs x (i.before x (all x l w.1.1.0));
          read = all_read e n s w.1.1.1.0;
        }
      where
        all : (x : ℕ) → x < 2 ^ n → (table_differs e n t s).holds ≡ false → x < first_difference e n s (records e s) t
        all x l q = omega (arith, ltb-false (first_difference e n s (records e s) t) (2 ^ n) q)

    module _ (table : InOrder (table_lines n t)) where
      -- where the gate's table is in order, exactly such a sheet is accepted
      pub accepted_exactly : (check_outcome e d n t s ≡ Fine) ↔ Accepted e d n t s
      accepted_exactly = (
        check_accepted,
        λ a.
            let f = sheet_fine e d n s ok (records e s) a.rules in
            same-accepted (table.0, (table.1.0, (table.1.1.0, f))) a.gives a.read,
      )

      -- and exactly when rebuilding it, into any lent table of the right length, gives the table back
      pub accepted_rebuilds : AllBytes t → (room : List ℕ) → length room ≡ table_length n
          → (check_outcome e d n t s ≡ Fine) ↔ (rebuild_outcome e d n s room ≡ record { verdict = Fine; table = t })
      unfolding rebuilt
      accepted_rebuilds bytes room h = (
        λ q.
            let a = check_accepted q in
            good_rebuild e ok d n s (records e s) r.0 r.1 a.rules a.read room h
            ∙ ap (λ (l : List ℕ). record { verdict = Fine; table = l }) (back a),
        λ q.
            let g = rebuilt_good e d n s room ok (ap (λ o. o.verdict) q) in
            accepted_exactly.1 (record { rules = g.3; gives = λ x l. same q g.3 g.4 x l; read = g.4 }),
      )
        where
          r : (1 ≤ n) × (n ≤ most_inputs)
          r = inside 1 n most_inputs table.0

          back : Accepted e d n t s → rebuilt e n s (records e s) ≡ t
          back a =
              table_back n (sheet_bit e n s (records e s)) t bytes (right_table n t table.1.0)
              (not-false (spare_clear n t) (sym (spare_line n t) ∙ table.1.1.0)) a.gives

          same : rebuild_outcome e d n s room ≡ record { verdict = Fine; table = t } → Good e d n s (records e s)
              → EachRead e n s (records e s) → (x : ℕ) → x < 2 ^ n
              → sheet_bit e n s (records e s) x ≡ table_bit t x
          same q g u x l =
              sym (rebuilt-bit e n s (records e s) x l)
              ∙ ap (λ (o : RebuildOutcome). table_bit o.table x)
              (sym (good_rebuild e ok d n s (records e s) r.0 r.1 g u room h) ∙ q)

    -- 15 never hides another gate: without that record the others, renumbered, give the table (`sheet-without`, sheets)
    pub check_without : (i : ℕ) → check_outcome e d n t s ≡ Refused (refusal 15 i)
        → Gives n e.most (table_bit t) (without n i (sheet_cells e s (records e s)))
    check_without i h =
        let w = (check_unread i).0 h in
        let f = w.0.1.1.1 in
        let u = w.1 in
        let least = is_least (2 ^ n) (differs e n s (records e s) t) in
        let g = good_sheet e d n s ok (f.0, (f.1.0, tt)) in
        let N = sheet-without e ok d n s (records e s) i g.rules u.within
        (not_read e s n (records e s) i (omega (arith, u.within)) u.alone) in
        record {
          some = N.some;
          wired = N.wired;
          gives = λ x l. N.gives x l ∙ not-differs x (least.before x
              (omega (arith, ltb-false (first_difference e n s (records e s) t) (2 ^ n) f.1.1.0)));
        }

    -- an accepted sheet is a network that carries the table
    pub accepted_carries : check_outcome e d n t s ≡ Fine → Carries n e.most (records e s) (table_bit t)
    unfolding sheet_bit
    accepted_carries q = let a = check_accepted q in record {
      cells = sheet_cells e s (records e s);
      count = cells_length e s 0 (records e s);
      network = record {
        some = subst (λ (k : ℕ). 1 ≤ k) (sym (cells_length e s 0 (records e s))) a.rules.some;
        wired = good_wired e d n s ok (records e s) a.rules.rules;
        gives = a.gives;
      };
    }

-- every sheet that is written of cells that fit, are read and give the table is accepted
module _ (e : Edition) (ok : IsEdition e) (d n K : ℕ) (t sheet work : List ℕ) (o : MakeOutcome)
    (w : IsWritten e d n K t sheet work o) where
  abbrev s : List ℕ
  s = records_of e o

  -- its records are good, as many as there are
  pub outcome_rules : Good e d n (records_of e o) (records e (records_of e o))
  outcome_rules =
      let good = subst (λ (l : List ℕ). Good e d n l (length w.cells))
      (sym (outcome_records e d n K t sheet work o w)) (outcome_good e d n K t sheet work o w ok) in
      subst (Good e d n s) (sym (counted e d n s ok (length w.cells) good)) good

  pub outcome_accepted : check_outcome e d n t (records_of e o) ≡ Fine
  outcome_accepted =
      let read = outcome_each_read e d n K t sheet work o w ok in
      let run : (x : ℕ) → x < 2 ^ n → ◌≡◌ {A = RunAnswer}
      (record { verdict = Fine; bit = sheet_bit e n s (records e s) x })
      (record { verdict = Fine; bit = table_bit t x }) =
      λ x h. sym (good_run e ok d n s (records e s) w.gate.some w.gate.most outcome_rules read x h)
      ∙ outcome_runs e d n K t sheet work o w ok x h in
      (accepted_exactly e d n t s ok (table_fine e n K t w.gate)).1
      (record { rules = outcome_rules; gives = λ x h. ap (λ a. a.bit) (run x h); read = read })

  -- nor is it refused as 15 against any other table
  pub outcome_check_read : (t' : List ℕ) → number_of (check_outcome e d n t' (records_of e o)) ≡ 15 → ⊥
  outcome_check_read t' =
      read_never e n s (table_lines n t' ++ against_lines e d n t' s) refl (check_outcome e d n t' s)
      (check_says e d n t' s) (outcome_each_read e d n K t sheet work o w ok)

-- so every sheet that make writes is
module _ (e : Edition) (ok : IsEdition e) (d n K : ℕ) (t sheet work : List ℕ)
    (done : (make_outcome e d n K t sheet work).answer.verdict ≡ Fine) where
  written : IsWritten e d n K t sheet work (make_outcome e d n K t sheet work)
  written = made_written e d n K t sheet work (is_made e d n K t sheet work done)

  pub made_accepted : check_outcome e d n t (records_of e (make_outcome e d n K t sheet work)) ≡ Fine
  made_accepted = outcome_accepted e ok d n K t sheet work (make_outcome e d n K t sheet work) written

  pub check_never_unread : (t' : List ℕ)
      → number_of (check_outcome e d n t' (records_of e (make_outcome e d n K t sheet work))) ≡ 15 → ⊥
  check_never_unread = outcome_check_read e ok d n K t sheet work (make_outcome e d n K t sheet work) written
