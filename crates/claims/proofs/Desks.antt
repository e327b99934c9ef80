-- Desks: what is claimed of sheets for their own desk, over any edition. Assumes nothing.
use mathlib.Core.Path.{◌≡◌, refl, sym, ap, ap₂, subst, ◌∙◌}
use mathlib.Core.Logic.{◌↔◌}
use mathlib.Core.Bool.{Bool, false}
use mathlib.Core.List.{List, [], ◌∷◌, ◌++◌}
use Prim.Native.Nat.{ℕ, ◌*◌, ◌^◌, ◌<◌, ◌≤◌}
use native.Mathlib.Omega.{arith}
use lib.IntN.{ℤ}
use lib.Ieee.{Float}
use lib.ListN.{length, drop}
use lib.Seq.{take_at, drop_at}
use borrow.Author.Tests.{lt-ltb, le-ltb, ltb-true}
use Rattle.tables.specs.Table.{table_length, table_bit}
use Rattle.sheets.specs.declared.kinds.Edition.{Edition}
use Rattle.sheets.specs.Edition.{IsEdition, most_desk}
use Rattle.sheets.specs.Network.{Cell}
use Rattle.sheets.specs.Sheet.{records, record_at, Good}
use Rattle.sheets.specs.Writing.{sheet_bytes}
use Rattle.sheets.specs.Desk.{desk_at, FirstAmiss, OneDesk, desk_of}
use Rattle.sheets.proofs.Wholes.{length-sheet}
use Rattle.sheets.proofs.Desks.{desk_said, good_one_desk, good_desk, desk_alone}
use Rattle.times.specs.declared.input_time.InputTime.{InputTime}
use Rattle.refusals.specs.Verdicts.{Verdict, Fine, Refused}
use Rattle.refusals.specs.Lines.{Line, InOrder, line, refusal, verdict, number_of, reply}
use Rattle.refusals.specs.Refusals.{bad_inputs, bad_table, bad_desk, bad_sheet, bad_assignment, table_differs, unread_record}
use Rattle.refusals.specs.Refusals.{gate_lines, sheet_lines, short_sheet}
use Rattle.bench.specs.Refusals.{chain_stuck}
use Rattle.refusals.proofs.Lines.{in_order_lem, passes, passed, held}
use Rattle.refusals.proofs.Sheets.{good_sheet, counted}
use Rattle.running.specs.RunSheet.{run_lines, run_outcome, run_own}
use Rattle.rebuilding.specs.RebuildTable.{rebuild_lines, rebuild_outcome, rebuild_own}
use Rattle.bench.specs.MakeSheet.{MakeOutcome, sheet_for, cells_in, make_done, make_not, make_outcome}
use Rattle.settling.specs.Refusals.{bad_times, bad_slack}
use Rattle.settling.specs.Settle.{settle_lines, settle_outcome, settle_own}
use Rattle.settling.specs.Slack.{slack_lines, slack_outcome, slack_own}
use Rattle.printing.specs.Printable.{not_printed}
use Rattle.printing.specs.WriteFormula.{short_text, write_lines, write_outcome, write_own}
use Rattle.inspection.specs.CheckSheet.{table_lines, check_outcome, check_own}
use Rattle.comparing.specs.Shorter.{which_kept, kept_outcome}
use Rattle.claims.specs.Words.{AllBytes, records_of, OtherDesk}
use Rattle.claims.specs.Before.{make_deskless, kept_deskless}
use Rattle.claims.proofs.Sheets.{amiss_exactly}
use Rattle.claims.proofs.RunSheet.{run_says}
use Rattle.claims.proofs.RebuildTable.{rebuild_says}
use Rattle.claims.proofs.CheckSheet.{check_says, check_accepted}
use Rattle.claims.proofs.Settle.{settle_says}
use Rattle.claims.proofs.Slack.{slack_says}
use Rattle.claims.proofs.WriteFormula.{write_says}
use Rattle.claims.proofs.Made.{make_says, is_made, made_written}
use Rattle.claims.proofs.Written.{IsWritten}
use Rattle.claims.proofs.WrittenOwn.{outcome_desk, outcome_one_desk, outcome_runs_own, outcome_rebuilds_own}
use Rattle.claims.proofs.WrittenOwn.{outcome_accepted_own}

-- ---- every reader of sheets refuses as 10 at i exactly where its lines before 10 are in order and record i is the
-- first that doesn't belong:
-- it breaks the record rules, its desk is above 4, or it isn't the first record's

module _ (e : Edition) (ok : IsEdition e) (n : ℕ) (s : List ℕ) (i : ℕ) where
  pub run_amiss : (x : ℕ) → ((run_own e n s x).verdict ≡ Refused (refusal 10 i))
      ↔ (InOrder (bad_inputs n ∷ bad_sheet e s ∷ []) × FirstAmiss e n s (records e s) i)
  run_amiss x =
      amiss_exactly e ok n s (bad_inputs n ∷ bad_sheet e s ∷ []) (bad_assignment n x ∷ unread_record e n s ∷ []) refl refl
      (run_own e n s x).verdict (run_says e (desk_of e s) n s x) i

  pub rebuild_amiss : (table : List ℕ)
      → ((rebuild_own e n s table).verdict ≡ Refused (refusal 10 i))
      ↔ (InOrder (bad_inputs n ∷ bad_table n table ∷ bad_sheet e s ∷ []) × FirstAmiss e n s (records e s) i)
  rebuild_amiss table =
      amiss_exactly e ok n s (bad_inputs n ∷ bad_table n table ∷ bad_sheet e s ∷ []) (unread_record e n s ∷ []) refl refl
      (rebuild_own e n s table).verdict
      (rebuild_says e (desk_of e s) n s table) i

  pub check_amiss : (t : List ℕ) → (check_own e n t s ≡ Refused (refusal 10 i))
      ↔ (InOrder (table_lines n t ++ (bad_sheet e s ∷ [])) × FirstAmiss e n s (records e s) i)
  check_amiss t =
      amiss_exactly e ok n s (table_lines n t ++ (bad_sheet e s ∷ [])) (table_differs e n t s ∷ unread_record e n s ∷ [])
      refl refl (check_own e n t s)
      (check_says e (desk_of e s) n t s) i

  pub settle_amiss : (delay : Float) (ts : List InputTime)
      → ((settle_own e n s delay ts).verdict ≡ Refused (refusal 10 i))
      ↔ (InOrder (bad_inputs n ∷ bad_sheet e s ∷ []) × FirstAmiss e n s (records e s) i)
  settle_amiss delay ts =
      amiss_exactly e ok n s (bad_inputs n ∷ bad_sheet e s ∷ []) (bad_times e n s delay ts ∷ []) refl refl
      (settle_own e n s delay ts).verdict
      (settle_says e (desk_of e s) n s delay ts) i

  pub slack_amiss : (delay : Float) (ts : List InputTime) (deadline : ℤ)
      → ((slack_own e n s delay ts deadline).verdict ≡ Refused (refusal 10 i))
      ↔ (InOrder (bad_inputs n ∷ bad_sheet e s ∷ []) × FirstAmiss e n s (records e s) i)
  slack_amiss delay ts deadline =
      amiss_exactly e ok n s (bad_inputs n ∷ bad_sheet e s ∷ [])
      (bad_times e n s delay ts ∷ bad_slack n delay ts deadline ∷ []) refl refl
      (slack_own e n s delay ts deadline).verdict
      (slack_says e (desk_of e s) n s delay ts deadline) i

  pub write_amiss : (room : List ℕ)
      → ((write_own e n s room).answer.verdict ≡ Refused (refusal 10 i))
      ↔ (InOrder (bad_inputs n ∷ short_text room ∷ bad_sheet e s ∷ []) × FirstAmiss e n s (records e s) i)
  write_amiss room =
      amiss_exactly e ok n s (bad_inputs n ∷ short_text room ∷ bad_sheet e s ∷ []) (not_printed e n s ∷ []) refl refl
      (write_own e n s room).answer.verdict
      (write_says e (desk_of e s) n s room) i

-- ---- what is answered is for one desk: the records are alike in it, and it is 0 to 4

module _ (e : Edition) (ok : IsEdition e) (n : ℕ) (s : List ℕ) where
  -- lines 9 and 10 let nothing else through
  pub sheet_desk : InOrder (sheet_lines e (desk_of e s) n s) → OneDesk e s (records e s) (desk_of e s)
  sheet_desk w = good_one_desk e n s ok (records e s) (good_sheet e (desk_of e s) n s ok w)

  pub ran_desk : (x : ℕ) → (run_own e n s x).verdict ≡ Fine → OneDesk e s (records e s) (desk_of e s)
  ran_desk x done = let w = in_order_lem (run_lines e (desk_of e s) n s x) (sym (run_says e (desk_of e s) n s x) ∙ done)
      in sheet_desk (w.1.0, (w.1.1.0, tt))

  pub rebuilt_desk : (table : List ℕ) → (rebuild_own e n s table).verdict ≡ Fine → OneDesk e s (records e s) (desk_of e s)
  rebuilt_desk table done =
      let w = in_order_lem (rebuild_lines e (desk_of e s) n s table) (sym (rebuild_says e (desk_of e s) n s table) ∙ done)
      in sheet_desk (w.1.1.0, (w.1.1.1.0, tt))

  pub accepted_desk : (t : List ℕ) → check_own e n t s ≡ Fine → OneDesk e s (records e s) (desk_of e s)
  accepted_desk t done = good_one_desk e n s ok (records e s) (check_accepted e (desk_of e s) n t s ok done).rules

  pub settled_desk : (delay : Float) (ts : List InputTime) → (settle_own e n s delay ts).verdict ≡ Fine
      → OneDesk e s (records e s) (desk_of e s)
  settled_desk delay ts done =
      let w = in_order_lem (settle_lines e (desk_of e s) n s delay ts) (sym (settle_says e (desk_of e s) n s delay ts) ∙ done)
      in sheet_desk (w.1.0, (w.1.1.0, tt))

  pub slack_desk : (delay : Float) (ts : List InputTime) (deadline : ℤ) → (slack_own e n s delay ts deadline).verdict
      ≡ Fine → OneDesk e s (records e s) (desk_of e s)
  slack_desk delay ts deadline done =
      let w = in_order_lem (slack_lines e (desk_of e s) n s delay ts deadline)
      (sym (slack_says e (desk_of e s) n s delay ts deadline) ∙ done) in
      sheet_desk (w.1.0, (w.1.1.0, tt))

  pub written_desk : (room : List ℕ) → (write_own e n s room).answer.verdict ≡ Fine
      → OneDesk e s (records e s) (desk_of e s)
  written_desk room done =
      let w = in_order_lem (write_lines e (desk_of e s) n s room) (sym (write_says e (desk_of e s) n s room) ∙ done)
      in sheet_desk (w.1.1.0, (w.1.1.1.0, tt))

-- ---- where the first record's desk is 0 every answer is as before there were desks

module _ (e : Edition) (n : ℕ) (s : List ℕ) (bench : desk_at e s 0 ≡ 0) where
  pub for_bench : desk_of e s ≡ 0
  for_bench = desk_said e s (omega (arith, bench)) ∙ bench

  pub run_deskless : (x : ℕ) → run_own e n s x ≡ run_outcome e 0 n s x
  run_deskless x = ap (λ (d : ℕ). run_outcome e d n s x) for_bench

  pub rebuild_deskless : (table : List ℕ) → rebuild_own e n s table ≡ rebuild_outcome e 0 n s table
  rebuild_deskless table = ap (λ (d : ℕ). rebuild_outcome e d n s table) for_bench

  pub check_deskless : (t : List ℕ) → check_own e n t s ≡ check_outcome e 0 n t s
  check_deskless t = ap (λ (d : ℕ). check_outcome e d n t s) for_bench

  pub settle_deskless : (delay : Float) (ts : List InputTime) → settle_own e n s delay ts
      ≡ settle_outcome e 0 n s delay ts
  settle_deskless delay ts = ap (λ (d : ℕ). settle_outcome e d n s delay ts) for_bench

  pub slack_deskless : (delay : Float) (ts : List InputTime) (deadline : ℤ) → slack_own e n s delay ts deadline
      ≡ slack_outcome e 0 n s delay ts deadline
  slack_deskless delay ts deadline = ap (λ (d : ℕ). slack_outcome e d n s delay ts deadline) for_bench

  pub write_deskless : (room : List ℕ) → write_own e n s room ≡ write_outcome e 0 n s room
  write_deskless room = ap (λ (d : ℕ). write_outcome e d n s room) for_bench

pub kept_deskless_lem : (e : Edition) (n : ℕ) (t x y : List ℕ) → desk_at e x 0 ≡ 0 → desk_at e y 0 ≡ 0 → kept_outcome e n t x y
    ≡ kept_deskless e n t x y
unfolding kept_outcome
kept_deskless_lem e n t x y p q =
    ap₂ (λ (v w : Verdict). which_kept v w (records e x) (records e y)) (check_deskless e n x p t)
    (check_deskless e n y q t)

-- and make for bench use is make as it was
pub make_deskless_lem : (e : Edition) (n K : ℕ) (t sheet work : List ℕ) → make_outcome e 0 n K t sheet work
    ≡ make_deskless e n K t sheet work
unfolding make_outcome
make_deskless_lem e n K t sheet work = refl

-- ---- make for a desk: 5 exactly where lines 1 to 4 are in order and the desk is above 4

pub made_five : (e : Edition) (d n K : ℕ) (t sheet work : List ℕ)
    → ((make_outcome e d n K t sheet work).answer.verdict ≡ Refused (refusal 5 0))
    ↔ (InOrder (gate_lines e n K t) × (most_desk < d))
made_five e d n K t sheet work =
    let ms : List Line = short_sheet e sheet work ∷ chain_stuck (sheet_for n K t) ∷ [] in
    let is = make_says e d n K t sheet work in (
      λ q.
          let h = ap number_of (sym is ∙ q) in (
            (passed (gate_lines e n K t) (bad_desk d ∷ ms) 5 refl h).0,
            ltb-true most_desk d
                (held (gate_lines e n K t) (bad_desk d) ms 5 refl refl (λ z. omega arith) h).0,
          ),
      λ w. is ∙ passes (gate_lines e n K t) (bad_desk d ∷ ms) w.0 ∙ rw (lt-ltb most_desk d w.1) refl,
    )

-- ---- done: s are the records that it wrote for the desk d

module _ (e : Edition) (ok : IsEdition e) (d n K : ℕ) (t sheet work : List ℕ)
    (done : (make_outcome e d n K t sheet work).answer.verdict ≡ Fine) where
  written : IsWritten e d n K t sheet work (make_outcome e d n K t sheet work)
  written = made_written e d n K t sheet work (is_made e d n K t sheet work done)

  -- each record is for that desk
  pub made_desk : desk_of e (records_of e (make_outcome e d n K t sheet work)) ≡ d
  made_desk = outcome_desk e ok d n K t sheet work (make_outcome e d n K t sheet work) written

  pub made_one_desk : OneDesk e (records_of e (make_outcome e d n K t sheet work))
      (records e (records_of e (make_outcome e d n K t sheet work))) d
  made_one_desk = outcome_one_desk e ok d n K t sheet work (make_outcome e d n K t sheet work) written

  -- demand 2, whatever the desk: run and rebuild give the table back, and check accepts
  pub made_runs_own : (x : ℕ) → x < 2 ^ n → run_own e n (records_of e (make_outcome e d n K t sheet work)) x
      ≡ record { verdict = Fine; bit = table_bit t x }
  made_runs_own = outcome_runs_own e ok d n K t sheet work (make_outcome e d n K t sheet work) written

  pub made_rebuilds_own : AllBytes t → (table : List ℕ) → length table ≡ table_length n
      → rebuild_own e n (records_of e (make_outcome e d n K t sheet work)) table ≡ record { verdict = Fine; table = t }
  made_rebuilds_own = outcome_rebuilds_own e ok d n K t sheet work (make_outcome e d n K t sheet work) written

  pub made_accepted_own : check_own e n t (records_of e (make_outcome e d n K t sheet work)) ≡ Fine
  made_accepted_own = outcome_accepted_own e ok d n K t sheet work (make_outcome e d n K t sheet work) written

-- ---- what is made for two desks differs in the desk's byte alone

module _ (e : Edition) (d d' n K : ℕ) (t sheet work : List ℕ) where
  abbrev cs : List Cell
  cs = cells_in (sheet_for n K t)

  -- where line 5 lets a desk through, make is as the other lines say
  abbrev passing : ℕ → Bool → MakeOutcome
  passing x b =
      reply (verdict (gate_lines e n K t ++ (line 5 b ∷ short_sheet e sheet work ∷ chain_stuck (sheet_for n K t) ∷ [])))
      (make_done e x cs sheet work) (make_not sheet work)

  let_through : (x : ℕ) → x ≤ most_desk → make_outcome e x n K t sheet work ≡ passing x false
  unfolding make_outcome
  let_through x h = ap (passing x) (le-ltb most_desk x h)

  lies : (x : ℕ) → records_of e (make_done e x cs sheet work) ≡ sheet_bytes e x cs
  lies x = take_at (sheet_bytes e x cs) (drop (length (sheet_bytes e x cs)) sheet) (e.size * length cs)
      (length-sheet e x cs)

  behind : (x : ℕ) → drop (e.size * length cs) (make_done e x cs sheet work).sheet ≡ drop (e.size * length cs) sheet
  behind x =
      drop_at (sheet_bytes e x cs) (drop (length (sheet_bytes e x cs)) sheet) (e.size * length cs) (length-sheet e x cs)
      ∙ ap (λ (k : ℕ). drop k sheet) (length-sheet e x cs)

  pub other_desk : d ≤ most_desk → d' ≤ most_desk
      → OtherDesk e (make_outcome e d n K t sheet work) (make_outcome e d' n K t sheet work)
  other_desk h g =
      subst (λ (o : MakeOutcome). OtherDesk e o (make_outcome e d' n K t sheet work)) (sym (let_through d h))
      (subst (λ (o : MakeOutcome). OtherDesk e (passing d false) o) (sym (let_through d' g))
      (go (verdict (gate_lines e n K t ++ (short_sheet e sheet work ∷ chain_stuck (sheet_for n K t) ∷ [])))))
    where
      go : (v : Verdict) → OtherDesk e (reply v (make_done e d cs sheet work) (make_not sheet work))
          (reply v (make_done e d' cs sheet work) (make_not sheet work))
      go Fine = record {
        answer = refl;
        work = refl;
        bytes = λ i j other.
            ap (λ (l : List ℕ). record_at e l i j) (lies d) ∙ desk_alone e d d' j other cs i
            ∙ sym (ap (λ (l : List ℕ). record_at e l i j) (lies d'));
        rest = behind d ∙ sym (behind d');
      }
      go (Refused r) = record { answer = refl; work = refl; bytes = λ i j other. refl; rest = refl }
