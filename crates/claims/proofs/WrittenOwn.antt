-- Every written outcome by the calls that read the sheet's own desk: it is the desk that the sheet was made for.
-- Assumes nothing.
use mathlib.Core.Path.{◌≡◌, sym, ap, subst, ◌∙◌}
use mathlib.Core.List.{List}
use Prim.Native.Nat.{ℕ, ◌^◌, ◌<◌}
use lib.ListN.{length}
use Rattle.tables.specs.Table.{table_length, table_bit}
use Rattle.sheets.specs.declared.kinds.Edition.{Edition}
use Rattle.sheets.specs.Edition.{IsEdition}
use Rattle.sheets.specs.Sheet.{records, Good}
use Rattle.sheets.specs.Desk.{OneDesk, desk_of}
use Rattle.sheets.proofs.Desks.{good_one_desk, good_desk}
use Rattle.refusals.specs.Verdicts.{Fine}
use Rattle.running.specs.RunSheet.{run_outcome, run_own}
use Rattle.rebuilding.specs.RebuildTable.{rebuild_outcome, rebuild_own}
use Rattle.bench.specs.MakeSheet.{MakeOutcome}
use Rattle.inspection.specs.CheckSheet.{check_outcome, check_own}
use Rattle.claims.specs.Words.{AllBytes, records_of}
use Rattle.claims.proofs.Written.{IsWritten, outcome_runs, outcome_rebuilds}
use Rattle.claims.proofs.CheckSheet.{outcome_rules, outcome_accepted}

module _ (e : Edition) (ok : IsEdition e) (d n K : ℕ) (t sheet work : List ℕ) (o : MakeOutcome)
    (w : IsWritten e d n K t sheet work o) where
  abbrev s : List ℕ
  s = records_of e o

  -- each record is for that desk
  pub outcome_desk : desk_of e (records_of e o) ≡ d
  outcome_desk = good_desk e n s ok (records e s) d w.desk (outcome_rules e ok d n K t sheet work o w)

  pub outcome_one_desk : OneDesk e (records_of e o) (records e (records_of e o)) d
  outcome_one_desk =
      subst (OneDesk e s (records e s)) outcome_desk
      (good_one_desk e n s ok (records e s) (subst (λ (x : ℕ). Good e x n s (records e s)) (sym outcome_desk)
      (outcome_rules e ok d n K t sheet work o w)))

  -- demand 2, whatever the desk: run and rebuild give the table back, and check accepts
  pub outcome_runs_own : (x : ℕ) → x < 2 ^ n → run_own e n (records_of e o) x
      ≡ record { verdict = Fine; bit = table_bit t x }
  outcome_runs_own x h = ap (λ (k : ℕ). run_outcome e k n s x) outcome_desk
      ∙ outcome_runs e d n K t sheet work o w ok x h

  pub outcome_rebuilds_own : AllBytes t → (table : List ℕ) → length table ≡ table_length n
      → rebuild_own e n (records_of e o) table ≡ record { verdict = Fine; table = t }
  outcome_rebuilds_own bytes table h = ap (λ (k : ℕ). rebuild_outcome e k n s table) outcome_desk
      ∙ outcome_rebuilds e d n K t sheet work o w ok bytes table h

  pub outcome_accepted_own : check_own e n t (records_of e o) ≡ Fine
  outcome_accepted_own = ap (λ (k : ℕ). check_outcome e k n t s) outcome_desk
      ∙ outcome_accepted e ok d n K t sheet work o w
