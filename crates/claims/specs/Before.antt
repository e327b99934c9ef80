-- What find and make answered before inputs that do not count were set aside, run, rebuild and check before a record
-- had to be read, and make and the shorter of two before there were desks: kept to say where nothing has changed. The
-- other calls answered before there were desks as they now do for the desk 0.
use Rattle.std.specs.Prelude.{List, [], ◌∷◌, ◌++◌, ℕ, ◌^◌, leb}
use Rattle.bits.specs.Numbers.{number}
use Rattle.tables.specs.Table.{table_bit}
use Rattle.best.specs.Search.{best}
use Rattle.sheets.specs.declared.kinds.Edition.{Edition}
use Rattle.sheets.specs.Sheet.{records}
use Rattle.chains.specs.Chain.{sheet_of}
use Rattle.refusals.specs.Lines.{line, verdict, reply}
use Rattle.refusals.specs.Refusals.{gate_lines, short_sheet, none_best}
use Rattle.bench.specs.Refusals.{chain_stuck}
use Rattle.refusals.specs.Verdicts.{Verdict}
use Rattle.finding.specs.FindBest.{FindOutcome, find_form, find_done, find_not}
use Rattle.running.specs.RunSheet.{RunAnswer, run_form, run_done, run_not}
use Rattle.rebuilding.specs.RebuildTable.{RebuildOutcome, rebuild_form, rebuild_done, rebuild_not}
use Rattle.bench.specs.MakeSheet.{MakeOutcome, sheet_for, cells_in, make_form, make_done, make_not}
use Rattle.inspection.specs.CheckSheet.{table_lines, against_lines, check_outcome}
use Rattle.comparing.specs.Shorter.{Kept, which_kept}

-- 7 where n is at most K, and the best split of the whole table
abbrev pub find_before : Edition → ℕ → ℕ → List ℕ → List ℕ → FindOutcome
find_before e n K t work =
    let a = best n 1 (table_bit t) K in
    reply (verdict (find_form e n K t work ++ (line 7 (leb n K) ∷ none_best a ∷ []))) (find_done a work) (find_not work)

-- the chain of the whole table
abbrev pub make_before : Edition → ℕ → ℕ → ℕ → List ℕ → List ℕ → List ℕ → MakeOutcome
make_before e d n K t sheet work =
    let c = sheet_of n K (number (2 ^ n) (table_bit t)) in
    reply (verdict (make_form e d n K t sheet work ++ (chain_stuck c ∷ []))) (make_done e d (cells_in c) sheet work)
    (make_not sheet work)

-- by 1, 9, 10 and 11 alone
abbrev pub run_before : Edition → ℕ → ℕ → List ℕ → ℕ → RunAnswer
run_before e d n s x = reply (verdict (run_form e d n s x)) (run_done e n s x) run_not

-- by 1, 3, 9 and 10 alone
abbrev pub rebuild_before : Edition → ℕ → ℕ → List ℕ → List ℕ → RebuildOutcome
rebuild_before e d n s table = reply (verdict (rebuild_form e d n s table)) (rebuild_done e n s) (rebuild_not table)

-- by 1, 3, 4, 9, 10 and 12 alone
abbrev pub check_before : Edition → ℕ → ℕ → List ℕ → List ℕ → Verdict
check_before e d n t s = verdict (table_lines n t ++ against_lines e d n t s)

-- without line 5
abbrev pub make_deskless : Edition → ℕ → ℕ → List ℕ → List ℕ → List ℕ → MakeOutcome
make_deskless e n K t sheet work =
    let c = sheet_for n K t in
    reply (verdict (gate_lines e n K t ++ (short_sheet e sheet work ∷ chain_stuck c ∷ [])))
    (make_done e 0 (cells_in c) sheet work) (make_not sheet work)

-- both sheets for bench use
abbrev pub kept_deskless : Edition → ℕ → List ℕ → List ℕ → List ℕ → Kept
kept_deskless e n t x y = which_kept (check_outcome e 0 n t x) (check_outcome e 0 n t y) (records e x) (records e y)
