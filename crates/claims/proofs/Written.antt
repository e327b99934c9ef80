-- What holds of every outcome that wrote the sheet of some cells: the cells fit their records, are few and each read
-- but the last, and their network gives the table. Make's and make_any's done outcomes are such. Assumes nothing.
use mathlib.Core.Path.{◌≡◌, refl, ap, ap₂, ◌∙◌}
use mathlib.Core.Bool.{Bool}
use mathlib.Core.List.{List}
use Prim.Native.Nat.{ℕ, ◌*◌, ◌^◌, ◌<◌, ◌≤◌}
use lib.ListN.{length, drop}
use lib.Seq.{take_at}
use Rattle.tables.specs.Table.{table_length, table_bit}
use Rattle.sheets.specs.declared.kinds.Edition.{Edition}
use Rattle.sheets.specs.Edition.{IsEdition, most_records, most_desk}
use Rattle.sheets.specs.Network.{Cell, Gives}
use Rattle.sheets.specs.Sheet.{records, sheet_cells, Good}
use Rattle.sheets.specs.Writing.{FitsFrom, sheet_bytes}
use Rattle.sheets.specs.Reading.{AllRead, EachRead}
use Rattle.sheets.proofs.Wholes.{length-sheet, cells_back}
use Rattle.sheets.proofs.Unread.{written_read}
use Rattle.chains.proofs.Written.{written-bit, written-table, written_good}
use Rattle.refusals.specs.Verdicts.{Fine}
use Rattle.refusals.specs.Lines.{number_of}
use Rattle.refusals.proofs.Tests.{Sound}
use Rattle.refusals.proofs.Sheets.{counted}
use Rattle.running.specs.RunSheet.{run_form, run_outcome}
use Rattle.rebuilding.specs.RebuildTable.{rebuild_form, rebuild_outcome}
use Rattle.bench.specs.MakeSheet.{MakeOutcome, make_done}
use Rattle.claims.specs.Words.{AllBytes, records_of, network_of}
use Rattle.claims.proofs.Tables.{table_back}
use Rattle.claims.proofs.Sheets.{good_run, good_rebuild, read_never}
use Rattle.claims.proofs.RunSheet.{run_says}
use Rattle.claims.proofs.RebuildTable.{rebuild_says}

module _ (e : Edition) (d n K : ℕ) (t sheet work : List ℕ) (o : MakeOutcome) where
  pub record IsWritten : Type 0 where
    pub gate : Sound e n K t
    pub desk : d ≤ most_desk
    pub cells : List Cell
    pub outcome : o ≡ make_done e d cells sheet work
    pub fits : FitsFrom e n cells
    pub give : Gives n K (table_bit t) cells
    pub read : AllRead n cells
    pub few : length cells ≤ most_records

  module _ (w : IsWritten) where
    -- the first bytes are the sheet of these cells
    pub outcome_records : records_of e o ≡ sheet_bytes e d w.cells
    outcome_records =
        ap (records_of e) w.outcome
        ∙ take_at (sheet_bytes e d w.cells) (drop (length (sheet_bytes e d w.cells)) sheet)
        (e.size * length w.cells) (length-sheet e d w.cells)

    module _ (ok : IsEdition e) where
      pub outcome_good : Good e d n (sheet_bytes e d w.cells) (length w.cells)
      outcome_good = written_good e ok d n K (table_bit t) w.cells w.fits w.give w.few

      -- each record but the last is read
      pub outcome_read : EachRead e n (sheet_bytes e d w.cells) (length w.cells)
      outcome_read = written_read e ok d n w.cells w.fits w.read

      -- read as a network, they are the cells
      pub outcome_network : network_of e o ≡ w.cells
      outcome_network = ap₂ (sheet_cells e) outcome_records (ap (λ o. o.answer.count) w.outcome)
          ∙ cells_back e d ok n w.cells w.fits

      -- running them at any assignment gives the table's own bit (`written-bit`, chains)
      pub outcome_runs : (x : ℕ) → x < 2 ^ n → run_outcome e d n (records_of e o) x
          ≡ record { verdict = Fine; bit = table_bit t x }
      outcome_runs x h =
          let cs = w.cells in
          ap (λ (s : List ℕ). run_outcome e d n s x) outcome_records
          ∙ good_run e ok d n (sheet_bytes e d cs) (length cs) w.gate.some w.gate.most outcome_good outcome_read
          x h
          ∙ ap (λ (b : Bool). record { verdict = Fine; bit = b })
          (written-bit e ok d n K (table_bit t) cs w.fits w.give x h)

      -- rebuilding from them, into any lent table of the right length, gives the table back, byte for byte
      -- (`written-table`, chains)
      pub outcome_rebuilds : AllBytes t → (table : List ℕ) → length table ≡ table_length n
          → rebuild_outcome e d n (records_of e o) table ≡ record { verdict = Fine; table = t }
      outcome_rebuilds bytes table h =
          let cs = w.cells in
          ap (λ (s : List ℕ). rebuild_outcome e d n s table) outcome_records
          ∙ good_rebuild e ok d n (sheet_bytes e d cs) (length cs) w.gate.some w.gate.most outcome_good
          outcome_read table h
          ∙ ap (λ (l : List ℕ). record { verdict = Fine; table = l })
          (written-table e ok d n K (table_bit t) cs w.fits w.give
          ∙ table_back n (table_bit t) t bytes w.gate.long w.gate.spare (λ x l. refl))

      -- each record but the last is read: neither run, at any assignment, nor rebuild, into any lent table, refuses
      -- them as 15
      pub outcome_each_read : EachRead e n (records_of e o) (records e (records_of e o))
      outcome_each_read = rw (
        outcome_records,
        counted e d n (sheet_bytes e d w.cells) ok (length w.cells)
            outcome_good,
      ) outcome_read

      pub outcome_never_unread : (x : ℕ) (table : List ℕ)
          → (number_of (run_outcome e d n (records_of e o) x).verdict ≡ 15 → ⊥)
          × (number_of (rebuild_outcome e d n (records_of e o) table).verdict ≡ 15 → ⊥)
      outcome_never_unread x table =
          let s = records_of e o in (
            read_never e n s (run_form e d n s x) refl (run_outcome e d n s x).verdict (run_says e d n s x)
                outcome_each_read,
            read_never e n s (rebuild_form e d n s table) refl (rebuild_outcome e d n s table).verdict
                (rebuild_says e d n s table) outcome_each_read,
          )

      -- they are a network of cells of at most K inputs, each reading signals given before it, that gives the table
      pub outcome_gives : Gives n K (table_bit t) (network_of e o)
      outcome_gives = rw outcome_network w.give
