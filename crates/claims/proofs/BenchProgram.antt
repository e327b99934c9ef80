-- The bench program: what is claimed of the bytes that it writes, for any bytes that it reads. Assumes nothing.
use mathlib.Core.Path.{◌≡◌, refl, sym, ap, ◌∙◌}
use mathlib.Core.Bool.{false, not}
use mathlib.Core.List.{List, [], ◌∷◌, ◌++◌}
use Prim.Native.Nat.{ℕ, suc, ◌+◌, ◌-◌, ◌*◌, ◌^◌, ◌<◌, ◌≤◌}
use native.Mathlib.Nat.{le_of_eq}
use native.Mathlib.Omega.{arith}
use lib.ListN.{length, get_or, take, drop, replicate, length-replicate}
use lib.Pow.{pow_mono}
use borrow.Author.Tests.{ne_eqb}
use Rattle.bits.proofs.Bools.{clash}
use Rattle.tables.specs.Table.{most_inputs, table_length, table_bit}
use Rattle.sheets.specs.Edition.{record_size, most_records, first_edition}
use Rattle.sheets.specs.Network.{Carries}
use Rattle.sheets.proofs.Keeping.{first_edition_lem}
use Rattle.tables.specs.Work.{work_length}
use Rattle.refusals.specs.Verdicts.{Fine}
use Rattle.refusals.specs.Lines.{InOrder, verdict, number_of}
use Rattle.refusals.specs.Refusals.{bad_inputs, bad_cell, bad_desk, gate_lines, short_sheet}
use Rattle.bench.specs.Refusals.{chain_stuck}
use Rattle.refusals.proofs.Lines.{here, later, decides, held}
use Rattle.refusals.proofs.Lent.{both_long}
use Rattle.refusals.proofs.Tests.{inside}
use Rattle.running.specs.RunSheet.{run_own}
use Rattle.rebuilding.specs.RebuildTable.{rebuild_own}
use Rattle.bench.specs.MakeSheet.{sheet_for, make_lines}
use Rattle.programs.specs.BenchProgram.{asked, program_outcome, written}
use Rattle.claims.specs.Words.{AllBytes, records_of}
use Rattle.claims.proofs.Made.{make_says}
use Rattle.claims.proofs.MakeSheet.{made_fewest}
use Rattle.claims.proofs.Desks.{made_runs_own, made_rebuilds_own}

module _ (input : List ℕ) where
  -- what was read: n, K and the table
  abbrev n : ℕ
  n = get_or input 0 0

  abbrev K : ℕ
  K = get_or input 1 0

  abbrev t : List ℕ
  t = drop 2 input

  abbrev sheet : List ℕ
  sheet = replicate (record_size * most_records) 0

  abbrev work : List ℕ
  work = replicate work_length 0

  -- the answer number, then the records that make wrote
  pub written_is : written input ≡ number_of (asked input).answer.verdict ∷ records_of first_edition (asked input)
  written_is = let one : 1 + record_size * (asked input).answer.count
      ≡ suc (record_size * (asked input).answer.count) = omega arith in
      ap (λ (k : ℕ). take k (program_outcome input).out) one

  says : (asked input).answer.verdict ≡ verdict (make_lines first_edition 0 n K t sheet work)
  unfolding asked
  says = make_says first_edition 0 n K t sheet work

  rooms : (short_sheet first_edition sheet work).holds ≡ false
  rooms = both_long first_edition sheet work (le_of_eq (sym (length-replicate {A = ℕ} (record_size * most_records) 0)))
      (le_of_eq (sym (length-replicate {A = ℕ} work_length 0)))

  -- 6 is never given
  pub never_six : number_of (asked input).answer.verdict ≡ 6 → ⊥
  never_six h =
      clash (held (gate_lines first_edition n K t ++ (bad_desk 0 ∷ [])) (short_sheet first_edition sheet work)
      (chain_stuck (sheet_for n K t) ∷ []) 6 refl refl (λ z. omega arith) (ap number_of (sym says) ∙ h)).0 rooms

  -- a table longer than 8,192 bytes is 3 where n and K are in range, whatever follows
  pub long_table : InOrder (bad_inputs n ∷ bad_cell first_edition K ∷ []) → table_length most_inputs < length (drop 2 input)
      → number_of (asked input).answer.verdict ≡ 3
  long_table s h =
      let most = (inside 1 n most_inputs s.0).1 in
      let wrong = ap not (ne_eqb (length t) (table_length n)
      (λ q. omega (arith, h, q, pow_mono {i = n - 3} {j = most_inputs - 3} (omega (arith, most))))) in
      ap number_of (says ∙ sym (decides (make_lines first_edition 0 n K t sheet work)
      (later s.0 (later s.1.0 (here wrong)))))

  -- ---- done: the first byte is 0, and the bytes behind it are a sheet

  module _ (done : (asked input).answer.verdict ≡ Fine) where
    -- demand 2: run, they give the table's own bit at every assignment
    pub written_runs : (x : ℕ) → x < 2 ^ get_or input 0 0
        → run_own first_edition (get_or input 0 0) (drop 1 (written input)) x
        ≡ record { verdict = Fine; bit = table_bit (drop 2 input) x }
    unfolding asked
    written_runs x h = rw written_is (made_runs_own first_edition first_edition_lem 0 n K t sheet work done x h)

    -- and rebuilt, the table that was read
    pub written_rebuilds : AllBytes (drop 2 input) → (table : List ℕ) → length table ≡ table_length (get_or input 0 0)
        → rebuild_own first_edition (get_or input 0 0) (drop 1 (written input)) table
        ≡ record { verdict = Fine; table = drop 2 input }
    unfolding asked
    written_rebuilds b table h = rw written_is (made_rebuilds_own first_edition first_edition_lem 0 n K t sheet work done b
        table h)

  -- demand 3: form in order (6 can't be wrong), and one or two cells carry the table: it is done, and no fewer cells
  -- carry it than records are written
  pub written_fewest : InOrder (gate_lines first_edition (get_or input 0 0) (get_or input 1 0) (drop 2 input)) → (m : ℕ)
      → Carries (get_or input 0 0) (get_or input 1 0) m (table_bit (drop 2 input)) → m ≤ 2
      → ((asked input).answer.verdict ≡ Fine) × ((m' : ℕ)
      → Carries (get_or input 0 0) (get_or input 1 0) m' (table_bit (drop 2 input)) → (asked input).answer.count ≤ m')
  unfolding asked
  written_fewest s m c h =
      let w = made_fewest first_edition 0 n K t sheet work
      (s.0, (s.1.0, (s.1.1.0, (s.1.1.1.0, (refl, (rooms, tt)))))) first_edition_lem m c h in (w.0, w.2)
