-- Make a sheet: what is claimed of it, over any edition and desk. Assumes nothing.
use mathlib.Core.Path.{◌≡◌, refl, sym, ap, ◌∙◌}
use mathlib.Core.Logic.{◌⊎◌}
use mathlib.Core.Bool.{true, cond}
use mathlib.Core.List.{List, [], ◌∷◌, ◌++◌}
use Prim.Native.Nat.{ℕ, ◌^◌, ◌<◌, ◌≤◌}
use native.Mathlib.Omega.{arith}
use lib.ListN.{length, replicate}
use Rattle.bits.specs.Numbers.{bit}
use Rattle.bits.specs.Sets.{size}
use Rattle.bits.proofs.Bools.{clash}
use Rattle.tables.specs.Table.{table_length, table_bit}
use Rattle.tables.specs.Counting.{AllCount, support, kept, table_over}
use Rattle.splits.specs.Split.{reads_d}
use Rattle.best.proofs.Counting.{counting_answer}
use Rattle.sheets.specs.declared.kinds.Edition.{Edition}
use Rattle.sheets.specs.Edition.{IsEdition}
use Rattle.sheets.specs.Network.{Cell, Gives, Carries}
use Rattle.sheets.specs.Sheet.{records}
use Rattle.sheets.specs.Reading.{EachRead}
use Rattle.chains.specs.Chain.{Made, stuck, made, pick, inputs, last_cell}
use Rattle.chains.specs.Words.{Blocked}
use Rattle.fewest.specs.Fewest.{Fewest}
use Rattle.chains.proofs.Aside.{sheet_stuck, sheet-plain}
use Rattle.fewest.proofs.Fewest.{table_fewest}
use Rattle.chains.proofs.FirstReads.{first_reads_lem, sheet_constant}
use Rattle.refusals.specs.Verdicts.{Refusal, Fine, Refused}
use Rattle.refusals.specs.Lines.{InOrder, verdict, number_of, reply}
use Rattle.bench.specs.Refusals.{chain_stuck, is_stuck}
use Rattle.refusals.specs.Lent.{work_after}
use Rattle.refusals.proofs.Lines.{passed, passes, held}
use Rattle.refusals.proofs.Lent.{work_found}
use Rattle.finding.specs.FindBest.{find_outcome}
use Rattle.running.specs.RunSheet.{run_outcome}
use Rattle.rebuilding.specs.RebuildTable.{rebuild_outcome}
use Rattle.bench.specs.MakeSheet.{MakeAnswer, MakeOutcome, sheet_for, cells_in, make_form, make_lines, make_done, make_not, make_outcome}
use Rattle.bench.proofs.Ready.{ready}
use Rattle.claims.specs.Words.{ByLines, AllBytes, records_of, network_of}
use Rattle.claims.specs.Before.{make_before}
use Rattle.claims.proofs.Verdicts.{by_lines, work_cleared}
use Rattle.claims.proofs.MakeReply.{reply_refused, reply-left, parts-once}
use Rattle.claims.proofs.FindBest.{found_more, found_best}
use Rattle.claims.proofs.Written.{IsWritten, outcome_runs, outcome_rebuilds, outcome_each_read}
use Rattle.claims.proofs.Written.{outcome_never_unread, outcome_gives}
use Rattle.claims.proofs.Made.{IsMade, make_says, is_made, not_stuck, made_written, made_network}

module _ (e : Edition) (d n K : ℕ) (t sheet work : List ℕ) where
  -- the inputs that are kept of the gate's, as signals, and the table over them
  abbrev kept_inputs : List ℕ
  kept_inputs = pick n (bit (kept n (table_bit t))) (inputs n)

  abbrev kept_of : ℕ
  kept_of = table_over n (bit (kept n (table_bit t))) (table_bit t)

  left : (make_outcome e d n K t sheet work).work ≡ work_after (make_outcome e d n K t sheet work).answer.verdict work
  unfolding make_outcome
  left = reply-left e d (cells_in (sheet_for n K t)) sheet work (verdict (make_lines e d n K t sheet work))

  -- the verdict is that of lines 1 to 6 and 8
  pub make_lines_lem : ByLines (make_outcome e d n K t sheet work).answer.verdict (make_lines e d n K t sheet work)
  make_lines_lem = by_lines (make_lines e d n K t sheet work) refl (make_outcome e d n K t sheet work).answer.verdict
      (make_says e d n K t sheet work)

  -- refused: the count is 0, and the sheet is as it was lent
  pub make_refused : (r : Refusal) → (make_outcome e d n K t sheet work).answer.verdict ≡ Refused r
      → ((make_outcome e d n K t sheet work).answer.count ≡ 0) × ((make_outcome e d n K t sheet work).sheet ≡ sheet)
  unfolding make_outcome
  make_refused = reply_refused e d (cells_in (sheet_for n K t)) sheet work (verdict (make_lines e d n K t sheet work))

  -- 1 to 7 leave the work area as found
  pub make_keeps : 1 ≤ number_of (make_outcome e d n K t sheet work).answer.verdict
      → number_of (make_outcome e d n K t sheet work).answer.verdict ≤ 7
      → (make_outcome e d n K t sheet work).work ≡ work
  make_keeps h g = left ∙ work_found (make_outcome e d n K t sheet work).answer.verdict work h g

  -- after 0 or 8 the whole of it is zeros
  pub make_clears : (number_of (make_outcome e d n K t sheet work).answer.verdict ≡ 0)
      ⊎ (number_of (make_outcome e d n K t sheet work).answer.verdict ≡ 8)
      → (make_outcome e d n K t sheet work).work ≡ replicate (length work) 0
  make_clears h = left ∙ work_cleared (make_outcome e d n K t sheet work).answer.verdict work h

  -- two outcomes that keep the promise are equal: the answer, the sheet and the work area afterwards
  pub make_once : (a a' : MakeAnswer) (l l' w w' : List ℕ) → record { answer = a; sheet = l; work = w }
      ≡ make_outcome e d n K t sheet work
      → record { answer = a'; sheet = l'; work = w' } ≡ make_outcome e d n K t sheet work → (a ≡ a') × (l ≡ l')
      × (w ≡ w')
  make_once = parts-once (make_outcome e d n K t sheet work)

  -- ---- demand 2: done; s are the records that it wrote

  module _ (ok : IsEdition e) (done : (make_outcome e d n K t sheet work).answer.verdict ≡ Fine) where
    w : IsMade e d n K t sheet work
    w = is_made e d n K t sheet work done

    abbrev o : MakeOutcome
    o = make_outcome e d n K t sheet work

    written : IsWritten e d n K t sheet work (make_outcome e d n K t sheet work)
    written = made_written e d n K t sheet work w

    -- running s at any assignment gives the table's own bit (`written-bit`, chains)
    pub made_runs : (x : ℕ) → x < 2 ^ n → run_outcome e d n (records_of e (make_outcome e d n K t sheet work)) x
        ≡ record { verdict = Fine; bit = table_bit t x }
    made_runs = outcome_runs e d n K t sheet work o written ok

    -- rebuilding from s, into any lent table of the right length, gives the table back, byte for byte (`written-table`,
    -- chains)
    pub made_rebuilds : AllBytes t → (table : List ℕ) → length table ≡ table_length n
        → rebuild_outcome e d n (records_of e (make_outcome e d n K t sheet work)) table
        ≡ record { verdict = Fine; table = t }
    made_rebuilds = outcome_rebuilds e d n K t sheet work o written ok

    -- each record of s but the last is read (`table_read`, chains): neither run, at any assignment, nor rebuild, into
    -- any lent table, refuses s as 15
    pub records_read : EachRead e n (records_of e (make_outcome e d n K t sheet work))
        (records e (records_of e (make_outcome e d n K t sheet work)))
    records_read = outcome_each_read e d n K t sheet work o written ok

    pub made_never_unread : (x : ℕ) (table : List ℕ)
        → (number_of (run_outcome e d n (records_of e (make_outcome e d n K t sheet work)) x).verdict ≡ 15 → ⊥)
        × (number_of (rebuild_outcome e d n (records_of e (make_outcome e d n K t sheet work)) table).verdict ≡ 15 → ⊥)
    made_never_unread = outcome_never_unread e d n K t sheet work o written ok

    -- s is a network of cells of at most K inputs, each reading signals given before it, that gives the table
    -- (`table_gives`, chains)
    pub made_gives : Gives n K (table_bit t) (network_of e (make_outcome e d n K t sheet work))
    made_gives = outcome_gives e d n K t sheet work o written ok

  -- ---- demand 3

  -- refused as 8: a table in the chain of the inputs that count has more than K of them and no possible split
  -- (`sheet_stuck`, chains)
  pub made_blocked : number_of (make_outcome e d n K t sheet work).answer.verdict ≡ 8 → Blocked K n kept_inputs kept_of
  made_blocked h =
      let q = ap number_of (sym (make_says e d n K t sheet work)) ∙ h in
      let g = (ready e d n K t sheet work (passed (make_form e d n K t sheet work) (chain_stuck (sheet_for n K t) ∷ []) 8
      refl q).0).gate in
      (sheet_stuck n K (table_bit t) g.some (omega (arith, g.two))).0
      (is_stuck_lem (sheet_for n K t) (held (make_form e d n K t sheet work) (chain_stuck (sheet_for n K t)) [] 8 refl refl
      (λ z. omega arith) q).0)
    where
      is_stuck_lem : (c : Made) → is_stuck c ≡ true → c ≡ stuck
      is_stuck_lem stuck g = refl
      is_stuck_lem (made cs) g = absurd (clash g refl)

  module _ (form : InOrder (make_form e d n K t sheet work)) where
    -- the other way: where form and room are in order and such a table is in the chain, make is refused as 8
    pub blocked_refused : Blocked K n kept_inputs kept_of → number_of (make_outcome e d n K t sheet work).answer.verdict
        ≡ 8
    blocked_refused b =
        let g = (ready e d n K t sheet work form).gate in
        ap number_of (make_says e d n K t sheet work ∙ passes (make_form e d n K t sheet work)
        (chain_stuck (sheet_for n K t) ∷ []) form)
        ∙ ap (λ (c : Made). number_of (verdict (chain_stuck c ∷ [])))
        ((sheet_stuck n K (table_bit t) g.some (omega (arith, g.two))).1 b)

    -- where form and room are in order and one or two cells carry the table, wired in any way at all: make is done, the
    -- network that it wrote gives the table with the fewest cells, and its count is that fewest number (`table_fewest`,
    -- fewest)
    pub made_fewest : IsEdition e → (m : ℕ) → Carries n K m (table_bit t) → m ≤ 2
        → ((make_outcome e d n K t sheet work).answer.verdict ≡ Fine)
        × Fewest n K (table_bit t) (network_of e (make_outcome e d n K t sheet work))
        × ((m' : ℕ) → Carries n K m' (table_bit t) → (make_outcome e d n K t sheet work).answer.count ≤ m')
    made_fewest ok m c h =
        let g = (ready e d n K t sheet work form).gate in go
        (table_fewest n K (table_bit t) g.some (omega (arith, g.two)) m c h)
      where
        go : (cs : List Cell) × (sheet_for n K t ≡ made cs) × Fewest n K (table_bit t) cs
            → ((make_outcome e d n K t sheet work).answer.verdict ≡ Fine)
            × Fewest n K (table_bit t) (network_of e (make_outcome e d n K t sheet work))
            × ((m' : ℕ) → Carries n K m' (table_bit t) → (make_outcome e d n K t sheet work).answer.count ≤ m')
        go p =
            let w = not_stuck e d n K t sheet work form p.0 p.1 in (
              ap (λ o. o.answer.verdict) w.0.outcome,
              rw (made_network e d n K t sheet work w.0 ok, w.1) p.2,
              rw (w.0.outcome, w.1) p.2.least,
            )

  -- ---- where the output depends on each input, make answers as it did before inputs were set aside (`sheet-plain`,
  -- chains)
  pub make_as_before : AllCount n (table_bit t) → make_outcome e d n K t sheet work ≡ make_before e d n K t sheet work
  unfolding make_outcome
  make_as_before all =
      ap (λ (c : Made). reply (verdict (make_form e d n K t sheet work ++ (chain_stuck c ∷ [])))
      (make_done e d (cells_in c) sheet work) (make_not sheet work))
      (sheet-plain n (table_bit t) K all)

-- ---- a constant, and find beside make

-- where no input counts, make is done with one cell that reads signal 0, and its table is 0 or 3 (`sheet_constant`,
-- chains)
pub constant_made : (e : Edition) → IsEdition e → (d n K : ℕ) (t sheet work : List ℕ)
    → InOrder (make_form e d n K t sheet work) → size n (bit (support n (table_bit t))) ≡ 0
    → ((make_outcome e d n K t sheet work).answer.verdict ≡ Fine)
    × (network_of e (make_outcome e d n K t sheet work) ≡ last_cell (0 ∷ []) (cond (table_bit t 0) 3 0) ∷ [])
constant_made e ok d n K t sheet work form none =
    let g = (ready e d n K t sheet work form).gate in
    let cs = last_cell (0 ∷ []) (cond (table_bit t 0) 3 0) ∷ [] in
    let w = not_stuck e d n K t sheet work form cs
    (sheet_constant n K (table_bit t) g.some (omega (arith, g.two)) none) in
    (ap (λ o. o.answer.verdict) w.0.outcome, made_network e d n K t sheet work w.0 ok ∙ w.1)

-- where both are done, find's masks are the inputs that make's first cell reads (`first_reads_lem`, chains)
pub first-cell-reads : (e : Edition) → IsEdition e → (d n K : ℕ) (t sheet work area : List ℕ)
    → (make_outcome e d n K t sheet work).answer.verdict ≡ Fine
    → (find_outcome e n K t area).answer.verdict ≡ Fine → (c : Cell) (cs : List Cell)
    → network_of e (make_outcome e d n K t sheet work) ≡ c ∷ cs
    → c.signals ≡ pick n (reads_d (bit (find_outcome e n K t area).answer.own)
    (bit (find_outcome e n K t area).answer.shared)) (inputs n)
first-cell-reads e ok d n K t sheet work area done found c cs is =
    let w = is_made e d n K t sheet work done in
    let b = found_best e n K t area found in
    first_reads_lem n K (table_bit t) _ _ c cs w.gate.some (omega (arith, w.gate.two)) (found_more e n K t area found)
    (w.chain ∙ ap made (sym (made_network e d n K t sheet work w ok) ∙ is)) (counting_answer n 1 (table_bit t) K _ _ b)
