-- Make a sheet for any gate: what is claimed of it, over any edition and desk. Assumes nothing.
use mathlib.Core.Path.{◌≡◌, refl, sym, ap, ◌∙◌}
use mathlib.Core.Logic.{◌⊎◌, ⊎_elim}
use mathlib.Core.Bool.{true, false}
use mathlib.Core.List.{List, [], ◌∷◌}
use Prim.Native.Nat.{ℕ, ◌^◌, ◌<◌, ◌≤◌}
use native.Mathlib.Omega.{arith}
use lib.ListN.{length, replicate}
use Rattle.bits.specs.Numbers.{bit}
use Rattle.bits.proofs.Bools.{clash}
use Rattle.tables.specs.Table.{table_length, table_bit}
use Rattle.tables.specs.Counting.{kept, table_over}
use Rattle.splits.specs.Columns.{most_first}
use Rattle.sheets.specs.declared.kinds.Edition.{Edition}
use Rattle.sheets.specs.Edition.{IsEdition, most_records}
use Rattle.sheets.specs.Network.{Cell, Gives}
use Rattle.sheets.specs.Sheet.{records}
use Rattle.sheets.specs.Reading.{EachRead}
use Rattle.sheets.specs.Desk.{desk_of}
use Rattle.chains.specs.Chain.{pick, inputs}
use Rattle.chains.specs.Words.{Blocked}
use Rattle.chains.specs.Over.{MakesOver, BlockedOver}
use Rattle.chains.specs.Any.{Any, sheet, unsplit, overlong}
use Rattle.chains.proofs.Any.{any_gives, any_fits, any_read, any_records, any_unsplit, any_overlong}
use Rattle.fewest.specs.Fewest.{Fewest}
use Rattle.fewest.proofs.Fewest.{any_three}
use Rattle.refusals.specs.Verdicts.{Refusal, Fine, Refused}
use Rattle.refusals.specs.Lines.{InOrder, verdict, number_of}
use Rattle.refusals.specs.Lent.{work_after}
use Rattle.refusals.proofs.Lines.{in_order_lem, passes, passed, held}
use Rattle.refusals.proofs.Lent.{work_found}
use Rattle.refusals.proofs.Tests.{Sound}
use Rattle.running.specs.RunSheet.{run_outcome, run_own}
use Rattle.rebuilding.specs.RebuildTable.{rebuild_outcome, rebuild_own}
use Rattle.inspection.specs.CheckSheet.{check_outcome, check_own}
use Rattle.bench.specs.MakeSheet.{MakeAnswer, MakeOutcome, make_form, make_done, make_outcome}
use Rattle.bench.proofs.Ready.{Ready, ready}
use Rattle.any_gate.specs.MakeAny.{any_for, cells_any, is_unsplit, is_overlong, none_any, too_long, any_says, any_lines}
use Rattle.any_gate.specs.MakeAny.{any_outcome}
use Rattle.any_gate.proofs.Answers.{as_make}
use Rattle.claims.specs.Words.{ByLines, AllBytes, records_of, network_of}
use Rattle.claims.proofs.Verdicts.{by_lines, order_before, work_cleared}
use Rattle.claims.proofs.MakeReply.{reply_says, reply_done, reply_refused, reply-left, parts-once}
use Rattle.claims.proofs.Written.{IsWritten, outcome_network, outcome_runs, outcome_rebuilds}
use Rattle.claims.proofs.Written.{outcome_each_read, outcome_never_unread, outcome_gives}
use Rattle.claims.proofs.CheckSheet.{outcome_accepted, outcome_check_read}
use Rattle.claims.proofs.WrittenOwn.{outcome_desk, outcome_runs_own, outcome_rebuilds_own, outcome_accepted_own}

module _ (e : Edition) (d n K : ℕ) (t s work : List ℕ) where
  abbrev o : MakeOutcome
  o = any_outcome e d n K t s work

  -- the inputs that are kept of the gate's, as signals, and the table over them
  abbrev kept_inputs : List ℕ
  kept_inputs = pick n (bit (kept n (table_bit t))) (inputs n)

  abbrev kept_of : ℕ
  kept_of = table_over n (bit (kept n (table_bit t))) (table_bit t)

  says : (any_outcome e d n K t s work).answer.verdict ≡ verdict (any_lines e d n K t s work)
  unfolding any_outcome
  says = reply_says e d (cells_any (any_for n K t)) s work (verdict (any_lines e d n K t s work))

  left : (any_outcome e d n K t s work).work ≡ work_after (any_outcome e d n K t s work).answer.verdict work
  unfolding any_outcome
  left = reply-left e d (cells_any (any_for n K t)) s work (verdict (any_lines e d n K t s work))

  -- the verdict is that of lines 1 to 6, 8 and 17
  pub any_lines_lem : ByLines (any_outcome e d n K t s work).answer.verdict (any_lines e d n K t s work)
  any_lines_lem = by_lines (any_lines e d n K t s work) refl (any_outcome e d n K t s work).answer.verdict says

  -- refused: the count is 0, and the sheet is as it was lent
  pub any_refused : (r : Refusal) → (any_outcome e d n K t s work).answer.verdict ≡ Refused r
      → ((any_outcome e d n K t s work).answer.count ≡ 0) × ((any_outcome e d n K t s work).sheet ≡ s)
  unfolding any_outcome
  any_refused = reply_refused e d (cells_any (any_for n K t)) s work (verdict (any_lines e d n K t s work))

  -- 1 to 7 leave the work area as found
  pub any_keeps : 1 ≤ number_of (any_outcome e d n K t s work).answer.verdict
      → number_of (any_outcome e d n K t s work).answer.verdict ≤ 7
      → (any_outcome e d n K t s work).work ≡ work
  any_keeps h g = left ∙ work_found (any_outcome e d n K t s work).answer.verdict work h g

  -- after 0, 8 or 17 the whole of it is zeros
  pub any_clears : ((number_of (any_outcome e d n K t s work).answer.verdict ≡ 0)
      ⊎ (number_of (any_outcome e d n K t s work).answer.verdict ≡ 8))
      ⊎ (number_of (any_outcome e d n K t s work).answer.verdict ≡ 17) → (any_outcome e d n K t s work).work
      ≡ replicate (length work) 0
  any_clears h = left ∙ ⊎_elim (work_cleared (any_outcome e d n K t s work).answer.verdict work) (λ q. rw q) h

  -- two outcomes that keep the promise are equal: the answer, the sheet and the work area afterwards
  pub any_once : (a a' : MakeAnswer) (l l' w w' : List ℕ) → record { answer = a; sheet = l; work = w }
      ≡ any_outcome e d n K t s work
      → record { answer = a'; sheet = l'; work = w' } ≡ any_outcome e d n K t s work → (a ≡ a') × (l ≡ l') × (w ≡ w')
  any_once = parts-once (any_outcome e d n K t s work)

  -- where make gives another number than 8, it is make's outcome, sheet and all; so what is claimed of make then holds
  -- of it
  pub any_as_make : (number_of (make_outcome e d n K t s work).answer.verdict ≡ 8 → ⊥) → any_outcome e d n K t s work
      ≡ make_outcome e d n K t s work
  any_as_make h = sym (as_make e d n K t s work h)

  -- ---- demand 2: done; the records that it wrote

  record IsAny : Type 0 where
    form : Ready e d n K t s work
    cells : List Cell
    answer : any_for n K t ≡ sheet cells
    outcome : any_outcome e d n K t s work ≡ make_done e d cells s work

  module _ (done : (any_outcome e d n K t s work).answer.verdict ≡ Fine) where
    is_any : IsAny
    unfolding any_outcome
    is_any = go (any_for n K t) refl w.1.1.1.1.1.1.0 w.1.1.1.1.1.1.1.0
      where
        w : InOrder (any_lines e d n K t s work)
        w = in_order_lem (any_lines e d n K t s work) (sym says ∙ done)

        go : (a : Any) → any_for n K t ≡ a → is_unsplit a ≡ false → is_overlong a ≡ false → IsAny
        go unsplit q g h = absurd (clash refl g)
        go overlong q g h = absurd (clash refl h)
        go (sheet cs) q g h = record {
          form = ready e d n K t s work (order_before (make_form e d n K t s work) (any_says (any_for n K t)) w);
          cells = cs;
          answer = q;
          outcome =
              reply_done e d (cells_any (any_for n K t)) s work (verdict (any_lines e d n K t s work)) done
              ∙ ap (λ (a : Any). make_done e d (cells_any a) s work) q;
        }

    abbrev one : 1 ≤ K
    one = omega (arith, is_any.form.gate.two)

    written : IsWritten e d n K t s work (any_outcome e d n K t s work)
    written =
        let w = is_any in
        let g = w.form.gate in
        record {
          gate = g;
          desk = w.form.desk;
          cells = w.cells;
          outcome = w.outcome;
          fits = any_fits n K (table_bit t) g.some one w.cells w.answer e g.largest;
          give = any_gives n K (table_bit t) g.some one w.cells w.answer;
          read = any_read n K (table_bit t) g.some one w.cells w.answer;
          few = any_records n K (table_bit t) g.some one w.cells w.answer (omega (arith, g.most, g.two));
        }

    module _ (ok : IsEdition e) where
      -- running them at any assignment gives the table's own bit (`written-bit`, chains)
      pub any_runs : (x : ℕ) → x < 2 ^ n → run_outcome e d n (records_of e (any_outcome e d n K t s work)) x
          ≡ record { verdict = Fine; bit = table_bit t x }
      any_runs = outcome_runs e d n K t s work o written ok

      -- rebuilding from them, into any lent table of the right length, gives the table back, byte for byte
      pub any_rebuilds : AllBytes t → (table : List ℕ) → length table ≡ table_length n
          → rebuild_outcome e d n (records_of e (any_outcome e d n K t s work)) table
          ≡ record { verdict = Fine; table = t }
      any_rebuilds = outcome_rebuilds e d n K t s work o written ok

      -- each record but the last is read (`over_read`, chains): neither run nor rebuild refuses them as 15
      pub any_each_read : EachRead e n (records_of e (any_outcome e d n K t s work))
          (records e (records_of e (any_outcome e d n K t s work)))
      any_each_read = outcome_each_read e d n K t s work o written ok

      pub any_never_unread : (x : ℕ) (table : List ℕ)
          → (number_of (run_outcome e d n (records_of e (any_outcome e d n K t s work)) x).verdict ≡ 15 → ⊥)
          × (number_of (rebuild_outcome e d n (records_of e (any_outcome e d n K t s work)) table).verdict ≡ 15 → ⊥)
      any_never_unread = outcome_never_unread e d n K t s work o written ok

      -- nor does check, against any table, and against its own it accepts them
      pub any_check_read : (t' : List ℕ)
          → number_of (check_outcome e d n t' (records_of e (any_outcome e d n K t s work))) ≡ 15 → ⊥
      any_check_read = outcome_check_read e ok d n K t s work o written

      pub any_accepted : check_outcome e d n t (records_of e (any_outcome e d n K t s work)) ≡ Fine
      any_accepted = outcome_accepted e ok d n K t s work o written

      -- each record is for the desk d, and so the calls that read the sheet's own desk say the same
      pub any_desk : desk_of e (records_of e (any_outcome e d n K t s work)) ≡ d
      any_desk = outcome_desk e ok d n K t s work o written

      pub any_runs_own : (x : ℕ) → x < 2 ^ n → run_own e n (records_of e (any_outcome e d n K t s work)) x
          ≡ record { verdict = Fine; bit = table_bit t x }
      any_runs_own = outcome_runs_own e ok d n K t s work o written

      pub any_rebuilds_own : AllBytes t → (table : List ℕ) → length table ≡ table_length n
          → rebuild_own e n (records_of e (any_outcome e d n K t s work)) table ≡ record { verdict = Fine; table = t }
      any_rebuilds_own = outcome_rebuilds_own e ok d n K t s work o written

      pub any_accepted_own : check_own e n t (records_of e (any_outcome e d n K t s work)) ≡ Fine
      any_accepted_own = outcome_accepted_own e ok d n K t s work o written

      -- they are a network of cells of at most K inputs, each reading signals given before it, that gives the table
      -- (`any_gives`, chains)
      pub any_network_gives : Gives n K (table_bit t) (network_of e (any_outcome e d n K t s work))
      any_network_gives = outcome_gives e d n K t s work o written ok

      -- three cells or fewer are fewest (`any_three`, fewest)
      pub any_fewest : (any_outcome e d n K t s work).answer.count ≤ 3
          → Fewest n K (table_bit t) (network_of e (any_outcome e d n K t s work))
      unfolding written is_any
      any_fewest h =
          let w = is_any in
          rw (outcome_network e d n K t s work o written ok)
          (any_three n K (table_bit t) w.form.gate.some one w.cells w.answer
          (omega (arith, ap (λ o. o.answer.count) w.outcome)))

  -- ---- 8 and 17

  -- refused as 8: make's chain has a table with more than K inputs and no split, and so has the chain with several
  -- first cells, for any r (`any_unsplit`, chains)
  pub any_blocked : number_of (any_outcome e d n K t s work).answer.verdict ≡ 8 → Blocked K n kept_inputs kept_of
      × BlockedOver most_first K n kept_inputs kept_of
  any_blocked h =
      let q = ap number_of (sym says) ∙ h in
      let g = (ready e d n K t s work (passed (make_form e d n K t s work) (any_says (any_for n K t)) 8 refl q).0).gate in
      (any_unsplit n K (table_bit t) g.some (omega (arith, g.two))).0
      (go (any_for n K t) (held (make_form e d n K t s work) (none_any (any_for n K t)) (too_long (any_for n K t) ∷ []) 8 refl
      refl (λ z. omega arith) q).0)
    where
      go : (a : Any) → is_unsplit a ≡ true → a ≡ unsplit
      go unsplit g = refl
      go overlong g = absurd (clash g refl)
      go (sheet cs) g = absurd (clash g refl)

  -- refused as 17: make's chain has such a table, and the other comes to its end with more cells than a sheet has
  -- records (`any_overlong`, chains)
  pub any_too_long : number_of (any_outcome e d n K t s work).answer.verdict ≡ 17
      → Blocked K n kept_inputs kept_of × ((cs : List Cell) × MakesOver most_first K n kept_inputs kept_of cs
      × (most_records < length cs))
  any_too_long h =
      let q = ap number_of (sym says) ∙ h in
      let g = (ready e d n K t s work (passed (make_form e d n K t s work) (any_says (any_for n K t)) 17 refl q).0).gate in
      (any_overlong n K (table_bit t) g.some (omega (arith, g.two))).0
      (go (any_for n K t) (passed (make_form e d n K t s work) (any_says (any_for n K t)) 17 refl q).1)
    where
      go : (a : Any) → number_of (verdict (any_says a)) ≡ 17 → a ≡ overlong
      go unsplit g = absurd (omega arith)
      go overlong g = refl
      go (sheet cs) g = absurd (omega arith)

  -- the other way, where form and room are in order
  module _ (form : InOrder (make_form e d n K t s work)) where
    by_answer : (a : Any) → any_for n K t ≡ a → number_of (any_outcome e d n K t s work).answer.verdict
        ≡ number_of (verdict (any_says a))
    by_answer a q = ap number_of (says ∙ passes (make_form e d n K t s work) (any_says (any_for n K t)) form)
        ∙ ap (λ (a : Any). number_of (verdict (any_says a))) q

    pub blocked_any : Blocked K n kept_inputs kept_of → BlockedOver most_first K n kept_inputs kept_of
        → number_of (any_outcome e d n K t s work).answer.verdict ≡ 8
    blocked_any b c = let g = (ready e d n K t s work form).gate in by_answer unsplit
        ((any_unsplit n K (table_bit t) g.some (omega (arith, g.two))).1 (b, c))

    pub long_any : Blocked K n kept_inputs kept_of → (cs : List Cell) → MakesOver most_first K n kept_inputs kept_of cs
        → most_records < length cs
        → number_of (any_outcome e d n K t s work).answer.verdict ≡ 17
    long_any b cs c l = let g = (ready e d n K t s work form).gate in by_answer overlong
        ((any_overlong n K (table_bit t) g.some (omega (arith, g.two))).1 (b, (cs, c, l)))
