-- Make a sheet in a told edition: what is claimed of it. Told an edition that there is, it is make in that edition:
-- every claim on make (MakeSheet, Desks, Tries) holds of it, with either edition's K. Assumes nothing.
use mathlib.Core.Path.{◌≡◌, refl, sym, ap, ◌∙◌, subst}
use mathlib.Core.Logic.{◌⊎◌}
use mathlib.Core.Bool.{false}
use mathlib.Core.List.{List}
use Prim.Native.Nat.{ℕ, ◌^◌, ◌<◌, ◌≤◌}
use lib.ListN.{length, replicate, drop}
use Rattle.tables.specs.Table.{table_length, table_bit}
use Rattle.sheets.specs.declared.kinds.Edition.{Edition}
use Rattle.sheets.specs.Edition.{first_edition, edition_of}
use Rattle.sheets.specs.Network.{Gives, Carries}
use Rattle.sheets.proofs.Keeping.{is_edition, edition_one}
use Rattle.fewest.specs.Fewest.{Fewest}
use Rattle.refusals.specs.Verdicts.{Refusal, Verdict, Fine, Refused}
use Rattle.refusals.specs.Lines.{InOrder, verdict, number_of, reply}
use Rattle.refusals.specs.Refusals.{bad_edition}
use Rattle.refusals.specs.Lent.{work_after}
use Rattle.refusals.proofs.Lines.{in_order_lem}
use Rattle.refusals.proofs.Lent.{work_found}
use Rattle.refusals.proofs.Told.{told_known}
use Rattle.running.specs.RunTold.{run_told}
use Rattle.rebuilding.specs.RebuildTold.{rebuild_told}
use Rattle.inspection.specs.CheckTold.{check_told}
use Rattle.bench.specs.MakeSheet.{MakeAnswer, MakeOutcome, sheet_for, cells_in, make_form, make_lines, make_done, make_not, make_outcome}
use Rattle.bench.specs.MakeTold.{make_told_lines, make_told}
use Rattle.claims.specs.Words.{ByLines, AllBytes, records_of, network_of}
use Rattle.claims.proofs.Verdicts.{by_lines, work_cleared}
use Rattle.claims.proofs.MakeReply.{reply_says, reply_refused, reply-left, parts-once}
use Rattle.claims.proofs.MakeSheet.{made_gives, made_fewest}
use Rattle.claims.proofs.Desks.{made_runs_own, made_rebuilds_own, made_accepted_own}
use Rattle.claims.proofs.RunTold.{run-told_is}
use Rattle.claims.proofs.RebuildTold.{rebuild-told_is}
use Rattle.claims.proofs.CheckTold.{check_told_is}

module _ (w d n K : ℕ) (t sheet work : List ℕ) where
  says : (make_told w d n K t sheet work).answer.verdict ≡ verdict (make_told_lines w d n K t sheet work)
  says =
      reply_says (edition_of w) d (cells_in (sheet_for n K t)) sheet work (verdict (make_told_lines w d n K t sheet work))

  left : (make_told w d n K t sheet work).work ≡ work_after (make_told w d n K t sheet work).answer.verdict work
  left =
      reply-left (edition_of w) d (cells_in (sheet_for n K t)) sheet work (verdict (make_told_lines w d n K t sheet work))

  -- the verdict is that of 1, of 2 for the edition, and of lines 1 to 6 and 8 in that edition
  pub make_told_lines_lem : ByLines (make_told w d n K t sheet work).answer.verdict (make_told_lines w d n K t sheet work)
  make_told_lines_lem = by_lines (make_told_lines w d n K t sheet work) refl (make_told w d n K t sheet work).answer.verdict
      says

  -- refused: the count is 0, and the sheet is as it was lent
  pub make_told_refused : (r : Refusal) → (make_told w d n K t sheet work).answer.verdict ≡ Refused r
      → ((make_told w d n K t sheet work).answer.count ≡ 0) × ((make_told w d n K t sheet work).sheet ≡ sheet)
  make_told_refused =
      reply_refused (edition_of w) d (cells_in (sheet_for n K t)) sheet work (verdict (make_told_lines w d n K t sheet work))

  -- 1 to 7 leave the work area as found
  pub make_told-keeps : 1 ≤ number_of (make_told w d n K t sheet work).answer.verdict
      → number_of (make_told w d n K t sheet work).answer.verdict ≤ 7
      → (make_told w d n K t sheet work).work ≡ work
  make_told-keeps h g = left ∙ work_found (make_told w d n K t sheet work).answer.verdict work h g

  -- after 0 or 8 the whole of it is zeros
  pub make_told_clears : (number_of (make_told w d n K t sheet work).answer.verdict ≡ 0)
      ⊎ (number_of (make_told w d n K t sheet work).answer.verdict ≡ 8)
      → (make_told w d n K t sheet work).work ≡ replicate (length work) 0
  make_told_clears h = left ∙ work_cleared (make_told w d n K t sheet work).answer.verdict work h

  -- two outcomes that keep the promise are equal: the answer, the sheet and the work area afterwards
  pub make_told-once : (a a' : MakeAnswer) (l l' x x' : List ℕ) → record { answer = a; sheet = l; work = x }
      ≡ make_told w d n K t sheet work
      → record { answer = a'; sheet = l'; work = x' } ≡ make_told w d n K t sheet work → (a ≡ a') × (l ≡ l') × (x ≡ x')
  make_told-once = parts-once (make_told w d n K t sheet work)

  -- told an edition that there is, it is make in that edition
  pub make_told_is : (bad_edition w).holds ≡ false → make_told w d n K t sheet work
      ≡ make_outcome (edition_of w) d n K t sheet work
  unfolding make_outcome
  make_told_is known =
      ap (λ (v : Verdict). reply v (make_done (edition_of w) d (cells_in (sheet_for n K t)) sheet work)
      (make_not sheet work))
      (told_known w n (drop 1 (make_lines (edition_of w) d n K t sheet work)) known)

  -- ---- demand 2: done; s are the records that it wrote

  module _ (done : (make_told w d n K t sheet work).answer.verdict ≡ Fine) where
    known : (bad_edition w).holds ≡ false
    known = (in_order_lem (make_told_lines w d n K t sheet work) (sym says ∙ done)).1.0

    is : make_told w d n K t sheet work ≡ make_outcome (edition_of w) d n K t sheet work
    is = make_told_is known

    done_there : (make_outcome (edition_of w) d n K t sheet work).answer.verdict ≡ Fine
    done_there = ap (λ (o : MakeOutcome). o.answer.verdict) (sym is) ∙ done

    abbrev s : List ℕ
    s = records_of (edition_of w) (make_outcome (edition_of w) d n K t sheet work)

    -- told the same edition, run of s at any assignment gives the table's own bit
    pub told_runs : (x : ℕ) → x < 2 ^ n → run_told w n (records_of (edition_of w) (make_told w d n K t sheet work)) x
        ≡ record { verdict = Fine; bit = table_bit t x }
    told_runs x h =
        ap (λ (o : MakeOutcome). run_told w n (records_of (edition_of w) o) x) is ∙ run-told_is w n s x known
        ∙ made_runs_own (edition_of w) (is_edition w) d n K t sheet work done_there x h

    -- rebuild from s, into any lent table of the right length, gives the table back, byte for byte
    pub told_rebuilds : AllBytes t → (table : List ℕ) → length table ≡ table_length n
        → rebuild_told w n (records_of (edition_of w) (make_told w d n K t sheet work)) table
        ≡ record { verdict = Fine; table = t }
    told_rebuilds bytes table h =
        ap (λ (o : MakeOutcome). rebuild_told w n (records_of (edition_of w) o) table) is
        ∙ rebuild-told_is w n s table known
        ∙ made_rebuilds_own (edition_of w) (is_edition w) d n K t sheet work done_there bytes table h

    -- check accepts s
    pub told-accepted : check_told w n t (records_of (edition_of w) (make_told w d n K t sheet work)) ≡ Fine
    told-accepted =
        ap (λ (o : MakeOutcome). check_told w n t (records_of (edition_of w) o)) is ∙ check_told_is w n t s known
        ∙ made_accepted_own (edition_of w) (is_edition w) d n K t sheet work done_there

    -- s is a network of cells of at most K inputs, each reading signals given before it, that gives the table
    pub told_gives : Gives n K (table_bit t) (network_of (edition_of w) (make_told w d n K t sheet work))
    told_gives =
        subst (λ (o : MakeOutcome). Gives n K (table_bit t) (network_of (edition_of w) o)) (sym is)
        (made_gives (edition_of w) d n K t sheet work (is_edition w) done_there)

  -- ---- demand 3: where form and room are in order and one or two cells of the told edition carry the table, wired in
  -- any way at all: make is done, the
  -- network that it wrote gives the table with the fewest cells, and its count is that fewest number
  pub told_fewest : (bad_edition w).holds ≡ false → InOrder (make_form (edition_of w) d n K t sheet work) → (m : ℕ)
      → Carries n K m (table_bit t) → m ≤ 2
      → ((make_told w d n K t sheet work).answer.verdict ≡ Fine)
      × Fewest n K (table_bit t) (network_of (edition_of w) (make_told w d n K t sheet work))
      × ((m' : ℕ) → Carries n K m' (table_bit t) → (make_told w d n K t sheet work).answer.count ≤ m')
  told_fewest known form m c h =
      subst (λ (o : MakeOutcome). (o.answer.verdict ≡ Fine) × Fewest n K (table_bit t) (network_of (edition_of w) o)
      × ((m' : ℕ) → Carries n K m' (table_bit t) → o.answer.count ≤ m')) (sym (make_told_is known))
      (made_fewest (edition_of w) d n K t sheet work form (is_edition w) m c h)

-- told 1 it is make for a desk, in the first edition
pub make_told-one : (d n K : ℕ) (t sheet work : List ℕ) → make_told 1 d n K t sheet work
    ≡ make_outcome first_edition d n K t sheet work
make_told-one d n K t sheet work = make_told_is 1 d n K t sheet work refl
    ∙ ap (λ (e : Edition). make_outcome e d n K t sheet work) edition_one
