-- Find the best split in a told edition: what is claimed of it. Told an edition that there is, it is find in that
-- edition: every claim on find (FindBest) holds of it, with either edition's K. Assumes nothing.
use mathlib.Core.Path.{◌≡◌, refl, sym, ap, ◌∙◌, subst}
use mathlib.Core.Logic.{◌⊎◌}
use mathlib.Core.Bool.{false}
use mathlib.Core.List.{List}
use Prim.Native.Nat.{ℕ, ◌≤◌}
use lib.ListN.{length, replicate, drop}
use Rattle.bits.specs.Numbers.{bit}
use Rattle.tables.specs.Table.{table_bit}
use Rattle.tables.specs.Counting.{Counting}
use Rattle.splits.specs.Split.{reads_d, Possible}
use Rattle.best.specs.Best.{Candidate}
use Rattle.best.specs.Counting.{BestCounting}
use Rattle.sheets.specs.declared.kinds.Edition.{Edition}
use Rattle.sheets.specs.Edition.{first_edition, edition_of}
use Rattle.sheets.proofs.Keeping.{edition_one}
use Rattle.refusals.specs.Verdicts.{Refusal, Verdict, Fine, Refused}
use Rattle.refusals.specs.Lines.{verdict, number_of, reply}
use Rattle.refusals.specs.Refusals.{bad_edition, told_form}
use Rattle.refusals.specs.Lent.{work_after}
use Rattle.refusals.proofs.Lines.{in_order_lem, passed}
use Rattle.refusals.proofs.Lent.{work_found}
use Rattle.refusals.proofs.Told.{told_known}
use Rattle.finding.specs.FindBest.{FindAnswer, FindOutcome, best_for, find_lines, find_done, find_not, find_outcome}
use Rattle.finding.specs.FindTold.{find_told_lines, find_told}
use Rattle.claims.specs.Words.{ByLines}
use Rattle.claims.proofs.Verdicts.{says_verdict, is_refused_lem, area_left, by_lines, work_cleared}
use Rattle.claims.proofs.FindBest.{found_best, none_possible}

module _ (w n K : ℕ) (t work : List ℕ) where
  says : (find_told w n K t work).answer.verdict ≡ verdict (find_told_lines w n K t work)
  says = says_verdict (λ (o : FindOutcome). o.answer.verdict) (find_done (best_for n K t) work) (find_not work) refl
      (λ r. refl) (verdict (find_told_lines w n K t work))

  left : (find_told w n K t work).work ≡ work_after (find_told w n K t work).answer.verdict work
  left =
      area_left (λ (o : FindOutcome). o.answer.verdict) (find_done (best_for n K t) work) (find_not work) refl
      (λ r. refl) (λ (o : FindOutcome). o.work) work refl (λ r. refl)
      (verdict (find_told_lines w n K t work))

  -- the verdict is that of 1, of 2 for the edition, and of lines 1 to 4 and 6 to 8 in that edition
  pub find_told_lines_lem : ByLines (find_told w n K t work).answer.verdict (find_told_lines w n K t work)
  find_told_lines_lem = by_lines (find_told_lines w n K t work) refl (find_told w n K t work).answer.verdict says

  -- refused: both masks are 0
  pub find_told_refused : (r : Refusal) → (find_told w n K t work).answer.verdict ≡ Refused r
      → ((find_told w n K t work).answer.own ≡ 0) × ((find_told w n K t work).answer.shared ≡ 0)
  find_told_refused r h =
      let q = is_refused_lem (λ (o : FindOutcome). o.answer.verdict) (find_done (best_for n K t) work) (find_not work) refl
      (λ u. refl) (verdict (find_told_lines w n K t work)) r h in
      (ap (λ o. o.answer.own) q, ap (λ o. o.answer.shared) q)

  -- 1 to 7 leave the work area as found
  pub find_told-keeps : 1 ≤ number_of (find_told w n K t work).answer.verdict
      → number_of (find_told w n K t work).answer.verdict ≤ 7 → (find_told w n K t work).work ≡ work
  find_told-keeps h g = left ∙ work_found (find_told w n K t work).answer.verdict work h g

  -- after 0 or 8 the whole of it is zeros
  pub find_told_clears : (number_of (find_told w n K t work).answer.verdict ≡ 0)
      ⊎ (number_of (find_told w n K t work).answer.verdict ≡ 8)
      → (find_told w n K t work).work ≡ replicate (length work) 0
  find_told_clears h = left ∙ work_cleared (find_told w n K t work).answer.verdict work h

  -- two outcomes that keep the promise are equal: the answer, and the work area afterwards
  pub find_told-once : (a a' : FindAnswer) (l l' : List ℕ) → record { answer = a; work = l } ≡ find_told w n K t work
      → record { answer = a'; work = l' } ≡ find_told w n K t work
      → (a ≡ a') × (l ≡ l')
  find_told-once a a' l l' p q = (ap (λ o. o.answer) (p ∙ sym q), ap (λ o. o.work) (p ∙ sym q))

  -- told an edition that there is, it is find in that edition
  pub find_told_is : (bad_edition w).holds ≡ false → find_told w n K t work ≡ find_outcome (edition_of w) n K t work
  unfolding find_outcome
  find_told_is known = ap (λ (v : Verdict). reply v (find_done (best_for n K t) work) (find_not work))
      (told_known w n (drop 1 (find_lines (edition_of w) n K t work)) known)

  -- ---- demand 3, with either edition's K

  -- done: the masks are the best of all possible splits among the inputs that count
  pub told_best : (find_told w n K t work).answer.verdict ≡ Fine
      → BestCounting n K 1 (table_bit t) (find_told w n K t work).answer.own (find_told w n K t work).answer.shared
  told_best done =
      let is = find_told_is (in_order_lem (find_told_lines w n K t work) (sym says ∙ done)).1.0 in
      subst (λ (o : FindOutcome). BestCounting n K 1 (table_bit t) o.answer.own o.answer.shared) (sym is)
      (found_best (edition_of w) n K t work (ap (λ (o : FindOutcome). o.answer.verdict) (sym is) ∙ done))

  -- refused as 8: no candidate among the inputs that count is possible
  pub told-none_possible : number_of (find_told w n K t work).answer.verdict ≡ 8 → (A B : ℕ) → Candidate n K 1 A B
      → Counting n (table_bit t) (reads_d (bit A) (bit B))
      → Possible n (table_bit t) (bit A) (bit B) 1 → ⊥
  told-none_possible h =
      let is = find_told_is (passed (told_form w n) (find_lines (edition_of w) n K t work) 8 refl
      (ap number_of (sym says) ∙ h)).0.1.0 in
      none_possible (edition_of w) n K t work (ap (λ (o : FindOutcome). number_of o.answer.verdict) (sym is) ∙ h)

-- told 1 it is document 01's call
pub find_told-one : (n K : ℕ) (t work : List ℕ) → find_told 1 n K t work ≡ find_outcome first_edition n K t work
find_told-one n K t work = find_told_is 1 n K t work refl ∙ ap (λ (e : Edition). find_outcome e n K t work) edition_one
