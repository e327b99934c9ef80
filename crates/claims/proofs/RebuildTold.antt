-- Rebuild a table from a sheet of a told edition: what is claimed of it. Told an edition that there is, it is rebuild
-- in that edition: every claim on rebuild (RebuildTable, Desks) holds of it. Assumes nothing.
use mathlib.Core.Path.{◌≡◌, refl, sym, ap, ◌∙◌}
use mathlib.Core.Bool.{false}
use mathlib.Core.List.{List}
use Prim.Native.Nat.{ℕ}
use lib.ListN.{drop}
use Rattle.sheets.specs.declared.kinds.Edition.{Edition}
use Rattle.sheets.specs.Edition.{first_edition, edition_of}
use Rattle.sheets.specs.Desk.{desk_of}
use Rattle.sheets.proofs.Keeping.{edition_one}
use Rattle.refusals.specs.Verdicts.{Refusal, Verdict, Refused}
use Rattle.refusals.specs.Lines.{verdict, reply}
use Rattle.refusals.specs.Refusals.{bad_edition}
use Rattle.refusals.proofs.Told.{told_known}
use Rattle.rebuilding.specs.RebuildTable.{RebuildOutcome, rebuild_lines, rebuild_done, rebuild_not, rebuild_outcome}
use Rattle.rebuilding.specs.RebuildTable.{rebuild_own}
use Rattle.rebuilding.specs.RebuildTold.{rebuild_told_lines, rebuild_told}
use Rattle.claims.specs.Words.{ByLines}
use Rattle.claims.proofs.Verdicts.{says_verdict, is_refused_lem, by_lines}

module _ (w n : ℕ) (s table : List ℕ) where
  says : (rebuild_told w n s table).verdict ≡ verdict (rebuild_told_lines w n s table)
  says =
      says_verdict (λ (o : RebuildOutcome). o.verdict) (rebuild_done (edition_of w) n s) (rebuild_not table) refl
      (λ r. refl) (verdict (rebuild_told_lines w n s table))

  -- the verdict is that of 1, of 2 for the edition, and of lines 1, 3, 9, 10 and 15 in that edition
  pub rebuild-told_lines : ByLines (rebuild_told w n s table).verdict (rebuild_told_lines w n s table)
  rebuild-told_lines = by_lines (rebuild_told_lines w n s table) refl (rebuild_told w n s table).verdict says

  -- refused: the table is as it was lent
  pub rebuild-told_refused : (r : Refusal) → (rebuild_told w n s table).verdict ≡ Refused r
      → (rebuild_told w n s table).table ≡ table
  rebuild-told_refused r h =
      ap (λ o. o.table)
      (is_refused_lem (λ (o : RebuildOutcome). o.verdict) (rebuild_done (edition_of w) n s) (rebuild_not table) refl
      (λ q. refl) (verdict (rebuild_told_lines w n s table)) r h)

  -- two outcomes that keep the promise are equal: the verdict, and the table afterwards
  pub rebuild-told-once : (v v' : Verdict) (l l' : List ℕ) → record { verdict = v; table = l } ≡ rebuild_told w n s table
      → record { verdict = v'; table = l' } ≡ rebuild_told w n s table → (v ≡ v') × (l ≡ l')
  rebuild-told-once v v' l l' p q = (ap (λ o. o.verdict) (p ∙ sym q), ap (λ o. o.table) (p ∙ sym q))

  -- told an edition that there is, it is rebuild in that edition
  pub rebuild-told_is : (bad_edition w).holds ≡ false → rebuild_told w n s table ≡ rebuild_own (edition_of w) n s table
  unfolding rebuild_outcome
  rebuild-told_is known = ap (λ (v : Verdict). reply v (rebuild_done (edition_of w) n s) (rebuild_not table))
      (told_known w n (drop 1 (rebuild_lines (edition_of w) (desk_of (edition_of w) s) n s table)) known)

-- told 1 it is rebuild
pub rebuild-told-one : (n : ℕ) (s table : List ℕ) → rebuild_told 1 n s table ≡ rebuild_own first_edition n s table
rebuild-told-one n s table = rebuild-told_is 1 n s table refl ∙ ap (λ (e : Edition). rebuild_own e n s table) edition_one
