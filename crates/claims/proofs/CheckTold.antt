-- Check a sheet of a told edition against a table: what is claimed of it. Told an edition that there is, it is check in
-- that edition: every claim on check (CheckSheet, Desks) holds of it. Assumes nothing.
use mathlib.Core.Path.{◌≡◌, refl, sym, ap, ◌∙◌}
use mathlib.Core.Bool.{false}
use mathlib.Core.List.{List}
use Prim.Native.Nat.{ℕ}
use lib.ListN.{drop}
use Rattle.sheets.specs.declared.kinds.Edition.{Edition}
use Rattle.sheets.specs.Edition.{first_edition, edition_of}
use Rattle.sheets.specs.Desk.{desk_of}
use Rattle.sheets.proofs.Keeping.{edition_one}
use Rattle.refusals.specs.Verdicts.{Verdict}
use Rattle.refusals.specs.Refusals.{bad_edition}
use Rattle.refusals.proofs.Told.{told_known}
use Rattle.inspection.specs.CheckSheet.{check_lines, check_outcome, check_own}
use Rattle.inspection.specs.CheckTold.{check_told_lines, check_told}
use Rattle.claims.specs.Words.{ByLines}
use Rattle.claims.proofs.Verdicts.{by_lines}

module _ (w n : ℕ) (t s : List ℕ) where
  -- the verdict is that of 1, of 2 for the edition, and of lines 1, 3, 4, 9, 10, 12 and 15 in that edition
  pub check_told_lines_lem : ByLines (check_told w n t s) (check_told_lines w n t s)
  check_told_lines_lem = by_lines (check_told_lines w n t s) refl (check_told w n t s) refl

  -- two answers that keep the promise are equal
  pub check_told-once : (v v' : Verdict) → v ≡ check_told w n t s → v' ≡ check_told w n t s → v ≡ v'
  check_told-once v v' p q = p ∙ sym q

  -- told an edition that there is, it is check in that edition
  pub check_told_is : (bad_edition w).holds ≡ false → check_told w n t s ≡ check_own (edition_of w) n t s
  unfolding check_outcome
  check_told_is known = told_known w n (drop 1 (check_lines (edition_of w) (desk_of (edition_of w) s) n t s)) known

-- told 1 it is check
pub check_told-one : (n : ℕ) (t s : List ℕ) → check_told 1 n t s ≡ check_own first_edition n t s
check_told-one n t s = check_told_is 1 n t s refl ∙ ap (λ (e : Edition). check_own e n t s) edition_one
