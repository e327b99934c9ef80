-- Run a sheet of a told edition: what is claimed of it. Told an edition that there is, it is run in that edition: every
-- claim on run (RunSheet, Desks) holds of it. Assumes nothing.
use mathlib.Core.Path.{◌≡◌, refl, sym, ap, ◌∙◌}
use mathlib.Core.Bool.{false}
use mathlib.Core.List.{List}
use Prim.Native.Nat.{ℕ}
use lib.ListN.{drop}
use Rattle.sheets.specs.declared.kinds.Edition.{Edition}
use Rattle.sheets.specs.Edition.{first_edition, edition_of}
use Rattle.sheets.specs.Desk.{desk_of}
use Rattle.sheets.proofs.Keeping.{edition_one}
use Rattle.refusals.specs.Verdicts.{Refusal, Verdict, Refused}
use Rattle.refusals.specs.Lines.{verdict, reply}
use Rattle.refusals.specs.Refusals.{bad_edition}
use Rattle.refusals.proofs.Told.{told_known}
use Rattle.running.specs.RunSheet.{RunAnswer, run_lines, run_done, run_not, run_outcome, run_own}
use Rattle.running.specs.RunTold.{run_told_lines, run_told}
use Rattle.claims.specs.Words.{ByLines}
use Rattle.claims.proofs.Verdicts.{says_verdict, is_refused_lem, by_lines}

module _ (w n : ℕ) (s : List ℕ) (x : ℕ) where
  says : (run_told w n s x).verdict ≡ verdict (run_told_lines w n s x)
  says = says_verdict (λ (a : RunAnswer). a.verdict) (run_done (edition_of w) n s x) run_not refl (λ r. refl)
      (verdict (run_told_lines w n s x))

  -- the verdict is that of 1, of 2 for the edition, and of lines 1, 9, 10, 11 and 15 in that edition
  pub run-told_lines : ByLines (run_told w n s x).verdict (run_told_lines w n s x)
  run-told_lines = by_lines (run_told_lines w n s x) refl (run_told w n s x).verdict says

  -- refused: the bit is 0
  pub run-told_refused : (r : Refusal) → (run_told w n s x).verdict ≡ Refused r → (run_told w n s x).bit ≡ false
  run-told_refused r h =
      ap (λ a. a.bit) (is_refused_lem (λ (a : RunAnswer). a.verdict) (run_done (edition_of w) n s x) run_not refl (λ q. refl)
      (verdict (run_told_lines w n s x)) r h)

  -- two answers that keep the promise are equal
  pub run-told-once : (a a' : RunAnswer) → a ≡ run_told w n s x → a' ≡ run_told w n s x → a ≡ a'
  run-told-once a a' p q = p ∙ sym q

  -- told an edition that there is, it is run in that edition
  pub run-told_is : (bad_edition w).holds ≡ false → run_told w n s x ≡ run_own (edition_of w) n s x
  unfolding run_outcome
  run-told_is known = ap (λ (v : Verdict). reply v (run_done (edition_of w) n s x) run_not)
      (told_known w n (drop 1 (run_lines (edition_of w) (desk_of (edition_of w) s) n s x)) known)

-- told 1 it is run
pub run-told-one : (n : ℕ) (s : List ℕ) (x : ℕ) → run_told 1 n s x ≡ run_own first_edition n s x
run-told-one n s x = run-told_is 1 n s x refl ∙ ap (λ (e : Edition). run_own e n s x) edition_one
