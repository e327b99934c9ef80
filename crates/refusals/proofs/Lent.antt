-- Lent rooms that are long enough, and a work area that form and room leave as it was found. Assumes nothing.
use mathlib.Core.Path.{◌≡◌, ap}
use mathlib.Core.Bool.{Bool, true, false, cond, ◌&&◌}
use mathlib.Core.List.{List}
use Prim.Native.Nat.{ℕ, ◌*◌, ◌≤◌}
use lib.Dec.{leb}
use lib.ListN.{length, replicate}
use borrow.Author.Tests.{le-leb, le-ltb, ltb-false}
use Rattle.bits.proofs.Bools.{or-none}
use Rattle.sheets.specs.declared.kinds.Edition.{Edition}
use Rattle.sheets.specs.Edition.{most_records}
use Rattle.tables.specs.Work.{work_length}
use Rattle.refusals.specs.Verdicts.{Refusal, Verdict, Refused}
use Rattle.refusals.specs.Lines.{Line, verdict, number_of}
use Rattle.refusals.specs.Refusals.{short_sheet}
use Rattle.refusals.specs.Lent.{work_after}
use Rattle.refusals.proofs.Lines.{all_numbers, a_number}

pub work_found : (v : Verdict) (work : List ℕ) → 1 ≤ number_of v → number_of v ≤ 7 → work_after v work ≡ work
work_found v work h g = rw (le-leb 1 (number_of v) h, le-leb (number_of v) 7 g)

-- so it stays where lines refuse that have the numbers 1 to 7
pub form_leaves : (ls : List Line) (r : Refusal) → all_numbers (λ k. leb 1 k && leb k 7) ls ≡ true → verdict ls
    ≡ Refused r → (work : List ℕ) → work_after (Refused r) work ≡ work
form_leaves ls r o e work = ap (λ (t : Bool). cond t work (replicate (length work) 0))
    (a_number (λ k. leb 1 k && leb k 7) ls r o e)

-- line 6 of make: both the sheet's bytes and the work area are long enough
module _ (e : Edition) (sheet work : List ℕ) where
  pub both_long : e.size * most_records ≤ length sheet → work_length ≤ length work → (short_sheet e sheet work).holds
      ≡ false
  both_long h g = rw (le-ltb (length sheet) (e.size * most_records) h, le-ltb (length work) work_length g)

  pub long_both : (short_sheet e sheet work).holds ≡ false → (e.size * most_records ≤ length sheet)
      × (work_length ≤ length work)
  long_both h =
      let w = or-none _ _ h in
      (ltb-false (length sheet) (e.size * most_records) w.0, ltb-false (length work) work_length w.1)
