-- What form and room of a look for the best split let through. Assumes nothing.
use mathlib.Core.Path.{◌≡◌, sym, ◌∙◌}
use mathlib.Core.List.{List, [], ◌∷◌}
use Prim.Native.Nat.{ℕ, ◌≤◌}
use lib.ListN.{length}
use borrow.Author.Tests.{ltb-false}
use Rattle.tables.specs.Work.{work_length}
use Rattle.sheets.specs.declared.kinds.Edition.{Edition}
use Rattle.refusals.specs.Verdicts.{Verdict, Fine}
use Rattle.refusals.specs.Lines.{verdict}
use Rattle.refusals.specs.Refusals.{short_work}
use Rattle.refusals.proofs.Lines.{in_order_lem}
use Rattle.refusals.proofs.Tests.{Sound, sound_before}
use Rattle.finding.specs.FindBest.{find_form}

pub record Ready (e : Edition) (n K : ℕ) (t work : List ℕ) : Type 0 where
  pub gate : Sound e n K t
  pub area : work_length ≤ length work

pub ready : (e : Edition) (n K : ℕ) (t work : List ℕ) (v : Verdict) → v ≡ verdict (find_form e n K t work) → v ≡ Fine
    → Ready e n K t work
ready e n K t work v looked fine = record {
  gate = sound_before e n K t (short_work work ∷ []) v looked fine;
  area = ltb-false (length work) work_length (in_order_lem (find_form e n K t work) (sym looked ∙ fine)).1.1.1.1.0;
}
