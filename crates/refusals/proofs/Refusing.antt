-- A call with a work area that looks at form and room, the lines 1 to 7, before anything else. Assumes nothing.
use mathlib.Core.Path.{◌≡◌, sym, ap₂, ◌∙◌}
use mathlib.Core.Bool.{true, ◌&&◌}
use mathlib.Core.List.{List, ◌++◌}
use Prim.Native.Nat.{ℕ}
use lib.Dec.{leb}
use Rattle.refusals.specs.Verdicts.{Refusal, Verdict, Refused}
use Rattle.refusals.specs.Lines.{Line, verdict, reply}
use Rattle.refusals.specs.Lent.{work_after}
use Rattle.refusals.proofs.Lines.{all_numbers, refused_by}
use Rattle.refusals.proofs.Lent.{form_leaves}

-- they refuse: what is answered with the work area as it was found is what the call is to return and leave
pub form_refuses : {A : Type 0} (ls ms : List Line) (done : A) (none : Verdict → List ℕ → A) (work : List ℕ)
    → all_numbers (λ k. leb 1 k && leb k 7) ls ≡ true → (v : Verdict) (r : Refusal) → v ≡ verdict ls → v ≡ Refused r
    → none v work ≡ reply (verdict (ls ++ ms)) done (λ r. none (Refused r) (work_after (Refused r) work))
form_refuses ls ms done none work form v r looked e =
    ap₂ none e (sym (form_leaves ls r form (sym looked ∙ e) work))
    ∙ refused_by ls ms done (λ r. none (Refused r) (work_after (Refused r) work)) v r looked e
