-- `shorter_verdict` meets its contract: it is the verdict that goes with the sheet which is kept. Assumes nothing.
use Rattle.std.proofs.Common.{Ok}
use mathlib.Core.Path.{◌≡◌, refl, sym, ap, ◌∙◌}
use Rattle.refusals.specs.Verdicts.{Fine}
use Rattle.comparing.specs.declared.shorter.Which.{Which}
use Rattle.comparing.specs.declared.shorter.Which.TheVariants.{First, Second}
use Rattle.comparing.specs.Shorter.{Kept, kept_of}
use Rattle.refusals.proofs.Results.{handed_on}
use Rattle.comparing.proofs.shorter.shorter_verdict.Goals as goal

-- nothing is wrong where one is kept
fine : (w : Which) → Fine ≡ (kept_of (Ok w)).verdict
fine First = refl
fine Second = refl

pub returns-in_err-keep_shorter : goal.returns-in_err-keep_shorter
returns-in_err-keep_shorter c =
    handed_on _ _ c.from_residual.ensures.1 ∙ ap (λ (k : Kept). k.verdict) c.in_err-keep_shorter.ensures

pub returns : goal.returns
returns c = fine _ ∙ ap (λ (k : Kept). k.verdict) c.in_ok-keep_shorter.ensures
