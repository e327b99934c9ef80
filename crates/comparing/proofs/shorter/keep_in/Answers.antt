-- `keep_in` meets its contract: both verdicts are the check's, and the lengths give the numbers of records. Assumes
-- nothing.
use mathlib.Core.Path.{ap₂, ◌∙◌}
use Rattle.sheets.specs.Sheet.{records}
use Rattle.refusals.specs.Verdicts.{Verdict}
use Rattle.comparing.specs.Shorter.{which_kept, kept_outcome}
use Rattle.comparing.proofs.shorter.keep_in.Goals as goal

pub returns : goal.returns
unfolding kept_outcome
returns c =
    let a = c.args in
    c.keep.ensures
    ∙ ap₂ (λ (v w : Verdict). which_kept v w (records a.e a.first.now) (records a.e a.second.now))
    c.check_own-one.ensures c.check_own-two.ensures
