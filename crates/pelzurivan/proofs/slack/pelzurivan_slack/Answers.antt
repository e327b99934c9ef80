-- `pelzurivan_slack` meets its contract: the number and the values are those of the call's outcome. Assumes nothing.
use mathlib.Core.Path.{ap, ap₂, ◌∙◌}
use mir.Facts.{to_z-of_z}
use Rattle.sheets.specs.Edition.{first_edition}
use Rattle.settling.specs.Slack.{slack_own}
use Rattle.pelzurivan.specs.Slack.{slack_c}
use Rattle.pelzurivan.proofs.slack.pelzurivan_slack.Goals as goal

pub returns : goal.returns
returns c =
    let a = c.args in
    rw c.from.ensures (ap slack_c (c.slack.ensures
    ∙ ap₂ (slack_own first_edition a.n a.s.now a.delay) c.input_times.ensures (to_z-of_z c.ranges.deadline)))
