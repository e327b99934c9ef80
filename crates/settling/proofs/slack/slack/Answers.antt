-- `slack` meets its contract: the edition handed down is the first, and the desk the sheet's own. Assumes nothing.
use mathlib.Core.Path.{sym, ap, ap₂, ◌∙◌, subst}
use Prim.Native.Nat.{ℕ}
use lib.IntN.{ℤ}
use mir.Facts.{to_z-of_z}
use Rattle.sheets.specs.declared.kinds.Edition.{Edition}
use Rattle.sheets.specs.Edition.{IsEdition}
use Rattle.sheets.proofs.Keeping.{first_edition_lem}
use Rattle.settling.specs.Slack.{slack_outcome, slack_own}
use Rattle.settling.proofs.slack.slack.Goals as goal

pub returns : goal.returns
returns c =
    let a = c.args in
    c.slack_in.ensures
    ∙ ap₂ (λ (d : ℕ) (z : ℤ). slack_outcome c.first-e.result d a.n a.s.now a.delay a.times z)
    c.desk_of.ensures (to_z-of_z c.ranges.deadline)
    ∙ ap (λ (e : Edition). slack_own e a.n a.s.now a.delay a.times a.deadline) c.first-e.ensures

pub desk_of-requires : goal.desk_of-requires
desk_of-requires c = subst IsEdition (sym c.first-e.ensures) first_edition_lem

pub slack_in-requires : goal.slack_in-requires
slack_in-requires c = subst IsEdition (sym c.first-e.ensures) first_edition_lem
