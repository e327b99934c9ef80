-- `pelzurivan_settle` meets its contract: the number and the values are those of the call's outcome. Assumes nothing.
use mathlib.Core.Path.{ap, ◌∙◌}
use mathlib.Core.List.{List}
use Rattle.sheets.specs.Edition.{first_edition}
use Rattle.times.specs.declared.input_time.InputTime.{InputTime}
use Rattle.settling.specs.Settle.{settle_own}
use Rattle.pelzurivan.specs.Settle.{settled_c}
use Rattle.pelzurivan.proofs.settle.pelzurivan_settle.Goals as goal

pub returns : goal.returns
returns c =
    let a = c.args in
    rw c.from.ensures (ap settled_c c.settle.ensures)
    ∙ ap (λ (ts : List InputTime). settled_c (settle_own first_edition a.n a.s.now a.delay ts))
    c.input_times.ensures
