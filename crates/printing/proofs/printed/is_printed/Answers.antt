-- `is_printed` meets its contract. Assumes nothing.
use mathlib.Core.Path.{sym, ◌∙◌}
use Rattle.printing.proofs.Printing.{plain_all}
use Rattle.printing.proofs.printed.is_printed.Goals as goal

pub once_read-requires-clause-edition : goal.once_read-requires-clause-edition
once_read-requires-clause-edition c =
    let a = c.args in (
      c.requires.0,
      c.requires.1,
      c.requires.2,
      plain_all a.e a.s.now a.m 0 (sym c.all_plain.ensures ∙ c.if-all_plain.true),
    )
