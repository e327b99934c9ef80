-- `Sheet::empty` meets its contract: the empty cell, over and over, and a count of 0. Assumes nothing.
use mathlib.Core.Path.{refl, ap}
use lib.ListN.{replicate}
use Rattle.sheets.specs.declared.kinds.HeldCell.{HeldCell}
use Rattle.sheets.specs.declared.kinds.Sheet.{Sheet}
use Rattle.sheets.specs.Edition.{most_records}
use Rattle.bits.specs.Lists.{list_of}
use Rattle.sheets.proofs.kinds.Sheet.empty.Goals as goal

abbrev full : HeldCell → Sheet
full a = record { cells = replicate most_records a; count = 0 }

pub returns : goal.returns
unfolding list_of
returns c = (ap (λ (a : HeldCell). full a) c.empty-none.ensures, refl)
