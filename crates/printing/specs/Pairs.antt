-- The cell of a pair of signals, or of one.
use Rattle.std.specs.Prelude.{[], ◌∷◌, ◌<◌}
use Rattle.sheets.specs.Network.{Cell}
use Rattle.printing.specs.declared.pairs.PlainCell.{PlainCell}
use Rattle.printing.specs.declared.pairs.PlainCell.TheVariants.{One, Two}
use Rattle.printing.specs.Forms.{mark_of}

-- the cell of two signals, or of one
abbrev pub pair_cell : PlainCell → Cell
pair_cell (One signal table) = record { signals = signal ∷ []; table = table }
pair_cell (Two low high table) = record { signals = low ∷ high ∷ []; table = table }

-- its table is one of its signals, and of two it has a form
abbrev pub Formed : PlainCell → Type 0
Formed (One signal table) = table < 4
Formed (Two low high table) = (table < 16) × (0 < mark_of table)
