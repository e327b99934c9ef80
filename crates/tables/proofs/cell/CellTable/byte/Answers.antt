-- A byte lies within one word. Assumes nothing.
use mathlib.Core.Path.{◌≡◌, ap, ◌∙◌}
use Prim.Native.Nat.{◌+◌, ◌*◌, ◌/◌, ◌^◌, ◌<◌}
use native.Mathlib.Omega.{arith}
use lib.ListN.{get_or}
use Rattle.bits.specs.Numbers.{bit}
use Rattle.bits.proofs.Numbers.{number_ext}
use Rattle.tables.specs.Cells.{cell_words, table_number}
use Rattle.tables.proofs.CellTables.{joined-word}
use Rattle.tables.proofs.cell.CellTable.byte.Goals as goal

pub returns : goal.returns
returns c =
    let a = c.args in
    let small : get_or a.self.words (a.i / 8) 0 < 2 ^ 64 = omega arith in
    c.byte_in.ensures (bit (table_number a.self)) (joined-word cell_words a.self.words (a.i / 8) (omega arith) small)
    ∙ number_ext 8 (λ j. bit (table_number a.self) (a.i * 8 + j)) (λ j. bit (table_number a.self) (8 * a.i + j))
    (λ j l. let e : a.i * 8 + j ≡ 8 * a.i + j = omega arith in ap (bit (table_number a.self)) e)
