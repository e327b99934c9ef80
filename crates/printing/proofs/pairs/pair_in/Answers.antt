-- `pair_in` meets its contract. Assumes nothing.
use mathlib.Core.Path.{◌≡◌, refl, sym, subst}
use Prim.Native.Nat.{ℕ, ◌%◌, ◌<◌}
use native.Mathlib.Omega.{arith}
use Rattle.sheets.specs.declared.kinds.Edition.{Edition}
use Rattle.sheets.specs.Record.{cell_of}
use Rattle.printing.specs.Forms.{mark_of}
use Rattle.printing.specs.Printable.{Plain}
use Rattle.printing.proofs.Cells.{one_cell, two-cell, is_two}
use Rattle.printing.proofs.Forms.{depends_mark}
use Rattle.printing.proofs.pairs.pair_in.Goals as goal

pub returns-then-b-eq1 : goal.returns-then-b-eq1
returns-then-b-eq1 c = (sym (one_cell _ _ c.if-b-eq1.true), omega arith)

-- a table that depends on both signals has a mark
marked : (e : Edition) (b : ℕ → ℕ) → Plain (cell_of e b) → b 0 ≡ 2 → 0 < mark_of (b e.start % 16)
marked e b p q =
    let r = subst Plain (two-cell e b q) p in
    depends_mark (b e.start % 16) (omega arith) (r.both refl)

pub returns : goal.returns
returns c =
    let two = is_two _ _ c.requires.2 c.if-b-eq1.false in
    (sym (two-cell _ _ two), (omega arith, marked _ _ c.requires.2 two))
