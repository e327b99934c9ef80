-- `once_read` meets its contract. The loop's invariant: the records before i are each read once. Assumes nothing.
use mathlib.Core.Path.{◌≡◌, sym, ap, ◌∙◌}
use Prim.Native.Nat.{ℕ, ◌-◌}
use native.Mathlib.Omega.{arith}
use lib.Dec.{eqb}
use lib.ListN.{length}
use borrow.Author.Tests.{eq-eqb, ne_eqb}
use Rattle.bits.specs.Below.{every}
use Rattle.bits.proofs.Below.{every_stop, every_more}
use Rattle.sheets.specs.Sheet.{sheet_cells}
use Rattle.sheets.proofs.Wiring.{cells_length}
use Rattle.printing.proofs.printed.once_read.Invariants.{once}
use Rattle.printing.proofs.printed.once_read.Goals as goal

pub reads_in-requires : goal.reads_in-requires
reads_in-requires c = c.requires.edition

pub returns-then-reads_in-ne1 : goal.returns-then-reads_in-ne1
returns-then-reads_in-ne1 c =
    let a = c.args in
    let cs = sheet_cells a.e a.s.now a.m in
    sym (every_stop (length cs - 1) (once a.e a.n a.s.now a.m) c.loop-i.i
    (omega (arith, cells_length a.e a.s.now 0 a.m))
    (ap (λ (k : ℕ). eqb k 1) (sym c.reads_in.ensures)
    ∙ ne_eqb c.reads_in.result 1 c.if-reads_in-ne1.true))

pub loop-i-preserved : goal.loop-i-preserved
loop-i-preserved c =
    let a = c.args in
    every_more c.loop-i.i (once a.e a.n a.s.now a.m) c.loop-i.invariant
    (ap (λ (k : ℕ). eqb k 1) (sym c.reads_in.ensures)
    ∙ eq-eqb c.reads_in.result 1 c.if-reads_in-ne1.false)

pub returns : goal.returns
returns c =
    let a = c.args in
    let e : c.loop-i.i ≡ length (sheet_cells a.e a.s.now a.m) - 1 = omega
    (arith, cells_length a.e a.s.now 0 a.m) in
    sym c.loop-i.invariant ∙ ap (λ (k : ℕ). every k (once a.e a.n a.s.now a.m)) e
