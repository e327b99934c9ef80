-- `all_plain` meets its contract. The loop's invariant: the records from i on decide. Assumes nothing.
use mathlib.Core.Path.{◌≡◌, sym, ap, ◌∙◌}
use mathlib.Core.Bool.{true, false}
use mathlib.Core.List.{List}
use Prim.Native.Nat.{ℕ}
use native.Mathlib.Omega.{arith}
use lib.ListN.{length}
use Rattle.sheets.specs.Record.{byte_at, cell_of}
use Rattle.sheets.proofs.Places.{record_within, record_length}
use Rattle.printing.specs.Printable.{plain_cell, all_plain}
use Rattle.printing.proofs.Cells.{cells_all, plain_stops, plain_goes, plain_ends}
use Rattle.printing.proofs.printed.all_plain.Goals as goal

pub loop-i-init : goal.loop-i-init
loop-i-init c = let a = c.args in ap all_plain (cells_all a.e a.s.now a.m)

pub record_of-requires : goal.record_of-requires
record_of-requires c =
    let a = c.args in (
      c.requires.0,
      omega (arith, c.requires.1),
      record_within a.e.size c.loop-i.i a.m (length a.s.now) (omega arith) c.requires.2,
    )

pub plain-requires : goal.plain-requires
plain-requires c =
    let a = c.args in
    let i = c.loop-i.i in (
      c.requires.0,
      ap length c.record_of.ensures
          ∙ record_length a.e a.s.now i (record_within a.e.size i a.m (length a.s.now) (omega arith)
          c.requires.2),
    )

pub returns-then-not-plain : goal.returns-then-not-plain
returns-then-not-plain c =
    let a = c.args in
    let bad : c.plain.result ≡ false = c.if-not-plain.true in
    plain_stops a.e a.s.now c.loop-i.i a.m _ c.loop-i.invariant (omega arith)
    (sym (c.plain.ensures ∙ ap (λ (r : List ℕ). plain_cell (cell_of a.e (byte_at r))) c.record_of.ensures)
    ∙ bad)

pub loop-i-preserved : goal.loop-i-preserved
loop-i-preserved c =
    let a = c.args in
    let is : c.plain.result ≡ true = c.if-not-plain.false in
    plain_goes a.e a.s.now c.loop-i.i a.m _ c.loop-i.invariant (omega arith)
    (sym (c.plain.ensures ∙ ap (λ (r : List ℕ). plain_cell (cell_of a.e (byte_at r)))
    c.record_of.ensures) ∙ is)

pub returns : goal.returns
returns c =
    let a = c.args in
    plain_ends a.e a.s.now c.loop-i.i a.m _ c.loop-i.invariant (omega arith)
