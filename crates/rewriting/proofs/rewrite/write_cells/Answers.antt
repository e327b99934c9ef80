-- `write_cells` meets its contract. The loop's invariant: the records passed are written again, and the bytes after
-- them stay. Assumes nothing.
use mathlib.Core.Path.{◌≡◌, refl, sym, ap, ap₂, ◌∙◌}
use mathlib.Core.List.{List, ◌++◌}
use Prim.Native.Nat.{ℕ, ◌+◌, ◌*◌}
use native.Mathlib.Omega.{arith}
use lib.ListN.{length, drop}
use Rattle.sheets.specs.Network.{Cell}
use Rattle.sheets.specs.Record.{byte_at, cell_of}
use Rattle.sheets.specs.Sheet.{record_at, cells_from, sheet_cells}
use Rattle.sheets.specs.Writing.{encode, laid, sheet_bytes}
use Rattle.sheets.proofs.Places.{record_within}
use Rattle.sheets.proofs.Wholes.{laid_next}
use Rattle.sheets.proofs.Wiring.{cells_length}
use Rattle.runs.proofs.Runs.{record_read}
use Rattle.rewriting.specs.Rewrite.{rewritten}
use Rattle.rewriting.proofs.Holding.{cells_more}
use Rattle.rewriting.proofs.rewrite.write_cells.Goals as goal

pub loop-i-init : goal.loop-i-init
unfolding cells_from
loop-i-init c =
    let a = c.args in
    let z : 0 ≡ a.f.size * 0 = omega arith in
    (refl, ap (λ (k : ℕ). drop k a.room.now) z)

pub record_of-requires : goal.record_of-requires
record_of-requires c =
    let a = c.args in (
      c.requires.edition.0,
      omega arith,
      record_within a.e.size c.loop-i.i a.m (length a.s.now) (omega arith) c.requires.edition.2,
    )

pub cell_of-requires : goal.cell_of-requires
cell_of-requires c =
    let a = c.args in
    let p = c.requires.edition in
    record_read a.e p.0 a.s.now a.m c.loop-i.i _ (omega arith) p.2 p.3
    c.record_of.ensures

pub put-requires : goal.put-requires
put-requires c =
    let i = c.loop-i.i in
    let a = c.args in (
      c.requires.edition_2.0,
      omega (arith, c.cell_of.ensures.0, c.requires.edition_2.1),
      omega arith,
      omega (arith, record_within a.f.size i a.m (length a.room.now) (omega arith) c.requires.edition_2.2),
    )

pub loop-i-preserved : goal.loop-i-preserved
loop-i-preserved c =
    let a = c.args in
    let i = c.loop-i.i in
    let cs = sheet_cells a.e a.s.now i in
    let x = cell_of a.e (record_at a.e a.s.now i) in (
      c.put.auto.sheet ∙ c.loop-i.invariant.0,
      c.put.ensures
          ∙ ap₂ (λ (l : List ℕ) (x : Cell). laid l (a.f.size * i) (encode a.f a.d x)) c.loop-i.invariant.1
          (c.cell_of.ensures.1 ∙ ap (λ (b : List ℕ). cell_of a.e (byte_at b)) c.record_of.ensures)
          ∙ laid_next a.f a.d cs x a.room.now i (cells_length a.e a.s.now 0 i)
          ∙ ap (λ (cs : List Cell). sheet_bytes a.f a.d cs ++ drop (a.f.size * (i + 1)) a.room.now)
          (sym (cells_more a.e a.s.now i)),
    )

pub returns : goal.returns
returns c =
    let a = c.args in
    let f : c.loop-i.i ≡ a.m = omega arith in
    c.loop-i.invariant.1 ∙ ap (λ (k : ℕ). rewritten a.e a.f a.d a.s.now k
    ++ drop (a.f.size * k) a.room.now) f
