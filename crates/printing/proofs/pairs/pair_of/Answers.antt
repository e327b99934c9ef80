-- `pair_of` meets its contract. Assumes nothing.
use mathlib.Core.Path.{sym, ap, ◌∙◌, subst}
use mathlib.Core.List.{List}
use Prim.Native.Nat.{ℕ}
use lib.ListN.{length}
use Rattle.sheets.specs.Record.{byte_at, cell_of}
use Rattle.sheets.proofs.Places.{record_length}
use Rattle.printing.specs.Printable.{Plain}
use Rattle.printing.proofs.pairs.pair_of.Goals as goal

pub pair_in-requires : goal.pair_in-requires
pair_in-requires c =
    let a = c.args in
    let r = c.record_of.ensures in (
      c.requires.0,
      ap length r ∙ record_length a.e a.s.now a.i c.requires.2,
      subst
          (λ (l : List ℕ). Plain (cell_of a.e (byte_at l))) (sym r) c.requires.3,
    )

pub returns : goal.returns
returns c =
    let r = c.record_of.ensures in
    let a = c.args in
    (c.pair_in.ensures.0 ∙ ap (λ (l : List ℕ). cell_of a.e (byte_at l)) r, c.pair_in.ensures.1)
