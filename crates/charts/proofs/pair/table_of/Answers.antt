-- Each word by itself. Assumes nothing.
use mathlib.Core.Path.{refl, sym, ap, ◌∙◌}
use mathlib.Core.List.{List}
use Prim.Native.Nat.{ℕ, ◌<◌}
use lib.ListN.{length, length-set}
use native.Mathlib.Omega.{arith}
use borrow.Author.Count.{below_more, below_none}
use lib.Seq.{get_or-set_same, get_or-set_other}
use Rattle.bits.proofs.Lists.{list-of}
use Rattle.tables.specs.Cells.{cell_words}
use Rattle.charts.proofs.pair.table_of.Invariants.{word}
use Rattle.charts.proofs.pair.table_of.Goals as goal

pub loop-w-preserved : goal.loop-w-preserved
loop-w-preserved c =
    let q = c.loop-w in
    let l : q.w < length q.words = omega arith in (
      length-set q.words q.w c.d_word.result ∙ q.invariant.0,
      below_more _ _
          (λ j h. q.invariant.1 j h ∙ sym (get_or-set_other q.words q.w j c.d_word.result 0 (λ e. omega arith)))
          (sym (get_or-set_same q.words q.w c.d_word.result 0 l ∙ c.d_word.ensures)),
    )

pub loop-w-init : goal.loop-w-init
loop-w-init c = (refl, below_none _)

pub returns : goal.returns
returns c =
    let a = c.args in
    ap (λ (ws : List ℕ). record { words = ws })
    (sym (list-of cell_words (word a.t.now a.s a.which) c.loop-w.words 0 c.loop-w.invariant.0
    (λ j h. c.loop-w.invariant.1 j (omega arith))))
