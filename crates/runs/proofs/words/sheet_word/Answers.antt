-- `sheet_word` meets its contract. The loop's invariant: at each of the 64 assignments that there are, what is left
-- to run gives the sheet's bit. Assumes nothing.
use mathlib.Core.Path.{refl, sym, ap, subst, ◌∙◌}
use mathlib.Core.Bool.{Bool}
use mathlib.Core.List.{List}
use Prim.Native.Nat.{ℕ, ◌+◌, ◌*◌}
use native.Mathlib.Omega.{arith}
use lib.ListN.{set, length-set}
use Rattle.bits.specs.Numbers.{bit}
use Rattle.bits.proofs.Numbers.{bit-zero}
use Rattle.sheets.specs.Network.{output}
use Rattle.sheets.specs.Record.{byte_at, cell_of}
use Rattle.sheets.specs.Sheet.{sheet_bit}
use Rattle.runs.specs.Words.{lane}
use Rattle.runs.proofs.Runs.{record_read, Ran, ran_none, ran_more, ran_all}
use Rattle.runs.proofs.Choosing.{lane-set, first_of}
use Rattle.runs.proofs.words.sheet_word.Goals as goal

pub loop-i-init : goal.loop-i-init
loop-i-init c =
    let i = c.inputs-words in
    let a = c.args in (
      i.ensures.0,
      refl,
      λ j l h.
          subst (λ (b : Bool). Ran a.e a.s.now a.m (sheet_bit a.e a.n a.s.now a.m (64 * a.w + j))
          a.n 0 b (lane i.result j)) (sym (bit-zero j))
          (ran_none a.e a.s.now a.m a.n (64 * a.w + j) (lane i.result j) (λ s. i.ensures.1 j s l h)),
    )

pub cell_word-o-requires : goal.cell_word-o-requires
cell_word-o-requires c =
    let a = c.args in
    let r = record_read a.e c.requires.edition.0 a.s.now a.m c.loop-i.i
    c.record_of.result.now (omega arith) c.requires.edition.3 c.requires.edition.4
    c.record_of.ensures in
    (r, omega arith, omega arith)

pub loop-i-preserved : goal.loop-i-preserved
loop-i-preserved c =
    let a = c.args in
    let i = c.loop-i.i in
    let r = c.cell_word-o.result in (
      length-set c.loop-i.words (a.n + i) r ∙ c.loop-i.invariant.0,
      c.cell_word-o.auto.v ∙ c.loop-i.invariant.1,
      λ j l h.
          ran_more a.e a.s.now a.m (sheet_bit a.e a.n a.s.now a.m (64 * a.w + j)) a.n i
          (bit c.loop-i.o j) (bit r j)
          (lane c.loop-i.words j) (lane (set c.loop-i.words (a.n + i) r) j) (omega arith)
          (c.cell_word-o.ensures j l ∙ ap (λ (b : List ℕ). output (cell_of a.e (byte_at b))
          (lane c.loop-i.words j)) c.record_of.ensures)
          (λ h. lane-set c.loop-i.words (a.n + i) r j h (omega arith)) (c.loop-i.invariant.2 j l h),
    )

pub returns : goal.returns
returns c =
    let a = c.args in
    let F = sheet_bit a.e a.n a.s.now a.m in
    c.first_bits.ensures
    ∙ first_of a.n a.w c.loop-i.o F c.requires.w_bound
    (λ j l h. ran_all a.e a.s.now a.m (F (64 * a.w + j)) a.n c.loop-i.i (bit c.loop-i.o j)
    (lane c.loop-i.words j) (omega arith) (c.loop-i.invariant.2 j l h))
