-- The words of the table, as many as there is room for; those behind them stay 0. Assumes nothing.
use mathlib.Core.Path.{◌≡◌, ap, ◌∙◌}
use mathlib.Core.List.{List, ◌++◌}
use Prim.Native.Nat.{ℕ, ◌*◌, ◌-◌, ◌%◌, ◌^◌, ◌≤◌}
use native.Mathlib.Omega.{arith}
use lib.ListN.{length, take, drop, replicate}
use lib.Seq.{length-take-le}
use Rattle.bits.proofs.Filling.{filled_none, filled_more, filled_whole}
use Rattle.bits.proofs.Machine.{shl_one}
use Rattle.tables.specs.Table.{table_bit}
use Rattle.tables.proofs.CellTables.{words_padded}
use Rattle.tables.proofs.cell.CellTable.first_of.Goals as goal

-- as many words as the inputs from 6 on make
many : (k a : ℕ) → k ≤ 16 → a ≡ k - 6 → 1 * 2 ^ a % 2 ^ 64 ≡ 2 ^ (k - 6)
many k a h e = shl_one 64 a (omega (arith, e)) ∙ ap (λ (m : ℕ). 2 ^ m) e

-- the room for those of them that are held
room : (held : ℕ) → held ≤ 4 → length {A = ℕ} (take held (replicate 4 0)) ≡ held
room held h = length-take-le {A = ℕ} held (replicate 4 0) h

pub loop-w-init : goal.loop-w-init
loop-w-init c =
    let e = c.min-held.ensures in
    filled_none (omega (arith, e, room c.min-held.result (omega (arith, e))))

pub word_of-requires : goal.word_of-requires
word_of-requires c =
    let e = c.min-held.ensures in (
      c.requires.1,
      omega (arith, e, room c.min-held.result (omega (arith, e)), many c.args.k _ c.requires.0 c.above_words.ensures),
    )

pub loop-w-preserved : goal.loop-w-preserved
loop-w-preserved c =
    let e = c.min-held.ensures in
    let r = room c.min-held.result (omega (arith, e)) in
    filled_more c.loop-w.invariant (omega (arith, r)) (omega arith) c.word_of.ensures

pub returns : goal.returns
returns c =
    let a = c.args in
    let e = c.min-held.ensures in
    let h = c.min-held.result in
    let r = room h (omega (arith, e)) in
    ap (λ (l : List ℕ). record { words = l })
    (ap (λ (l : List ℕ). l ++ drop h (replicate 4 0))
    (filled_whole c.loop-w.invariant (omega (arith, r)) (omega (arith, r)))
    ∙ words_padded h 4 a.k (table_bit a.t.now) (omega (arith, e))
    (λ w g l. omega (arith, e, many a.k _ c.requires.0 c.above_words.ensures)))
