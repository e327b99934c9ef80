-- The loop keeps that the two columns agree in the first v words. Assumes nothing.
use mathlib.Core.Path.{sym}
use Prim.Native.Nat.{ℕ, ◌+◌, ◌^◌, ◌<◌}
use native.Mathlib.Omega.{arith}
use borrow.Author.Count.{below_more, below_none}
use Rattle.bits.proofs.Bools.{false_of}
use Rattle.bits.proofs.Masks.{mask_most}
use Rattle.bits.proofs.Walking.{Walked, walked_none, walked_more, walked_lt, walked_end}
use Rattle.tables.specs.Table.{table_bit}
use Rattle.columns.specs.declared.split.Split.{Split}
use Rattle.columns.specs.ByWords.{high_part}
use Rattle.columns.specs.Reading.{Without}
use Rattle.columns.proofs.Reading.{held, free_lt}
use Rattle.tables.proofs.Pieces.{word_at}
use Rattle.columns.proofs.ByWords.{alike_even, even_alike, word_lt, equal_even, even_equal}
use Rattle.columns.proofs.columns.same_column.Goals as goal

-- the word from a place on lies in the table
there : (s : Split) {x f v : ℕ} → Without s.n s.free x → Walked s.n (high_part s.free) s.words f v
    → x + f < 2 ^ s.n
there s {x} h w = word_lt s.n s.free (free_lt s (held s)) w h

pub loop-v-init : goal.loop-v-init
loop-v-init c = let h = c.args.s in (walked_none h.most h.words_are, below_none _)

pub overflow_add-x : goal.overflow_add-x
overflow_add-x c =
    let h = c.requires.starts in omega (arith, there c.args.s h.0 c.loop-v.invariant.0, mask_most c.args.s.most)

pub bits_from-requires : goal.bits_from-requires
bits_from-requires c =
    let h = c.requires.starts in
    word_at c.args.s.n c.args.t.now _ c.requires.n_bound (there c.args.s h.0 c.loop-v.invariant.0)

pub overflow_add-y : goal.overflow_add-y
overflow_add-y c =
    let h = c.requires.starts in omega (arith, there c.args.s h.1 c.loop-v.invariant.0, mask_most c.args.s.most)

pub bits_from-requires-in-loop-v : goal.bits_from-requires-in-loop-v
bits_from-requires-in-loop-v c =
    let h = c.requires.starts in
    word_at c.args.s.n c.args.t.now _ c.requires.n_bound (there c.args.s h.1 c.loop-v.invariant.0)

pub next-f-requires : goal.next-f-requires
next-f-requires c =
    let h = held c.args.s in
    (h.most, omega (arith, free_lt c.args.s h), walked_lt c.loop-v.invariant.0)

pub returns-then-bits_from-s : goal.returns-then-bits_from-s
returns-then-bits_from-s c =
    let a = c.args in
    let h = c.requires.starts in
    let l = free_lt a.s (held a.s) in
    sym (false_of _ (λ e. c.if-bits_from-s.true
    (even_equal a.s.n a.s.free l c.loop-v.invariant.0 (table_bit a.t.now) _ _ h.0 h.1 a.s.low_is
    c.bits_from.ensures c.bits_from-in-loop-v.ensures (alike_even a.s.n a.s.free l (table_bit a.t.now) a.x a.y e _))))

pub loop-v-preserved : goal.loop-v-preserved
loop-v-preserved c =
    let a = c.args in
    let h = c.requires.starts in (
      walked_more c.loop-v.invariant.0 (omega arith) c.next-f.ensures.1,
      below_more _ _ c.loop-v.invariant.1
          (equal_even a.s.n a.s.free (free_lt a.s (held a.s)) c.loop-v.invariant.0 (table_bit a.t.now) _ _ h.0 h.1
          a.s.low_is c.bits_from.ensures c.bits_from-in-loop-v.ensures c.if-bits_from-s.false),
    )

pub returns : goal.returns
returns c =
    let i = c.loop-v.invariant in
    let s = c.args.s in
    sym (even_alike s.n s.free (free_lt s (held c.args.s)) (table_bit c.args.t.now) c.args.x c.args.y
    (λ u l. i.1 u (omega (arith, walked_end i.0 (omega arith)))))
