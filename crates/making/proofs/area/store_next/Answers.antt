-- Each loop writes past the first half alone, so the table at hand stays as it was; within a word w is that word.
-- Assumes nothing.
use mathlib.Core.Path.{◌≡◌, refl, sym, ap, ◌∙◌, subst}
use mathlib.Core.Bool.{Bool, ◌&&◌}
use mathlib.Core.List.{List}
use Prim.Native.Nat.{ℕ, ◌+◌, ◌*◌, ◌/◌, ◌^◌}
use native.Mathlib.Omega.{arith}
use lib.Dec.{ltb}
use lib.ListN.{take}
use lib.Pow.{pow_mono}
use Rattle.bits.specs.Numbers.{bit, number}
use Rattle.tables.specs.Table.{table_bit, byte_of}
use Rattle.tables.specs.Words.{gate_word}
use Rattle.bits.proofs.Filling.{filled_none, filled_more, filled_front}
use Rattle.columns.proofs.Reading.{held, free_lt}
use Rattle.columns.specs.declared.split.Split.{Split}
use Rattle.splits.specs.Columns.{most_first}
use Rattle.splits.specs.Pair.{bit_h, inputs_h}
use Rattle.columns.specs.Reading.{Chart}
use Rattle.making.specs.Area.{next_bit, next_inputs}
use Rattle.tables.specs.Work.{half}
use Rattle.charts.proofs.Charting.{power}
use Rattle.making.proofs.Halves.{half_whole}
use Rattle.making.proofs.area.store_next.Goals as goal
use Rattle.making.proofs.area.store_next.Goals.{then-i-eq0, else-i-eq0}

pub parts-requires : goal.parts-requires
parts-requires c = let s = c.args.s in (s.most, free_lt s (held s))

-- ---- by words

pub slice_bounds-h_word-end-then-i-eq0 : goal.slice_bounds-h_word-end-then-i-eq0
slice_bounds-h_word-end-then-i-eq0 c =
    sym (half_whole c.loop-i.work (omega (arith, c.requires.1, c.loop-i.invariant.0.long)))

-- H's bit, spare bits zero
abbrev bits : Split → ℕ → List ℕ → ℕ → Bool
bits s r work x = ltb x (2 ^ next_inputs s r work) && next_bit s work x

pub h_word-w-requires : goal.h_word-w-requires
h_word-w-requires c =
    let p = c.requires in
    let s = c.args.s in
    let seen = c.args.seen.now in (
      omega (
        arith,
        half_whole c.loop-i.work (omega (arith, p.1, c.loop-i.invariant.0.long)),
        pow_mono {i = s.n} {j = 16} c.args.s.most,
      ),
      subst (λ (m : ℕ). Chart s (table_bit (take half c.loop-i.work)) m seen) (power p.3)
          (subst (λ (l : List ℕ). Chart s (table_bit l) (2 ^ c.args.r) seen) (sym (filled_front c.loop-i.invariant.0))
          p.2),
      omega (arith, c.if-s-eq0.true),
      omega (arith, c.if-parts-ge64.true, c.parts.ensures.0),
    )

pub loop-i-init : goal.loop-i-init
loop-i-init c = let p = c.requires in (filled_none (omega (arith, p.0, p.1)), λ h. absurd (h refl))

pub loop-i-preserved : goal.loop-i-preserved
loop-i-preserved c =
    let q = c.loop-i in
    let a = c.args in
    let i = q.i in
    let s = a.s in
    let F = bits s a.r a.work.now in
    let word : c.if-i-eq0.w ≡ number 64 (λ j. F (64 * (i / 8) + j)) =
    elim c.if-i-eq0.branch [
      | then-i-eq0 u ↦ u.w-is ∙ u.h_word-w.ensures a.r (sym (power c.requires.3))
          ∙ ap (λ (t : List ℕ). gate_word (inputs_h s.n (table_bit t) (bit s.own) (bit s.shared) a.r)
          (bit_h s.n (table_bit t) (bit s.own) (bit s.shared)) (i / 8)) (filled_front q.invariant.0)
      | else-i-eq0 u ↦ u.w-is ∙ q.invariant.1 u.if-i-eq0.false
    ] in (
      filled_more q.invariant.0 (omega arith) refl (c.byte_in.ensures F word),
      λ h. let e : i / 8 ≡ (i + 1) / 8 = omega arith in word ∙ ap (λ (k : ℕ). number 64 (λ j. F (64 * k + j))) e,
    )

pub returns-then-parts-ge64 : goal.returns-then-parts-ge64
returns-then-parts-ge64 c =
    let q = c.loop-i in record
    { long = q.invariant.0.long; same = filled_front q.invariant.0; bytes = λ k l. q.invariant.0.new k (omega arith) }

-- ---- byte by byte

pub slice_bounds-h_byte-end-in-loop-j : goal.slice_bounds-h_byte-end-in-loop-j
slice_bounds-h_byte-end-in-loop-j c =
    sym (half_whole c.loop-j.work (omega (arith, c.requires.1, c.loop-j.invariant.long)))

pub h_byte-requires : goal.h_byte-requires
h_byte-requires c =
    let p = c.requires in
    let s = c.args.s in
    let seen = c.args.seen.now in
    let e = power p.3 in (
      omega (
        arith,
        half_whole c.loop-j.work (omega (arith, p.1, c.loop-j.invariant.long)),
        pow_mono {i = s.n} {j = 16} c.args.s.most,
      ),
      subst (λ (m : ℕ). Chart s (table_bit (take half c.loop-j.work)) m seen) e
          (subst (λ (l : List ℕ). Chart s (table_bit l) (2 ^ c.args.r) seen) (sym (filled_front c.loop-j.invariant))
          p.2),
      omega (arith, e, pow_mono {i = c.args.r} {j = most_first} p.3),
      omega (arith, p.0),
    )

pub loop-j-init : goal.loop-j-init
loop-j-init c = filled_none (omega (arith, c.requires.0, c.requires.1))

pub loop-j-preserved : goal.loop-j-preserved
loop-j-preserved c =
    let s = c.args.s in
    let r = c.args.r in
    let q = c.loop-j in
    filled_more q.invariant (omega arith) refl
    (c.h_byte.ensures r (sym (power c.requires.3))
    ∙ ap (λ (t : List ℕ). byte_of (inputs_h s.n (table_bit t) (bit s.own) (bit s.shared) r)
    (bit_h s.n (table_bit t) (bit s.own) (bit s.shared)) q.j) (filled_front q.invariant))

pub returns : goal.returns
returns c =
    let q = c.loop-j in record
    { long = q.invariant.long; same = filled_front q.invariant; bytes = λ k l. q.invariant.new k (omega arith) }
