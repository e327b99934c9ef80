-- The loop keeps that the first i bytes are those of the table over the inputs, and within a word w is that word.
-- Assumes nothing.
use mathlib.Core.Path.{◌≡◌, refl, ap, ◌∙◌}
use mathlib.Core.Bool.{Bool}
use mathlib.Core.List.{List, ◌++◌}
use Prim.Native.Nat.{ℕ, ◌+◌, ◌*◌, ◌/◌, ◌≤◌}
use native.Mathlib.Nat.{zero-add}
use native.Mathlib.Omega.{arith}
use lib.ListN.{length, take, drop}
use lib.Pow.{pow_pos}
use lib.Seq.{length-take-le}
use Rattle.bits.specs.Numbers.{bit, number}
use Rattle.bits.specs.Sets.{spread}
use Rattle.bits.proofs.Filling.{filled_none, filled_more, filled_whole}
use Rattle.bits.proofs.Numbers.{bit-zero, number_ext}
use Rattle.tables.specs.Table.{table_bit}
use Rattle.tables.proofs.aside.pack.Invariants.{over}
use Rattle.tables.proofs.aside.pack.Goals as goal
use Rattle.tables.proofs.aside.pack.Goals.{then-i-eq0, else-i-eq0}

-- the part of the room that is written
part : (len : ℕ) (room : List ℕ) → len ≤ length room → length (take len room) ≡ len
part len room h = length-take-le len room h

pub word_over-w-requires : goal.word_over-w-requires
word_over-w-requires c = (
  c.requires.0,
  c.requires.1,
  c.requires.2,
  pow_pos c.args.n,
  λ j l e. bit-zero j,
  omega
      (arith, c.requires.3, c.loop-i-test.true),
)

pub loop-i-preserved : goal.loop-i-preserved
loop-i-preserved c =
    let a = c.args in
    let i = c.loop-i.i in
    let F : ℕ → Bool = over a.t.now a.n a.mask in
    let s = part a.len a.room.now (omega arith) in
    let w : c.if-i-eq0.w ≡ number 64 (λ j. F (64 * (i / 8) + j)) =
    elim c.if-i-eq0.branch [
      | then-i-eq0 u ↦ u.w-is ∙ u.word_over-w.ensures ∙ number_ext 64 _ (λ j. F (64 * (i / 8) + j))
          (λ j l. ap (table_bit a.t.now) (zero-add (spread a.n (bit a.mask) (64 * (i / 8) + j))))
      | else-i-eq0 u ↦ u.w-is ∙ c.loop-i.invariant.1 u.if-i-eq0.false
    ] in (
      filled_more c.loop-i.invariant.0 (omega (arith, s)) (omega arith) (c.byte_in.ensures F w),
      λ h. let e : i / 8 ≡ (i + 1) / 8 = omega arith in w ∙ ap (λ (k : ℕ). number 64 (λ j. F (64 * k + j))) e,
    )

pub loop-i-init : goal.loop-i-init
loop-i-init c = (filled_none (omega (arith, part c.args.len c.args.room.now (omega arith))), λ h. absurd (h refl))

pub overflow_cast-i : goal.overflow_cast-i
overflow_cast-i c = omega (arith, c.requires.3)

pub returns : goal.returns
returns c =
    let a = c.args in
    let s = part a.len a.room.now (omega arith) in
    ap (λ (l : List ℕ). l ++ drop a.len a.room.now)
    (filled_whole c.loop-i.invariant.0 (omega (arith, s)) (omega (arith, s)))
