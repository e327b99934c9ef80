-- The part's word, cut where the part is shorter. Assumes nothing.
use mathlib.Core.Path.{◌≡◌, sym, ap, ◌∙◌, subst}
use Prim.Native.Nat.{ℕ, ◌+◌, ◌*◌, ◌%◌, ◌^◌, ◌<◌, ◌≤◌}
use native.Mathlib.Nat.{mod-eq_of_lt}
use native.Mathlib.Omega.{arith}
use lib.Pow.{pow_mono, pow_pos}
use Rattle.bits.specs.Numbers.{bit}
use Rattle.bits.proofs.Machine.{shl_one}
use Rattle.tables.specs.Table.{table_bit}
use Rattle.selectors.specs.Standing.{part_bit}
use Rattle.selectors.proofs.Parts.{past_part, whole_word, part-word}
use Rattle.selectors.proofs.cofactor.part_word.Reads as reads
use Rattle.selectors.proofs.cofactor.part_word.Lts as lts
use Rattle.selectors.proofs.cofactor.part_word.Lts as lts
use Rattle.selectors.proofs.cofactor.part_word.Reads as reads
use Rattle.selectors.proofs.cofactor.part_word.Tie as tie
use Rattle.selectors.proofs.cofactor.part_word.Goals as goal

-- the end, as the machine has it
module _ (k : ℕ) (h : k ≤ 8) where
  ends : 1 * 2 ^ k % 2 ^ 32 ≡ 2 ^ k
  ends = shl_one 32 k (omega arith)

  starts : (v : ℕ) → v * 2 ^ k + 2 ^ k ≤ 2 ^ 16 → v * 2 ^ k % 2 ^ 32 ≡ v * 2 ^ k
  starts v g = mod-eq_of_lt (omega arith)

pub returns-then-end-w : goal.returns-then-end-w
returns-then-end-w c =
    let a = c.args in
    sym (past_part a.k a.w (part_bit a.t.now a.k a.v) (omega (arith, ends a.k c.requires.0, c.if-end-w.true)))

pub overflow_add-v : goal.overflow_add-v
overflow_add-v c =
    let a = c.args in
    omega (arith, starts a.k c.requires.0 a.v c.requires.1)

pub bits_from-word-requires : goal.bits_from-word-requires
bits_from-word-requires c =
    let a = c.args in
    let e = ends a.k c.requires.0 in
    let s = starts a.k c.requires.0 a.v c.requires.1 in
    record { long = λ _. omega (arith, e, s, c.if-end-w.false, c.requires.2); short = λ h. absurd (omega (arith, c.requires.2)) }

module _ (c : lts.After-bits_from tie.the-claims reads.Pre reads.Post) where
  abbrev g : lts.Start tie.the-claims reads.Pre reads.Post
  g = c.before.before.before

  inside : 64 * g.args.w < 2 ^ g.args.k
  inside = omega (arith, ends g.args.k g.requires.0, c.if-end-w.false)

  bits : (j : ℕ) → (g.args.v * 2 ^ g.args.k + 64 * g.args.w) % 64 + j < 64
      → bit c.bits_from-word.result j ≡ table_bit g.args.t.now (g.args.v * 2 ^ g.args.k + 64 * g.args.w + j)
  bits j h =
      let a = g.args in
      let s = starts a.k g.requires.0 a.v g.requires.1 in
      c.bits_from-word.ensures j (subst (λ (x : ℕ). (x + 64 * a.w) % 64 + j < 64) (sym s) h)
      ∙ ap (λ (x : ℕ). table_bit a.t.now (x + 64 * a.w + j)) s

pub returns-then-k-ge6 : goal.returns-then-k-ge6
returns-then-k-ge6 c =
    let a = (g c.before.before).args in
    whole_word a.t.now a.k a.v a.w c.bits_from-word.result (inside c.before.before) (omega arith) (bits c.before.before)
    (omega (arith, c.if-k-ge6.true))

module _ (c : lts.Else2 tie.the-claims reads.Pre reads.Post) where
  abbrev b : lts.After-bits_from tie.the-claims reads.Pre reads.Post
  b = c.before

  few : 2 ^ (g b).args.k ≤ 32
  few = pow_mono {i = (g b).args.k} {j = 5} (omega (arith, c.if-k-ge6.false))

  cut : 1 * 2 ^ (1 * 2 ^ (g b).args.k % 2 ^ 32) % 2 ^ 64 ≡ 2 ^ (2 ^ (g b).args.k)
  cut =
      let e = ends (g b).args.k (g b).requires.0 in
      shl_one 64 (1 * 2 ^ (g b).args.k % 2 ^ 32) (omega (arith, e, few)) ∙ ap (λ (x : ℕ). 2 ^ x) e

pub overflow_shl-result : goal.overflow_shl-result
overflow_shl-result c =
    omega (arith, ends (g c.before.before).args.k (g c.before.before).requires.0, few c.before)

pub nonzero_rem-result : goal.nonzero_rem-result
nonzero_rem-result c = omega (arith, cut c.before, pow_pos (2 ^ (g c.before.before).args.k))

pub returns : goal.returns
returns c =
    let a = (g c.before.before).args in
    ap (λ (x : ℕ). c.bits_from-word.result % x) (cut c.before)
    ∙ part-word a.t.now a.k a.v a.w c.bits_from-word.result (inside c.before.before) (omega arith) (bits c.before.before)
    (omega (arith, c.if-k-ge6.false))
