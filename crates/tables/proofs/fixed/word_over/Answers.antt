-- The loop keeps the first q pieces of the word, and what names the word of the next. Assumes nothing.
use mathlib.Core.Path.{◌≡◌, sym, ap, ◌∙◌, subst}
use mathlib.Core.Bool.{Bool}
use Prim.Native.Nat.{ℕ, ◌+◌, ◌*◌, ◌/◌, ◌%◌, ◌^◌, ◌<◌, ◌≤◌}
use native.Mathlib.Nat.{zero-mul, add-zero, mul_comm, mul-le-mul_right, div-le_self}
use native.Mathlib.Omega.{arith}
use lib.Pow.{pow_mono}
use Rattle.bits.specs.Numbers.{bit, number}
use Rattle.bits.specs.Sets.{word_positions, size, spread}
use Rattle.bits.proofs.Masks.{mask_most}
use Rattle.bits.proofs.Sizes.{size-le}
use Rattle.tables.specs.Table.{table_bit}
use Rattle.tables.proofs.Pieces.{each, few_is, pieces_fill, piece_within, piece_place, piece_lt, piece_word}
use Rattle.tables.proofs.Pieces.{piece_fits, piece_joined}
use Rattle.tables.proofs.fixed.word_over.Lts as lts
use Rattle.tables.proofs.fixed.word_over.Reads as reads
use Rattle.tables.proofs.fixed.word_over.Tie as tie
use Rattle.tables.proofs.fixed.word_over.Goals as goal

module _ (c : lts.After-members tie.the-claims reads.Pre reads.Post goal.the-invariant-loop-q goal.the-decreases-loop-q) where
  abbrev start : lts.Start tie.the-claims reads.Pre reads.Post goal.the-invariant-loop-q goal.the-decreases-loop-q
  start = c.before.before

  abbrev mask : ℕ
  mask = start.args.mask

  few : c.members-few.result ≡ size word_positions (bit mask)
  few = few_is mask c.members-few.result (c.members-few.ensures word_positions (omega arith))

  most : c.members-few.result ≤ 6
  most = omega (arith, few, size-le word_positions (bit mask))

  abbrev pieces : ℕ
  pieces = 64 / 2 ^ c.members-few.result

  fill : pieces * each mask ≡ 64
  fill = pieces_fill mask c.members-few.result few

pub overflow_mul-i : goal.overflow_mul-i
overflow_mul-i c =
    let i = (start c.before).args.i in
    omega (
      arith,
      (start c.before).requires.5,
      mul_comm i (pieces c.before),
      mul-le-mul_right {m = pieces c.before} {n = 64} i
          (div-le_self 64 (2 ^ c.members-few.result)),
    )

pub loop-q-init : goal.loop-q-init
unfolding number
loop-q-init c =
    let a = (start c.before.before).args in
    let g : ℕ → Bool = λ j. table_bit a.t.now (a.at + spread a.n (bit a.mask) (64 * a.i + j)) in (
      omega arith,
      sym (ap (λ (k : ℕ). number k g) (zero-mul (each a.mask))),
      c.spread_out-f.ensures.0 ∙ ap (spread a.n (bit (a.mask / 64 * 64)))
          (sym (add-zero (a.i * pieces c.before.before))),
      c.spread_out-f.ensures.1,
    )

-- the piece that is read
module _ (c : lts.In-loop tie.the-claims reads.Pre reads.Post goal.the-invariant-loop-q goal.the-decreases-loop-q) where
  abbrev m : lts.After-members tie.the-claims reads.Pre reads.Post goal.the-invariant-loop-q goal.the-decreases-loop-q
  m = c.before.before.before

  abbrev s : lts.Start tie.the-claims reads.Pre reads.Post goal.the-invariant-loop-q goal.the-decreases-loop-q
  s = start m

  lt : s.args.at + c.loop-q.f < 2 ^ s.args.n
  lt =
      piece_lt s.args.t.now s.args.n s.args.mask s.args.at s.requires.0 s.requires.2 s.requires.3
      s.requires.4 s.args.i (pieces m) c.loop-q.q
      c.loop-q.f (fill m) c.loop-q-test.true c.loop-q.invariant.2

pub overflow_add-at : goal.overflow_add-at
overflow_add-at c = omega (arith, lt c.before, mask_most (s c.before).requires.1)

pub bits_from-requires : goal.bits_from-requires
bits_from-requires c =
    let s = s c.before in
    piece_word s.args.t.now s.args.n s.args.mask s.args.at s.requires.0 s.requires.2 s.requires.3
    s.requires.4 s.args.i (pieces (m c.before)) c.loop-q.q
    c.loop-q.f (fill (m c.before)) c.loop-q-test.true c.loop-q.invariant.2

-- where it goes
module _ (c : lts.After-squeeze tie.the-claims reads.Pre reads.Post goal.the-invariant-loop-q goal.the-decreases-loop-q) where
  abbrev l : lts.In-loop tie.the-claims reads.Pre reads.Post goal.the-invariant-loop-q goal.the-decreases-loop-q
  l = c.before.before

  place : l.loop-q.q * 2 ^ (m l).members-few.result % 2 ^ 32 ≡ l.loop-q.q * each (s l).args.mask
  place = piece_place (s l).args.mask (m l).members-few.result (pieces (m l)) l.loop-q.q (few (m l))
      (fill (m l)) l.loop-q-test.true

  within : l.loop-q.q * each (s l).args.mask + each (s l).args.mask ≤ 64
  within = piece_within (s l).args.mask (pieces (m l)) l.loop-q.q (fill (m l)) l.loop-q-test.true

pub overflow_shl-r-in-loop-q : goal.overflow_shl-r-in-loop-q
overflow_shl-r-in-loop-q c =
    omega (
      arith,
      place c.before,
      within c.before,
      pow_mono {i = 0} {j = size word_positions (bit (s (l c.before)).args.mask)}
          (omega arith),
    )

pub overflow_add-r : goal.overflow_add-r
overflow_add-r c =
    let g = s (l c.before) in
    let q = (l c.before).loop-q in
    let fits = subst (λ (k : ℕ). q.r + c.squeeze.result * 2 ^ k % 2 ^ 64 < 2 ^ 64) (sym (place c.before))
    (piece_fits g.args.t.now g.args.n g.args.mask g.args.at g.requires.0 g.requires.2 g.requires.3
    g.requires.4 g.args.i (pieces (m (l c.before))) q.q
    q.f (fill (m (l c.before))) (l c.before).loop-q-test.true q.invariant.2 c.bits_from.result
    c.bits_from.ensures c.squeeze.ensures q.invariant.1) in
    omega (arith, fits)

pub loop-q-preserved : goal.loop-q-preserved
loop-q-preserved c =
    let g = s (l c.before.before) in
    let q = (l c.before.before).loop-q in
    let p = pieces (m (l c.before.before)) in
    let e : g.args.i * p + q.q + 1 ≡ g.args.i * p + (q.q + 1) = omega arith in (
      omega (arith, (l c.before.before).loop-q-test.true),
      ap (λ (k : ℕ). q.r + c.squeeze.result * 2 ^ k % 2 ^ 64) (place c.before.before)
          ∙ piece_joined g.args.t.now g.args.n g.args.mask g.args.at g.requires.0 g.requires.2
          g.requires.3 g.requires.4 g.args.i p q.q
          q.f (fill (m (l c.before.before))) (l c.before.before).loop-q-test.true q.invariant.2 c.bits_from.result
          c.bits_from.ensures c.squeeze.ensures q.invariant.1,
      c.next-f.ensures.1 (g.args.i * p + q.q) q.invariant.2
          ∙ ap (spread g.args.n (bit (g.args.mask / 64 * 64))) e,
      c.next-f.ensures.0,
    )

pub returns : goal.returns
returns c =
    let a = (start c.before.before.before.before).args in
    let q = c.loop-q in
    let e : q.q ≡ pieces c.before.before.before.before = omega (arith, q.invariant.0) in
    q.invariant.1 ∙ ap (λ (k : ℕ). number k (λ j. table_bit a.t.now
    (a.at + spread a.n (bit a.mask) (64 * a.i + j))))
    (ap (λ (k : ℕ). k * each a.mask) e ∙ fill c.before.before.before.before)

pub overflow_shr-pieces : goal.overflow_shr-pieces
overflow_shr-pieces c = omega (arith, most c.before)

pub overflow_shl-r : goal.overflow_shl-r
overflow_shl-r c = omega (arith, most (m (l c.before)))

pub next-f-requires : goal.next-f-requires
next-f-requires c =
    let g = s (l c.before)
    in (g.requires.1, omega (arith, g.requires.2), (l c.before).loop-q.invariant.3)
