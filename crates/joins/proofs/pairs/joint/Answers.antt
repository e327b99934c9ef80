-- `joint` meets its contract: the points of the two inputs, one after the other, are asked about. Assumes nothing.
use mathlib.Core.Path.{◌≡◌, sym, ap}
use Prim.Native.Nat.{ℕ, ◌+◌, ◌*◌, ◌%◌, ◌^◌, ◌<◌}
use native.Mathlib.Omega.{arith}
use lib.Pow.{pow_mono, pow_pos}
use Rattle.bits.specs.Numbers.{bit}
use Rattle.bits.specs.Sets.{spread}
use Rattle.bits.proofs.Spreading.{spread-zero}
use Rattle.tables.specs.Table.{table_bit}
use Rattle.columns.specs.declared.split.Split.{Split}
use Rattle.columns.specs.Reading.{Without}
use Rattle.joins.proofs.Asking as asking
use Rattle.joins.proofs.pairs.joint.Lts as lts
use Rattle.joins.proofs.pairs.joint.Reads as reads
use Rattle.joins.proofs.pairs.joint.Tie as tie
use Rattle.joins.proofs.pairs.joint.Goals as goal

-- the mask of the two
module _ (c : lts.Start tie.the-claims reads.Pre reads.Post) where
  abbrev own : ℕ
  own = 1 * 2 ^ c.args.j % 2 ^ 16 + 1 * 2 ^ c.args.i % 2 ^ 16

  own_lt : own < 2 ^ c.args.n
  own_lt = asking.own_lt c.args.n c.args.g c.requires.1 c.requires.0 c.args.i c.args.j c.requires.2
      c.requires.3 c.requires.4

  width : 2 ^ c.args.n < 2 ^ 16 + 1
  width = omega (arith, pow_mono {i = c.args.n} {j = 16} c.requires.0)

pub overflow_add-own : goal.overflow_add-own
overflow_add-own c = omega (arith, own_lt c.before.before, width c.before.before)

pub of-s-requires : goal.of-s-requires
of-s-requires c =
    let a = c.args in (
      c.requires.0,
      own_lt c.before.before,
      c.requires.1.below,
      asking.own_apart a.n a.g c.requires.1 c.requires.0 a.i a.j c.requires.2
          c.requires.3 c.requires.4,
    )

pub next-one-requires : goal.next-one-requires
next-one-requires c = (c.requires.0, own_lt c.before.before.before, pow_pos c.args.n)

pub next-two-requires : goal.next-two-requires
next-two-requires c = (c.requires.0, own_lt c.before.before.before.before, c.next-one.ensures.0)

pub next-three-requires : goal.next-three-requires
next-three-requires c =
    (c.requires.0, own_lt c.before.before.before.before.before, c.next-two.ensures.0)

-- the three points beside what is fixed
module _ (c : lts.After-next3 tie.the-claims reads.Pre reads.Post) where
  abbrev g : lts.Start tie.the-claims reads.Pre reads.Post
  g = c.before.before.before.before.before

  first : c.next-one.result ≡ spread g.args.n (bit (own g)) 1
  first = c.next-one.ensures.1 0 (sym (spread-zero g.args.n (bit (own g))))

  second : c.next-two.result ≡ spread g.args.n (bit (own g)) 2
  second = c.next-two.ensures.1 1 first

  third : c.next-three.result ≡ spread g.args.n (bit (own g)) 3
  third = c.next-three.ensures.1 2 second

  abbrev split : Split
  split = c.of-s.result

  -- the columns are read from there
  without : (k z : ℕ) → k < 4 → z ≡ spread g.args.n (bit (own g)) k
      → Without split.n split.free (g.args.g.at + z)
  without = let w = c.of-s.ensures in
      asking.without g.args.n g.args.g g.requires.1 g.requires.0 g.args.i g.args.j g.requires.2 g.requires.3
      g.requires.4 split w.0 w.1 w.2 w.3

  fits : (k z : ℕ) → k < 4 → z ≡ spread g.args.n (bit (own g)) k → g.args.g.at + z < 2 ^ 32
  fits k z l e =
      omega (
        arith,
        (without k z l e).below,
        width g,
        ap (λ (m : ℕ). 2 ^ m) c.of-s.ensures.1,
      )

pub overflow_add-g : goal.overflow_add-g
overflow_add-g c = record { fits = fits c.before.before 1 _ (omega arith) (first c.before.before) }

pub overflow_add-g-2 : goal.overflow_add-g-2
overflow_add-g-2 c =
    record { fits = fits c.before.before.before 2 _ (omega arith) (second c.before.before.before) }

pub overflow_add-g-3 : goal.overflow_add-g-3
overflow_add-g-3 c =
    record { fits = fits c.before.before.before.before 3 _ (omega arith) (third c.before.before.before.before) }

pub value_by-requires : goal.value_by-requires
value_by-requires c =
    let w = c.of-s.ensures in
    let s = g c.before.before.before.before in (
      asking.without-none s.args.n s.args.g s.requires.1 s.requires.0 s.args.i s.args.j s.requires.2
          s.requires.3 s.requires.4 (split c.before.before.before.before) w.0 w.1 w.2 w.3,
      without c.before.before.before.before 1 _ (omega arith) (first c.before.before.before.before),
      without c.before.before.before.before 2 _ (omega arith) (second c.before.before.before.before),
      without c.before.before.before.before 3 _ (omega arith) (third c.before.before.before.before),
      omega (arith, s.requires.5, ap (λ (m : ℕ). 2 ^ m) w.1),
    )

pub returns : goal.returns
returns c =
    let w = c.of-s.ensures in
    let s = g c.before.before.before.before.before in
    asking.asked s.args.n s.args.g s.requires.1 s.requires.0 s.args.i s.args.j s.requires.2 s.requires.3
    s.requires.4 (split c.before.before.before.before.before) w.0 w.1 w.2 w.3 (table_bit s.args.t.now) _ _ _ _ (first c.before.before.before.before.before) (second c.before.before.before.before.before)
    (third c.before.before.before.before.before) c.value_by.ensures
