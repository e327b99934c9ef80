-- Each turn steps to a word without i, j and c; a place at which the word clashes shows eight bits. Assumes nothing.
use Rattle.std.proofs.Common.{◌≡◌, ℕ, ◌*◌, ◌%◌, ◌^◌, ◌<◌, ◌≤◌, Bool, true, arith, rules}
use lib.Bits.{bit_and, bit_or}
use lib.Pow.{pow-lt}
use Rattle.bits.specs.Numbers.{bit}
use Rattle.bits.specs.Sets.{spread}
use Rattle.bits.proofs.Machine.{shl_one}
use Rattle.bits.proofs.Walking.{walked_none, walked_more, walked_lt}
use Rattle.tables.specs.Table.{table_bit}
use Rattle.best.specs.Moves.{both}
use Rattle.witness.specs.Witness.{RulesOut, single}
use Rattle.witness.specs.Points.{Off, Still, Steps}
use Rattle.witness.proofs.Members.{some_bit, triple_rule}
use Rattle.witness.proofs.Points.{said_no}
use Rattle.witness.proofs.Corners.{and-bits, still_place, spread_low}
use Rattle.witness.proofs.triple.bad.Goals as goal

-- the mask of one position
abbrev mask : ℕ → ℕ
mask i = 1 * 2 ^ i % 4294967296

is : (n i : ℕ) → n ≤ 16 → i < n → mask i ≡ 2 ^ i
is n i most l = shl_one 32 i (omega arith)

fits : (n i : ℕ) → n ≤ 16 → i < n → mask i < 2 ^ n
fits n i most l = omega (arith, is n i most l, pow-lt l)

-- a place at which the word that x steps to clashes
shown : (n : ℕ) (F : ℕ → Bool) (i j c x w places off high v : ℕ) → 6 ≤ n → n ≤ 16 → i < n → j < n → c < n → Off i places
    → Off j places → Off c off
    → ((k : ℕ) → Still n x (mask c) (mask i) (mask j) k → bit w k ≡ true
    → RulesOut n F 2 (bit (bit_or (mask i) (mask j))) (bit (mask c)))
    → Steps n (bit_or (bit_or (mask i) (mask j)) (mask c)) high → x ≡ spread n (bit high) v
    → (bit_and w (bit_and places off) ≡ 0 → ⊥)
    → RulesOut n F 2 (both i j) (single c)
shown n F i j c x w places off high v least most li lj lc off_i off_j off_c rules steps at some = go
    (some_bit (bit_and w (bit_and places off)) some)
  where
    go : (k : ℕ) × (bit (bit_and w (bit_and places off)) k ≡ true) → RulesOut n F 2 (both i j) (single c)
    go u =
        let k = u.0 in
        let f = and-bits k w (bit_and places off) u.1 in
        let g = and-bits k places off f.1 in
        triple_rule i j c (mask i) (mask j) (mask c) (is n i most li) (is n j most lj) (is n c most lc)
        (rules k (still_place n x (mask c) (mask i) (mask j) k i j c (is n i most li) (is n j most lj) (is n c most lc)
        (λ y l. spread_low n high x v y at (omega arith) (steps.high y l)) (off_i k g.0).0 (off_i k g.0).1
        (off_j k g.0).1 (off_c k g.1).1) f.0)

pub clash-requires : goal.clash-requires
clash-requires c =
    let n = c.args.n in
    let most = c.requires.0.most in (
      c.requires.0,
      walked_lt c.loop-v.invariant,
      fits n c.args.c most c.requires.3,
      fits n c.args.i most
          c.requires.1,
      fits n c.args.j most c.requires.2,
    )

pub returns-then-clash-here-ne0 : goal.returns-then-clash-here-ne0
returns-then-clash-here-ne0 c e =
    let q = c.loop-v in
    let a = c.args in
    shown a.n (table_bit a.t.now) a.i a.j a.c q.x _ a.places _ _ q._v c.requires.0.least
    c.requires.0.most c.requires.1 c.requires.2
    c.requires.3 c.requires.4 c.requires.5 c.off.ensures c.clash.ensures c.steps-high.ensures q.invariant.at
    c.if-clash-here-ne0.true

pub next-x-requires : goal.next-x-requires
next-x-requires c = (
  c.requires.0.most,
  c.steps-high.ensures.below,
  walked_lt
      c.loop-v.invariant,
)

pub loop-v-preserved : goal.loop-v-preserved
loop-v-preserved c =
    walked_more c.loop-v.invariant
    (omega (arith, c.loop-v-test.true, c.min-v-end.ensures)) c.next-x.ensures.1

pub steps-high-requires : goal.steps-high-requires
steps-high-requires c = (c.requires.0.least, c.requires.0.most)

pub parts-many-requires : goal.parts-many-requires
parts-many-requires c = (c.requires.0.most, c.steps-high.ensures.below)

pub loop-v-init : goal.loop-v-init
loop-v-init c = walked_none c.requires.0.most c.parts-many.ensures.0

pub returns : goal.returns
returns c = said_no
