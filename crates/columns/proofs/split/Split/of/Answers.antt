-- The free mask is what the two masks leave of all ones. Assumes nothing.
use mathlib.Core.Path.{◌≡◌, refl, sym, ◌∙◌, subst}
use Prim.Native.Nat.{ℕ, ◌+◌, ◌-◌, ◌*◌, ◌%◌, ◌^◌, ◌<◌, ◌≤◌}
use native.Mathlib.Omega.{arith}
use Rattle.bits.specs.Numbers.{bit, number}
use Rattle.bits.specs.Sets.{rest, Apart}
use Rattle.bits.proofs.Masks.{mask_most}
use Rattle.bits.proofs.Machine.{shl_one}
use Rattle.bits.proofs.Numbers.{number_lt}
use Rattle.tables.specs.Table.{most_inputs}
use Rattle.columns.specs.ByWords.{high_part, low_places}
use Rattle.splits.proofs.Parts.{rest_sum}
use Rattle.columns.proofs.Reading.{held}
use Rattle.columns.proofs.split.Split.of.Goals as goal

-- 2 ^ n - 1 - own - shared, at a width of 32 bits
module _ (n own shared : ℕ) (pre : (n ≤ most_inputs) × (own < 2 ^ n) × (shared < 2 ^ n) × Apart n (bit own) (bit shared))
  where
    sum : number n (rest (bit own) (bit shared)) + own + shared + 1 ≡ 1 * 2 ^ n % 4294967296
    sum = rest_sum n own shared pre.1 pre.2 pre.3 ∙ sym (shl_one 32 n (omega arith))

    left_is : 1 * 2 ^ n % 4294967296 - 1 - own - shared ≡ number n (rest (bit own) (bit shared))
    left_is = omega (arith, sum)

    left_lt : 1 * 2 ^ n % 4294967296 - 1 - own - shared < 2 ^ n
    left_lt = subst (λ (m : ℕ). m < 2 ^ n) (sym left_is) (number_lt n (rest (bit own) (bit shared)))

    high_lt : high_part (1 * 2 ^ n % 4294967296 - 1 - own - shared) < 2 ^ n
    high_lt = omega (arith, left_lt)

pub invariant_of-result : goal.invariant_of-result
unfolding low_places
invariant_of-result c =
    let p = c.requires in
    let a = c.args in
    record {
      most = p.0;
      below_a = p.1;
      below_b = p.2;
      apart = p.3;
      free_is = left_is a.n a.own a.shared p;
      words_are = c.parts.ensures.0;
      low_is = c.subsets.ensures;
    }

pub returns : goal.returns
returns c = (held _, refl, refl, refl)

pub overflow_sub-all : goal.overflow_sub-all
overflow_sub-all c = omega (arith, sum c.args.n c.args.own c.args.shared c.requires)

pub overflow_sub-left : goal.overflow_sub-left
overflow_sub-left c = omega (arith, sum c.args.n c.args.own c.args.shared c.requires)

pub overflow_sub-left-2 : goal.overflow_sub-left-2
overflow_sub-left-2 c = omega (arith, sum c.args.n c.args.own c.args.shared c.requires)

pub overflow_cast-free : goal.overflow_cast-free
overflow_cast-free c =
    omega (arith, left_lt c.args.n c.args.own c.args.shared c.requires, mask_most c.requires.0)

pub overflow_mul-free : goal.overflow_mul-free
overflow_mul-free c =
    omega (arith, high_lt c.args.n c.args.own c.args.shared c.requires, mask_most c.requires.0)

pub parts-requires : goal.parts-requires
parts-requires c = (c.requires.0, high_lt c.args.n c.args.own c.args.shared c.requires)
