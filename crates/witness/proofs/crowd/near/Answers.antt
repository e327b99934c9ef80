-- `near` meets its contract: the four bits of the word make the column, which is below 16. Assumes nothing.
use Rattle.std.proofs.Common.{◌≡◌, ◌+◌, ◌*◌, ◌/◌, ◌%◌, ◌^◌, ◌<◌, ap, ◌∙◌, mod-lt, arith, lit<}
use lib.Bits.{bit_and, bit_xor, xor_lt}
use Rattle.bits.proofs.Machine.{shl_one}
use Rattle.tables.specs.Table.{table_bit}
use Rattle.witness.specs.Crowd.{column_over}
use Rattle.witness.proofs.Many.{column_lt, near_column}
use Rattle.witness.proofs.crowd.near.Lts as lts
use Rattle.witness.proofs.crowd.near.Reads as reads
use Rattle.witness.proofs.crowd.near.Tie as tie
use Rattle.witness.proofs.crowd.near.Goals as goal

module _ (c : lts.After-table_word tie.the-claims reads.Pre reads.Post) where
  column : let a = c.args in
      let w = c.table_word-w.result in
      bit_and (w / 2 ^ (a.x % 64)) 1 + 2 * bit_and (w / 2 ^ bit_xor (a.x % 64) a.e) 1
      + 4 * bit_and (w / 2 ^ bit_xor (a.x % 64) a.f) 1
      + 8 * bit_and (w / 2 ^ bit_xor (bit_xor (a.x % 64) a.e) a.f) 1
      ≡ column_over (table_bit a.t.now) a.e a.f a.x
  column =
      near_column c.args.t.now c.table_word-w.result c.args.x c.args.e c.args.f c.requires.2
      c.requires.3 c.table_word-w.ensures

  few : column_over (table_bit c.args.t.now) c.args.e
      c.args.f c.args.x < 16
  few = let a = c.args in column_lt (table_bit a.t.now) a.e a.f a.x

  low : c.args.x % 64 < 64
  low = mod-lt c.args.x (lit< tt)

  by_e : bit_xor (c.args.x % 64) c.args.e < 64
  by_e = xor_lt 6 (c.args.x % 64) c.args.e low c.requires.2

  by_f : bit_xor (c.args.x % 64) c.args.f < 64
  by_f = xor_lt 6 (c.args.x % 64) c.args.f low c.requires.3

  by_both : bit_xor (bit_xor (c.args.x % 64) c.args.e) c.args.f
      < 64
  by_both = xor_lt 6 (bit_xor (c.args.x % 64) c.args.e)
      c.args.f by_e c.requires.3

pub table_word-w-requires : goal.table_word-w-requires
table_word-w-requires c = c.requires.0.long c.requires.1

pub returns : goal.returns
returns c =
    shl_one 16 _ (omega (arith, column c.before, few c.before)) ∙ ap (λ m. 2 ^ m) (column c.before)

pub overflow_cast-result-2 : goal.overflow_cast-result-2
overflow_cast-result-2 c = record { fits = omega (arith, by_e c.before) }

pub overflow_shr-result-2 : goal.overflow_shr-result-2
overflow_shr-result-2 c = omega (arith, by_e c.before)

pub overflow_mul-result : goal.overflow_mul-result
overflow_mul-result c = omega (arith, column c.before, few c.before)

pub overflow_add-result : goal.overflow_add-result
overflow_add-result c = omega (arith, column c.before, few c.before)

pub overflow_cast-result-3 : goal.overflow_cast-result-3
overflow_cast-result-3 c = record { fits = omega (arith, by_f c.before) }

pub overflow_shr-result-3 : goal.overflow_shr-result-3
overflow_shr-result-3 c = omega (arith, by_f c.before)

pub overflow_mul-result-2 : goal.overflow_mul-result-2
overflow_mul-result-2 c = omega (arith, column c.before, few c.before)

pub overflow_add-result-2 : goal.overflow_add-result-2
overflow_add-result-2 c = omega (arith, column c.before, few c.before)

pub overflow_cast-result-4 : goal.overflow_cast-result-4
overflow_cast-result-4 c = record { fits = omega (arith, by_both c.before) }

pub overflow_shr-result-4 : goal.overflow_shr-result-4
overflow_shr-result-4 c = omega (arith, by_both c.before)

pub overflow_mul-result-3 : goal.overflow_mul-result-3
overflow_mul-result-3 c = omega (arith, column c.before, few c.before)

pub overflow_add-result-3 : goal.overflow_add-result-3
overflow_add-result-3 c = omega (arith, column c.before, few c.before)

pub overflow_cast-result-5 : goal.overflow_cast-result-5
overflow_cast-result-5 c = record { fits = omega (arith, column c.before, few c.before) }

pub overflow_shl-result : goal.overflow_shl-result
overflow_shl-result c = omega (arith, column c.before, few c.before)
