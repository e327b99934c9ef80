-- `far` meets its contract: the four bits that it reads make the column, which is below 16. Assumes nothing.
use Rattle.std.proofs.Common.{◌≡◌, ◌+◌, ◌*◌, ◌^◌, ◌<◌, ap, ◌∙◌, arith}
use mir.Val.{bool_byte}
use lib.Bits.{bit_xor, xor_lt}
use Rattle.bits.proofs.Building.{bool_digit}
use Rattle.bits.proofs.Machine.{shl_one}
use Rattle.tables.specs.Table.{table_bit}
use Rattle.witness.specs.Crowd.{column_over}
use Rattle.witness.proofs.Many.{column_lt}
use Rattle.witness.proofs.crowd.far.Lts as lts
use Rattle.witness.proofs.crowd.far.Reads as reads
use Rattle.witness.proofs.crowd.far.Tie as tie
use Rattle.witness.proofs.crowd.far.Goals as goal

-- the number of the column
column : (c : lts.After-bit_at4 tie.the-claims reads.Pre reads.Post) → let a = c.args in
    bool_byte c.bit_at-here.result + 2 * bool_byte c.bit_at-by_e.result
    + 4 * bool_byte c.bit_at-by_f.result
    + 8 * bool_byte c.bit_at-by_both.result ≡ column_over (table_bit a.t.now) a.e a.f a.x
column c =
    omega (
      arith,
      bool_digit c.bit_at-here.ensures,
      bool_digit c.bit_at-by_e.ensures,
      bool_digit c.bit_at-by_f.ensures,
      bool_digit c.bit_at-by_both.ensures,
    )

few : (c : lts.After-bit_at4 tie.the-claims reads.Pre reads.Post) → bool_byte c.bit_at-here.result
    + 2 * bool_byte c.bit_at-by_e.result + 4 * bool_byte c.bit_at-by_f.result
    + 8 * bool_byte c.bit_at-by_both.result < 16
few c = let a = c.args in omega (arith, column c, column_lt (table_bit a.t.now) a.e a.f a.x)

pub bit_at-by_e-requires : goal.bit_at-by_e-requires
bit_at-by_e-requires c =
    omega (arith, xor_lt c.args.n c.args.x c.args.e c.requires.2 c.requires.3, c.requires.1)

pub bit_at-by_f-requires : goal.bit_at-by_f-requires
bit_at-by_f-requires c =
    omega (arith, xor_lt c.args.n c.args.x c.args.f c.requires.2 c.requires.4, c.requires.1)

pub bit_at-by_both-requires : goal.bit_at-by_both-requires
bit_at-by_both-requires c =
    let a = c.args in
    omega (
      arith,
      xor_lt a.n (bit_xor a.x a.e) a.f (xor_lt a.n a.x a.e c.requires.2 c.requires.3)
          c.requires.4,
      c.requires.1,
    )

pub overflow_cast-result : goal.overflow_cast-result
overflow_cast-result c = record { fits = omega (arith, few c.before) }

pub returns : goal.returns
returns c = shl_one 16 _ (few c.before) ∙ ap (λ m. 2 ^ m) (column c.before)

pub overflow_mul-result : goal.overflow_mul-result
overflow_mul-result c = omega (arith, few c.before)

pub overflow_add-result : goal.overflow_add-result
overflow_add-result c = omega (arith, few c.before)

pub overflow_mul-result-2 : goal.overflow_mul-result-2
overflow_mul-result-2 c = omega (arith, few c.before)

pub overflow_add-result-2 : goal.overflow_add-result-2
overflow_add-result-2 c = omega (arith, few c.before)

pub overflow_mul-result-3 : goal.overflow_mul-result-3
overflow_mul-result-3 c = omega (arith, few c.before)

pub overflow_add-result-3 : goal.overflow_add-result-3
overflow_add-result-3 c = omega (arith, few c.before)

pub overflow_shl-result : goal.overflow_shl-result
overflow_shl-result c = omega (arith, few c.before)
