-- No candidate comes before the least mask of k inputs with nothing shared. Assumes nothing.
use mathlib.Core.Path.{◌≡◌, refl, sym, ap, ◌∙◌}
use Prim.Native.Nat.{ℕ, ◌-◌, ◌*◌, ◌%◌, ◌^◌, ◌<◌}
use native.Mathlib.Omega.{arith}
use lib.Pow.{pow_pos, pow_mono}
use Rattle.bits.specs.Numbers.{bit}
use Rattle.bits.specs.Sets.{size}
use Rattle.bits.proofs.Bools.{clash}
use Rattle.bits.proofs.Numbers.{bit-zero}
use Rattle.bits.proofs.Machine.{shl_one}
use Rattle.tables.specs.Table.{table_bit}
use Rattle.best.specs.Search.{try_b}
use Rattle.best.proofs.First.{found_none}
use Rattle.quick.proofs.Early.{first_best}
use Rattle.quick.proofs.search.first_try.Lts as lts
use Rattle.quick.proofs.search.first_try.Reads as reads
use Rattle.quick.proofs.search.first_try.Tie as tie
use Rattle.quick.proofs.search.first_try.Goals as goal

-- the least mask of k inputs, as the machine makes it
module _ (c : lts.Else2 tie.the-claims reads.Pre reads.Post tie.handed_clauses) where
  k : ℕ
  k = c.args.k

  all : 1 * 2 ^ k % 4294967296 ≡ 2 ^ k
  unfolding k
  all = shl_one 32 k (omega (arith, c.requires.0, c.if-n-k.false))

  own_lt : 1 * 2 ^ k % 4294967296 - 1 < 2 ^ c.args.n
  unfolding k
  own_lt = omega (
    arith,
    all,
    pow_pos k,
    pow_mono {i = k} {j = c.args.n}
        (omega (arith, c.if-n-k.false)),
  )

pub overflow_sub-all : goal.overflow_sub-all
unfolding k
overflow_sub-all c = omega (arith, all c.before, pow_pos (k c.before))

pub overflow_cast-all : goal.overflow_cast-all
unfolding k
overflow_cast-all c =
    record {
      fits = omega (
        arith,
        own_lt c.before,
        pow_mono {i = c.args.n} {j = 16}
            c.requires.0,
      );
    }

pub attempt-requires : goal.attempt-requires
unfolding k
attempt-requires c =
    record { r_le_most_first = (c.requires.1, c.requires.2); n_le_most_inputs = (c.requires.0, own_lt c.before, pow_pos c.args.n, λ j l e. absurd (clash e (bit-zero j))) }

pub returns : goal.returns
unfolding k
returns c A B e =
    let a = c.args in
    let F = table_bit a.t.now in
    first_best a.n a.k (omega (arith, c.if-n-k.false)) a.r F
    (omega (arith, c.if-k-r.false)) (size a.n (bit 0)) A B
    (ap (λ (m : ℕ). try_b a.n a.r F (size a.n (bit 0)) (m - 1) 0) (sym (all c.before.before))
    ∙ sym c.attempt.ensures ∙ e)

pub returns-then-k-r : goal.returns-then-k-r
returns-then-k-r = (λ c A B e. absurd (found_none refl e))

pub overflow_shl-all : goal.overflow_shl-all
overflow_shl-all c = omega (arith, c.requires.0, c.if-n-k.false)
