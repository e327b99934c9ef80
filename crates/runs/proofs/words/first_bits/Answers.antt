-- `first_bits` meets its contract: what is left of a division by 2 ^ (2 ^ n), where a word has more bits. Assumes
-- nothing.
use mathlib.Core.Path.{◌≡◌, ap, ◌∙◌}
use Prim.Native.Nat.{ℕ, ◌*◌, ◌%◌, ◌^◌, ◌<◌}
use native.Mathlib.Omega.{arith}
use lib.Pow.{pow_mono, pow_pos}
use Rattle.bits.proofs.Machine.{shl_one}
use Rattle.runs.proofs.Choosing.{first_short, first_whole}
use Rattle.runs.proofs.words.first_bits.Goals as goal

many : (n : ℕ) → n < 6 → 1 * 2 ^ n % 2 ^ 64 < 64
many n h = omega (arith, shl_one 64 n (omega arith), pow_mono {i = n} {j = 5} (omega arith))

end : (n : ℕ) → n < 6 → 1 * 2 ^ (1 * 2 ^ n % 2 ^ 64) % 2 ^ 64 ≡ 2 ^ (2 ^ n)
end n h = shl_one 64 (1 * 2 ^ n % 2 ^ 64) (many n h) ∙ ap (λ (k : ℕ). 2 ^ k) (shl_one 64 n (omega arith))

pub returns-then-n-lt6 : goal.returns-then-n-lt6
returns-then-n-lt6 c =
    let a = c.args in ap (λ (k : ℕ). a.o % k) (end a.n c.if-n-lt6.true)
    ∙ first_short a.n a.o c.if-n-lt6.true

pub returns : goal.returns
returns c = let a = c.args in first_whole a.n a.o (omega arith) (omega arith)

pub overflow_shl-end : goal.overflow_shl-end
overflow_shl-end c = many c.args.n c.if-n-lt6.true

pub nonzero_rem-result : goal.nonzero_rem-result
nonzero_rem-result c = let a = c.args in omega (arith, end a.n c.if-n-lt6.true, pow_pos (2 ^ a.n))
