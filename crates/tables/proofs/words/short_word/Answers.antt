-- What is left of a division by 2 ^ (2 ^ k) are the first 2 ^ k bits. Assumes nothing.
use mathlib.Core.Path.{◌≡◌, ap, ap₂, ◌∙◌}
use mathlib.Core.List.{List}
use Prim.Native.Nat.{ℕ, ◌+◌, ◌*◌, ◌%◌, ◌^◌, ◌<◌}
use native.Mathlib.Nat.{zero-add}
use native.Mathlib.Omega.{arith}
use lib.Pow.{pow_mono, pow_pos}
use lib.ListN.{length}
use Rattle.bits.specs.Numbers.{number}
use Rattle.bits.proofs.Machine.{shl_one}
use Rattle.bits.proofs.Numbers.{number_ext}
use Rattle.tables.specs.Table.{table_length, table_bit}
use Rattle.tables.proofs.Bytes.{length-holds, length_fits}
use Rattle.tables.proofs.Digits.{first-bits}
use Rattle.tables.proofs.words.short_word.Goals as goal

-- the bytes that hold 2 ^ k bits, joined
whole : (t : List ℕ) (len k r : ℕ) → len ≡ table_length k → r ≡ number (8 * len) (λ i. table_bit t (8 * 0 + i)) → r
    ≡ number (8 * table_length k) (table_bit t)
whole t len k r e is =
    is ∙ number_ext (8 * len) (λ i. table_bit t (8 * 0 + i)) (table_bit t) (λ i _. ap (table_bit t) (zero-add i))
    ∙ ap (λ (m : ℕ). number (8 * m) (table_bit t)) e

pub joined-word-requires : goal.joined-word-requires
joined-word-requires c =
    let e = c.length_for.ensures in (
      omega (arith, e, length_fits c.args.k (length c.args.t.now) c.requires.1),
      omega
          (arith, e, length_fits c.args.k 8 (pow_mono {i = c.args.k} {j = 6} (omega arith))),
    )

-- the number of bits, and 2 to that
many : (k : ℕ) → k < 6 → 1 * 2 ^ k % 2 ^ 64 < 64
many k h = omega (arith, shl_one 64 k (omega arith), pow_mono {i = k} {j = 5} (omega arith))

end : (k : ℕ) → k < 6 → 1 * 2 ^ (1 * 2 ^ k % 2 ^ 64) % 2 ^ 64 ≡ 2 ^ (2 ^ k)
end k h = shl_one 64 (1 * 2 ^ k % 2 ^ 64) (many k h) ∙ ap (λ (m : ℕ). 2 ^ m) (shl_one 64 k (omega arith))

pub overflow_shl-end : goal.overflow_shl-end
overflow_shl-end c = many c.args.k (omega arith)

pub nonzero_rem-result : goal.nonzero_rem-result
nonzero_rem-result c = let k = c.args.k in omega (arith, end k (omega arith), pow_pos (2 ^ k))

pub returns : goal.returns
returns c =
    let a = c.args in
    ap₂ (λ (x y : ℕ). x % y) (whole a.t.now _ a.k _ c.length_for.ensures c.joined-word.ensures)
    (end a.k (omega arith))
    ∙ first-bits (2 ^ a.k) (8 * table_length a.k) (table_bit a.t.now) (length-holds a.k)
