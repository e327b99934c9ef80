-- The word is eight bytes joined. Assumes nothing.
use mathlib.Core.Path.{◌≡◌, ap, ◌∙◌}
use Prim.Native.Nat.{◌+◌, ◌*◌}
use native.Mathlib.Omega.{arith}
use Rattle.bits.proofs.Numbers.{number_ext}
use Rattle.tables.specs.Table.{table_bit}
use Rattle.tables.proofs.words.table_word.Goals as goal

pub returns : goal.returns
returns c =
    let a = c.args in
    c.joined.ensures ∙ number_ext 64 _ (λ i. table_bit a.t.now (64 * a.w + i))
    (λ i _. let e : 8 * (8 * a.w) + i ≡ 64 * a.w + i = omega arith in ap (table_bit a.t.now) e)
