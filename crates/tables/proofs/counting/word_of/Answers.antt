-- A table of fewer than 6 inputs has one word, cut off at 2 ^ n; of others each word is full. Assumes nothing.
use mathlib.Core.Path.{◌≡◌, sym, ap, ◌∙◌}
use Prim.Native.Nat.{ℕ, ◌+◌, ◌-◌, ◌^◌, ◌≤◌}
use native.Mathlib.Omega.{arith}
use lib.Pow.{pow-add, pow_mono}
use Rattle.tables.specs.Table.{table_bit}
use Rattle.tables.specs.Words.{gate_word}
use Rattle.tables.proofs.Digits.{short_word, full_word}
use Rattle.tables.proofs.counting.word_of.Goals as goal

pub returns-then-n-lt6 : goal.returns-then-n-lt6
returns-then-n-lt6 c =
    let a = c.args in
    let one : a.w ≡ 0 = omega (arith, pow_mono {i = a.n - 6} {j = 0} (omega arith)) in
    c.short_word.ensures ∙ short_word a.n (table_bit a.t.now) (omega arith)
    ∙ ap (gate_word a.n (table_bit a.t.now)) (sym one)

sixes : (n : ℕ) → 6 ≤ n → n ≡ 6 + (n - 6)
sixes n h = omega arith

pub table_word-requires : goal.table_word-requires
table_word-requires c =
    omega (
      arith,
      c.requires.0,
      ap (λ (m : ℕ). 2 ^ m) (sixes c.args.n (omega arith))
          ∙ pow-add 2 6 (c.args.n - 6),
      c.requires.1,
    )

pub returns-else-n-lt6 : goal.returns-else-n-lt6
returns-else-n-lt6 c =
    c.table_word.ensures
    ∙ full_word c.args.n (table_bit c.args.t.now) c.args.w (omega arith) c.requires.1

pub short_word-requires : goal.short_word-requires
short_word-requires c = (omega arith, c.requires.0)
