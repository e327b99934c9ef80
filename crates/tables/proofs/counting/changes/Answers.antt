-- Two words differ only where input j counts, and where they don't no bit changes. Assumes nothing.
use mathlib.Core.Path.{◌≡◌, sym, ap, ◌∙◌, subst, subst₂}
use mathlib.Core.Bool.{Bool, not}
use Prim.Native.Nat.{ℕ, ◌+◌, ◌-◌, ◌*◌, ◌/◌, ◌%◌, ◌^◌, ◌<◌, ◌≤◌}
use native.Mathlib.Omega.{arith}
use lib.Dec.{eqb}
use lib.Bits.{bit_and}
use lib.Pow.{pow_mono}
use Rattle.bits.proofs.Machine.{shl_one}
use Rattle.tables.specs.Table.{table_bit}
use Rattle.tables.specs.Words.{gate_word, HalfWord, WordWithout, Compared}
use Rattle.tables.proofs.Bytes.{length-holds}
use Rattle.tables.proofs.Changing.{compared, halves_same, halves_steady, other_lt, words_same, words_steady}
use Rattle.tables.proofs.counting.changes.Goals as goal

pub word_of-here-requires : goal.word_of-here-requires
word_of-here-requires c = (omega (arith, c.requires.0, length-holds c.args.n), c.requires.4.below)

-- ---- within a word
within : (j : ℕ) → j < 6 → 1 * 2 ^ j % 2 ^ 32 ≡ 2 ^ j
within j h = shl_one 32 j (omega arith)

pub overflow_shr-result : goal.overflow_shr-result
overflow_shr-result c =
    let j = c.args.j in
    let six = (subst (HalfWord j) c.in-Some.is c.requires.3).0 in
    omega (arith, within j six, pow_mono {i = j} {j = 5} (omega (arith, six)))

pub returns-in-Some : goal.returns-in-Some
returns-in-Some c =
    let a = c.args in
    let F : ℕ → Bool = table_bit a.t.now in
    let h = subst (HalfWord a.j) c.in-Some.is c.requires.3 in
    let m = c.in-Some.half in
    subst₂ (λ (o k : ℕ). Compared a.n F a.j a.w
    (not (eqb (bit_and (o / 2 ^ k) m) (bit_and o m)))) (sym c.word_of-here.ensures) (sym (within a.j h.0))
    (compared a.n F a.j c.requires.2 a.w (bit_and (gate_word a.n F a.w / 2 ^ (2 ^ a.j)) m)
    (bit_and (gate_word a.n F a.w) m)
    (halves_same a.n F a.j c.requires.2 a.w h.0 m h.1)
    (halves_steady a.n F a.j c.requires.2 a.w h.0 m h.1))

-- ---- between words: the other word is one of the table's
shifted : (n j : ℕ) → n ≤ 16 → j < n → 1 * 2 ^ (j - 6) % 2 ^ 64 ≡ 2 ^ (j - 6)
shifted n j most l = shl_one 64 (j - 6) (omega arith)

other : (n j w : ℕ) (F : ℕ → Bool) → n ≤ 16 → j < n → 6 ≤ j → WordWithout n j w
    → w + 1 * 2 ^ (j - 6) % 2 ^ 64 < 2 ^ (n - 6)
other n j w F most l more without = omega (arith, shifted n j most l, other_lt n F j l w more without)

pub word_of-requires : goal.word_of-requires
word_of-requires c =
    let a = c.args in
    let more = subst (HalfWord a.j) c.in-None.is c.requires.3 in (
      omega (arith, c.requires.0, length-holds a.n),
      other a.n a.j a.w (table_bit a.t.now) c.requires.1 c.requires.2 more c.requires.4,
    )

pub returns-in-None : goal.returns-in-None
returns-in-None c =
    let a = c.args in
    let F : ℕ → Bool = table_bit a.t.now in
    let more = subst (HalfWord a.j) c.in-None.is c.requires.3 in
    subst₂ (λ (o p : ℕ). Compared a.n F a.j a.w (not (eqb o p))) (sym c.word_of-here.ensures)
    (sym (c.word_of.ensures
    ∙ ap (λ (k : ℕ). gate_word a.n F (a.w + k)) (shifted a.n a.j c.requires.1 c.requires.2)))
    (compared a.n F a.j c.requires.2 a.w (gate_word a.n F a.w) (gate_word a.n F (a.w + 2 ^ (a.j - 6)))
    (words_same a.n F a.j c.requires.2 a.w more c.requires.4)
    (words_steady a.n F a.j c.requires.2 a.w more c.requires.4))
