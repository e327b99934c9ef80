-- `rebuild` meets its contract. The loop's invariant: the bytes passed are the table's, and within a word o is that
-- word. Assumes nothing.
use mathlib.Core.Path.{◌≡◌, refl, ap, ◌∙◌}
use Prim.Native.Nat.{ℕ, ◌+◌, ◌-◌, ◌/◌}
use native.Mathlib.Omega.{arith}
use lib.Pow.{pow_mono}
use Rattle.bits.proofs.Filling.{filled_none, filled_more, filled_whole}
use Rattle.tables.specs.Table.{bytes_of, table_of}
use Rattle.sheets.specs.Sheet.{rebuilt}
use Rattle.runs.specs.Words.{sheet_word}
use Rattle.runs.proofs.Choosing.{word_starts}
use Rattle.runs.proofs.running.rebuild.Invariants.{bits}
use Rattle.runs.proofs.running.rebuild.Goals as goal
use Rattle.runs.proofs.running.rebuild.Goals.{then-i-eq0, else-i-eq0}

pub overflow_cast-i : goal.overflow_cast-i
overflow_cast-i c =
    omega (arith, pow_mono {i = c.args.n - 3} {j = 13} (omega (arith, c.requires.edition.2)), c.requires.out_len)

pub sheet_word-o-requires : goal.sheet_word-o-requires
sheet_word-o-requires c =
    record { edition = c.requires.edition; w_bound = word_starts c.args.n c.loop-i.i (omega (arith, c.requires.out_len)) }

pub loop-i-preserved : goal.loop-i-preserved
loop-i-preserved c =
    let a = c.args in
    let i = c.loop-i.i in
    let F = bits a.e a.n a.s.now a.m in
    let w : c.if-i-eq0.o ≡ sheet_word a.e a.n a.s.now a.m (i / 8) =
    elim c.if-i-eq0.branch [
      | then-i-eq0 u ↦ u.o-is ∙ u.sheet_word-o.ensures
      | else-i-eq0 u ↦ u.o-is ∙ c.loop-i.invariant.1 u.if-i-eq0.false
    ] in (
      filled_more c.loop-i.invariant.0 (omega arith) (omega arith) (c.byte_in.ensures F w),
      λ h. let e : i / 8 ≡ (i + 1) / 8 = omega arith in w ∙ ap (sheet_word a.e a.n a.s.now a.m) e,
    )

pub returns : goal.returns
unfolding rebuilt table_of
returns c =
    let a = c.args in
    filled_whole c.loop-i.invariant.0 (omega arith) (omega arith)
    ∙ ap (λ (k : ℕ). bytes_of k (bits a.e a.n a.s.now a.m)) c.requires.out_len

pub loop-i-init : goal.loop-i-init
loop-i-init c = (filled_none (omega arith), λ h. absurd (h refl))
