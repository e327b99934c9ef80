-- `inputs` meets its contract. The loop's invariant: the words of the inputs passed, and zeros behind them. Assumes
-- nothing.
use mathlib.Core.Path.{◌≡◌, sym, ap, ◌∙◌}
use Prim.Native.Nat.{ℕ, ◌+◌, ◌*◌}
use native.Mathlib.Decide.{dec_lt}
use native.Mathlib.Omega.{arith}
use lib.ListN.{get_or, replicate, get_or-replicate, get_or-eq_default}
use Rattle.bits.specs.Numbers.{bit}
use Rattle.bits.proofs.Numbers.{bit-number, bit-zero, bit_high}
use Rattle.bits.proofs.Filling.{filled_more}
use Rattle.runs.proofs.Choosing.{lane_filled}
use Rattle.runs.proofs.words.inputs.Goals as goal

-- past its end a list reads as 0 too
zeros : (s : ℕ) → ◌≡◌ {A = ℕ} (get_or (replicate 32 0) s 0) 0
zeros s = elim (dec_lt s 32) [
  | yes l ↦ get_or-replicate 32 s 0 0 l
  | no l ↦ get_or-eq_default (replicate 32 0) 0 {n = s} (omega arith)
]

pub loop-j-preserved : goal.loop-j-preserved
loop-j-preserved c = filled_more c.loop-j.invariant (omega arith) (omega arith) c.input_word.ensures

pub returns : goal.returns
returns c = (
  c.loop-j.invariant.long,
  λ i s l h.
      let a = c.args in
      let f = c.loop-j.invariant in
      elim (dec_lt s a.n) [
        | yes g ↦ lane_filled f i s (omega arith) ∙ bit-number 64 (λ i. bit (64 * a.w + i) s) i l
        | no g ↦ ap (λ (x : ℕ). bit x i) (f.high s (omega arith) ∙ zeros s) ∙ bit-zero i
            ∙ sym (bit_high (64 * a.w + i) a.n s h (omega arith))
      ],
)
