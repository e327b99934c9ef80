-- `input_times` meets its contract. The loop's invariant: each place passed holds what is said of its input. Assumes
-- nothing.
use mathlib.Core.Path.{◌≡◌, refl, sym, ap, ◌∙◌}
use Prim.Native.Nat.{ℕ, ◌+◌, ◌<◌}
use native.Mathlib.Nat.{not-suc-le-zero}
use native.Mathlib.Decide.{dec_lt}
use mathlib.Core.List.{List}
use native.Mathlib.Omega.{arith}
use lib.ListN.{length, get_or, set, length-set}
use lib.Seq.{get_or-set_same, get_or-set_other}
use Rattle.bits.proofs.Lists.{list-of}
use Rattle.tables.specs.Table.{most_inputs}
use Rattle.times.specs.declared.input_time.InputTime.{InputTime}
use Rattle.times.specs.declared.input_time.InputTime.TheVariants.{NotRead}
use Rattle.pelzurivan.specs.declared.input_times.TimesC.{TimesC}
use Rattle.pelzurivan.specs.InputTimes.{times_from_c}
use Rattle.pelzurivan.proofs.input_times.input_times.Invariants.{said}
use Rattle.pelzurivan.proofs.input_times.input_times.Goals as goal

-- one place more
more : (c : TimesC) (l : List InputTime) (j : ℕ) (x : InputTime) → j < length l → x ≡ said c j
    → ((i : ℕ) → i < j → said c i ≡ get_or l i NotRead)
    → (i : ℕ) → i < j + 1 → said c i ≡ get_or (set l j x) i NotRead
more c l j x h q f i k = elim (dec_lt i j) [
  | yes g ↦ f i g ∙ sym (get_or-set_other l j i x NotRead (λ e. omega arith))
  | no g ↦ here i (omega arith)
]
  where
    here : (i : ℕ) → i ≡ j → said c i ≡ get_or (set l j x) i NotRead
    here i e = ap (said c) e ∙ sym q ∙ sym (get_or-set_same l j x NotRead h)
        ∙ ap (λ (t : ℕ). get_or (set l j x) t NotRead) (sym e)

pub loop-j-init : goal.loop-j-init
loop-j-init c = (refl, λ i h. absurd (not-suc-le-zero h))

pub loop-j-preserved : goal.loop-j-preserved
loop-j-preserved c =
    let l = c.loop-j.time-items in
    let x = c.time_of_kind.result in (
      length-set l c.loop-j.j x ∙ c.loop-j.invariant.0,
      more c.args.c l c.loop-j.j x (omega (arith, c.loop-j.invariant.0)) c.time_of_kind.ensures
          c.loop-j.invariant.1,
    )

pub returns : goal.returns
unfolding times_from_c
returns c =
    sym (list-of most_inputs (said c.args.c) c.loop-j.time-items NotRead c.loop-j.invariant.0
    (λ i h. c.loop-j.invariant.1 i (omega arith)))
