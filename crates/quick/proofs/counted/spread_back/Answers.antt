-- Each mask is spread by itself. Assumes nothing.
use Rattle.std.proofs.Common.{Option, refl, sym, ap, ap₂, ◌∙◌}
use Rattle.bits.specs.Numbers.{bit}
use Rattle.best.specs.declared.Masks.{Masks}
use Rattle.best.specs.Answers.{answer_of}
use Rattle.best.specs.Search.{split}
use Rattle.best.specs.Counting.{spread_answer}
use Rattle.quick.proofs.counted.spread_back.Goals as goal

pub returns-in-Some : goal.returns-in-Some
returns-in-Some c =
    let a = c.args in (
      refl,
      ap₂ split c.spread_mask.ensures c.spread_mask-in-Some.ensures
          ∙ sym (ap (λ (f : Option Masks). spread_answer a.n (bit a.mask) (answer_of f))
          c.in-Some.is),
    )
