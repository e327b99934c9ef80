-- The rule of the patterns, by one test over the whole array. Assumes nothing.
use mathlib.Core.Path.{◌≡◌, refl}
use mathlib.Core.Bool.{true}
use mathlib.Core.List.{List, [], ◌∷◌}
use Prim.Native.Nat.{ℕ}
use lib.Dec.{eqb}
use lib.ListN.{get_or}
use borrow.Author.Tests.{eqb-true}
use Rattle.bits.specs.Numbers.{number}
use Rattle.bits.specs.Below.{every}
use Rattle.bits.specs.Patterns.{pattern}
use Rattle.bits.proofs.Below.{every_at}
use Rattle.bits.proofs.patterns.of_input.Goals as goal

entries : List ℕ
entries =
    0xAAAA_AAAA_AAAA_AAAA ∷ 0xCCCC_CCCC_CCCC_CCCC ∷ 0xF0F0_F0F0_F0F0_F0F0 ∷ 0xFF00_FF00_FF00_FF00 ∷
    0xFFFF_0000_FFFF_0000 ∷ 0xFFFF_FFFF_0000_0000 ∷ []

rule : every 6 (λ j. eqb (get_or entries j 0) (pattern j)) ≡ true
unfolding entries pattern number
rule = refl

pub returns : goal.returns
unfolding entries
returns c =
    eqb-true _ _ (every_at 6 (λ j. eqb (get_or entries j 0) (pattern j)) rule c.args.j c.requires)
