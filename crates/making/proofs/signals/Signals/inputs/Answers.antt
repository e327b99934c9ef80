-- Place j holds j, by one test over the array. Assumes nothing.
use mathlib.Core.Path.{◌≡◌, refl}
use mathlib.Core.Bool.{true}
use mathlib.Core.List.{List, [], ◌∷◌}
use Prim.Native.Nat.{ℕ}
use native.Mathlib.Omega.{arith}
use lib.Dec.{eqb}
use lib.ListN.{get_or}
use borrow.Author.Tests.{eqb-true}
use Rattle.bits.specs.Below.{every}
use Rattle.bits.proofs.Below.{every_at}
use Rattle.tables.specs.Table.{most_inputs}
use Rattle.bits.proofs.Lists.{list_ext}
use Rattle.making.proofs.signals.Signals.inputs.Goals as goal

places : List ℕ
places = 0 ∷ 1 ∷ 2 ∷ 3 ∷ 4 ∷ 5 ∷ 6 ∷ 7 ∷ 8 ∷ 9 ∷ 10 ∷ 11 ∷ 12 ∷ 13 ∷ 14 ∷ 15 ∷ []

rule : every most_inputs (λ j. eqb (get_or places j 0) j) ≡ true
unfolding places
rule = refl

pub returns : goal.returns
unfolding places
returns c = (
  list_ext c.args.n (λ j. get_or places j 0) (λ j. j)
      (λ j l. eqb-true (get_or places j 0) j (every_at most_inputs (λ j. eqb (get_or places j 0) j) rule j
      (omega (arith, c.requires)))),
  refl,
)
