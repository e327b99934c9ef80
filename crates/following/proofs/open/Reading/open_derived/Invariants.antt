use mathlib.Core.Path.{◌≡◌}
use Rattle.bits.specs.Lists.{byte_at, list_of}
use Rattle.clauses.specs.Step.{literal_at}
use Rattle.following.specs.Values.{open_after}
use Rattle.following.specs.declared.open.Open.TheVariants.{Nothing}
use Rattle.following.proofs.open.Reading.open_derived.Given as goal

abbrev pub invariant-loop-k : goal.invariant-loop-k
invariant-loop-k l =
    l.o ≡ open_after (byte_at l.self.values.now) Nothing (list_of l.k (literal_at l.c l.at))
