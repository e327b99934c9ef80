use mathlib.Core.Path.{◌≡◌}
use Prim.Native.Nat.{◌+◌}
use mathlib.Core.List.{map}
use Rattle.bits.specs.Lists.{byte_at, list_of}
use Rattle.clauses.specs.declared.variables.Variable.TheVariants.{Reads}
use Rattle.clauses.specs.declared.variables.Literal.TheVariants.{Said}
use Rattle.clauses.specs.Variables.{literal_of}
use Rattle.following.specs.Values.{open_after}
use Rattle.following.specs.declared.open.Open.TheVariants.{Nothing}
use Rattle.following.proofs.open.Reading.open_readers.Given as goal

abbrev pub invariant-loop-k : goal.invariant-loop-k
invariant-loop-k l =
    l.o ≡ open_after (byte_at l.self.values.now) Nothing (map (literal_of l.self.task.size) (list_of l.k (λ j. Said (Reads (l.i + 1 + j) (l.self.task.size.inputs + l.i)))))
