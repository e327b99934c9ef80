use mathlib.Core.Path.{◌≡◌}
use mathlib.Core.List.{map}
use Rattle.bits.specs.Lists.{byte_at, list_of}
use Rattle.clauses.specs.declared.variables.Variable.TheVariants.{Apart}
use Rattle.clauses.specs.declared.variables.Literal.TheVariants.{Said}
use Rattle.clauses.specs.Variables.{literal_of}
use Rattle.following.specs.Values.{open_after}
use Rattle.following.proofs.open.Reading.open_cells.Given as goal

abbrev pub invariant-loop-j : goal.invariant-loop-j
invariant-loop-j l =
    l.o ≡ open_after (byte_at l.self.values.now) l.initial.o (map (literal_of l.self.task.size) (list_of l.j (λ k. Said (Apart l.i k l.a l.b))))
