-- The bound on cells, for C.
use Rattle.refusals.specs.Lines.{number_of}
use Rattle.bounds.specs.BoundCells.{BoundAnswer, BoundOutcome}
use Rattle.pelzurivan.specs.declared.bound.BoundedC.{BoundedC}

-- the number, and the bound
abbrev pub bounded_of : BoundAnswer → BoundedC
bounded_of a = record { number = number_of a.verdict; least = a.least }

-- and of an outcome
abbrev pub bounded_c : BoundOutcome → BoundedC
bounded_c o = bounded_of o.answer
