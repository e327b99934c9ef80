-- The best split sought, for C.
use Rattle.refusals.specs.Lines.{number_of}
use Rattle.finding.specs.FindBest.{FindAnswer, FindOutcome}
use Rattle.pelzurivan.specs.declared.find_best.SoughtC.{SoughtC}

-- the number, the own and the shared mask
abbrev pub sought_of : FindAnswer → SoughtC
sought_of a = record { number = number_of a.verdict; own = a.own; shared = a.shared }

-- and of an outcome
abbrev pub sought_c : FindOutcome → SoughtC
sought_c o = sought_of o.answer
