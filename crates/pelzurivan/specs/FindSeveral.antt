-- The best split with several first cells sought, for C.
use Rattle.refusals.specs.Lines.{number_of}
use Rattle.several.specs.FindSeveral.{FindSeveralAnswer, FindSeveralOutcome}
use Rattle.pelzurivan.specs.declared.find_several.SoughtSeveralC.{SoughtSeveralC}

-- the number, how many first cells, the own and the shared mask
abbrev pub sought_several_of : FindSeveralAnswer → SoughtSeveralC
sought_several_of a = record {
  number = number_of a.verdict;
  r = a.first;
  own = a.own;
  shared = a.shared;
}

-- and of an outcome
abbrev pub sought_several_c : FindSeveralOutcome → SoughtSeveralC
sought_several_c o = sought_several_of o.answer
