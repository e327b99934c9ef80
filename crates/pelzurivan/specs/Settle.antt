-- When the output settles, for C.
use Rattle.refusals.specs.Lines.{number_of, place_of}
use Rattle.settling.specs.Settle.{SettleAnswer}
use Rattle.pelzurivan.specs.declared.settle.SettledC.{SettledC}

-- the number, the first bad record, and both times
abbrev pub settled_c : SettleAnswer → SettledC
settled_c a = record {
  number = number_of a.verdict;
  index = place_of a.verdict;
  earliest = a.earliest;
  latest = a.latest;
}
