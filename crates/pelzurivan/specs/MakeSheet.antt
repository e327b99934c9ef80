-- A sheet made, for C.
use Rattle.refusals.specs.Lines.{number_of}
use Rattle.bench.specs.MakeSheet.{MakeAnswer, MakeOutcome}
use Rattle.pelzurivan.specs.declared.make_sheet.MadeC.{MadeC}

-- the number, and how many cells
abbrev pub made_of : MakeAnswer → MadeC
made_of a = record { number = number_of a.verdict; count = a.count }

-- and of an outcome
abbrev pub made_c : MakeOutcome → MadeC
made_c o = made_of o.answer
