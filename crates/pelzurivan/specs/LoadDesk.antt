-- A desk loaded, for C.
use Rattle.refusals.specs.Verdicts.{Verdict}
use Rattle.refusals.specs.Lines.{number_of, place_of}
use Rattle.cards.specs.LoadDesk.{LoadOutcome}
use Rattle.pelzurivan.specs.declared.load_desk.LoadedC.{LoadedC}

-- the number, and the first bad or unread record
abbrev pub loaded_of : Verdict → LoadedC
loaded_of v = record { number = number_of v; index = place_of v }

-- and of an outcome
abbrev pub loaded_c : LoadOutcome → LoadedC
loaded_c o = loaded_of o.verdict
