-- A sheet checked, for C.
use Rattle.refusals.specs.Verdicts.{Verdict}
use Rattle.refusals.specs.Lines.{number_of, place_of}
use Rattle.pelzurivan.specs.declared.check_sheet.CheckedC.{CheckedC}

-- the number, and what it names
abbrev pub checked_c : Verdict → CheckedC
checked_c v = record { number = number_of v; place = place_of v }
