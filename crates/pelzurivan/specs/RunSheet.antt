-- A sheet run, for C.
use Rattle.bits.specs.Numbers.{val}
use Rattle.refusals.specs.Lines.{number_of, place_of}
use Rattle.running.specs.RunSheet.{RunAnswer}
use Rattle.pelzurivan.specs.declared.run_sheet.RanC.{RanC}

-- the number, the bit, and the first bad or unread record
abbrev pub ran_c : RunAnswer → RanC
ran_c a = record { number = number_of a.verdict; bit = val a.bit; index = place_of a.verdict }
