-- A table rebuilt, for C.
use Rattle.refusals.specs.Verdicts.{Verdict}
use Rattle.refusals.specs.Lines.{number_of, place_of}
use Rattle.rebuilding.specs.RebuildTable.{RebuildOutcome}
use Rattle.pelzurivan.specs.declared.rebuild_table.RebuiltC.{RebuiltC}

-- the number, and the first bad or unread record
abbrev pub rebuilt_of : Verdict → RebuiltC
rebuilt_of v = record { number = number_of v; index = place_of v }

-- and of an outcome
abbrev pub rebuilt_c : RebuildOutcome → RebuiltC
rebuilt_c o = rebuilt_of o.verdict
