-- The refusal of a sheet that can't be read.
use Rattle.records.specs.declared.rules.BadSheet.{BadSheet}
use Rattle.records.specs.declared.rules.BadSheet.TheVariants.{Length, Record as BadRecord}
use Rattle.refusals.specs.declared.verdicts.Refusal.TheVariants.{Sheet, Record}
use Rattle.refusals.specs.declared.verdicts.Refusal.{Refusal as Why}

-- a wrong length, or a record that breaks the rules
abbrev pub why_bad : BadSheet → Why
why_bad Length = Sheet
why_bad (BadRecord i) = Record i
