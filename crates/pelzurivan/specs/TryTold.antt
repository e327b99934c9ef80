-- A named split tried in a told edition, for C.
use Rattle.std.specs.Prelude.{get_or}
use Rattle.refusals.specs.Lines.{number_of, place_of}
use Rattle.splitting.specs.TrySplit.{TryAnswer, TryOutcome}
use Rattle.pelzurivan.specs.declared.try_told.TriedToldC.{TriedToldC}

-- the number, D's four words, and what 8 tells
abbrev pub tried_told_of : TryAnswer → TriedToldC
tried_told_of a = record {
  number = number_of a.verdict;
  d0 = get_or a.d.first.words 0 0;
  d1 = get_or a.d.first.words 1 0;
  d2 = get_or a.d.first.words 2 0;
  d3 = get_or a.d.first.words 3 0;
  b = place_of a.verdict;
  columns = a.columns;
}

-- and of an outcome
abbrev pub tried_told_c : TryOutcome → TriedToldC
tried_told_c o = tried_told_of o.answer
