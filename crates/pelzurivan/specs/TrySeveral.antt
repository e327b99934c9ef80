-- A named split tried with several first cells, for C.
use Rattle.std.specs.Prelude.{get_or}
use Rattle.refusals.specs.Lines.{number_of, place_of}
use Rattle.splitting.specs.TrySplit.{TryAnswer, TryOutcome}
use Rattle.pelzurivan.specs.declared.try_several.TriedSeveralC.{TriedSeveralC}

-- the number, the first cells' tables, each one word in the first edition (`tried_words`, claims), and what 8 tells
abbrev pub tried_several_of : TryAnswer → TriedSeveralC
tried_several_of a = record {
  number = number_of a.verdict;
  first = get_or a.d.first.words 0 0;
  second = get_or a.d.second.words 0 0;
  third = get_or a.d.third.words 0 0;
  b = place_of a.verdict;
  columns = a.columns;
}

-- and of an outcome
abbrev pub tried_several_c : TryOutcome → TriedSeveralC
tried_several_c o = tried_several_of o.answer
