-- A named split tried, for C.
use Rattle.std.specs.Prelude.{get_or}
use Rattle.refusals.specs.Lines.{number_of, place_of}
use Rattle.splitting.specs.TrySplit.{TryAnswer, TryOutcome}
use Rattle.pelzurivan.specs.declared.try_split.TriedC.{TriedC}

-- the number, D, which is one word in the first edition (`tried_one-word`, claims), and what 8 tells
abbrev pub tried_of : TryAnswer → TriedC
tried_of a = record {
  number = number_of a.verdict;
  d = get_or a.d.first.words 0 0;
  b = place_of a.verdict;
  columns = a.columns;
}

-- and of an outcome
abbrev pub tried_c : TryOutcome → TriedC
tried_c o = tried_of o.answer
