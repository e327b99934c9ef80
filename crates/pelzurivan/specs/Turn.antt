-- A three-input table turned into another, for C.
use Rattle.bits.specs.Numbers.{val}
use Rattle.refusals.specs.Lines.{number_of}
use Rattle.turning.specs.Turn.{TurnAnswer}
use Rattle.pelzurivan.specs.declared.turn.TurnedC.{TurnedC}

-- the number, and the way
abbrev pub turned_c : TurnAnswer → TurnedC
turned_c a = record {
  number = number_of a.verdict;
  flip = val a.way.flip;
  mask = a.way.mask;
  p0 = a.way.p0;
  p1 = a.way.p1;
  p2 = a.way.p2;
}
