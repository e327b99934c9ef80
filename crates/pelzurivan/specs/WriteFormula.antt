-- A formula written, for C.
use Rattle.refusals.specs.Lines.{number_of, place_of}
use Rattle.printing.specs.WriteFormula.{WriteAnswer, WriteOutcome}
use Rattle.pelzurivan.specs.declared.write_formula.FormulaWrittenC.{FormulaWrittenC}

-- the number, the index of a bad record, and the text's length
abbrev pub formula_written_of : WriteAnswer → FormulaWrittenC
formula_written_of a = record {
  number = number_of a.verdict;
  place = place_of a.verdict;
  length = a.length;
}

-- and of an outcome
abbrev pub formula_written_c : WriteOutcome → FormulaWrittenC
formula_written_c o = formula_written_of o.answer
