-- A formula read, for C.
use Rattle.refusals.specs.Verdicts.{Verdict}
use Rattle.refusals.specs.Lines.{number_of, place_of}
use Rattle.formulas.specs.ReadFormula.{ReadOutcome}
use Rattle.pelzurivan.specs.declared.read_formula.FormulaReadC.{FormulaReadC}

-- the number, and the place at which the text can't be continued
abbrev pub formula_read_of : Verdict → FormulaReadC
formula_read_of v = record { number = number_of v; place = place_of v }

-- and of an outcome
abbrev pub formula_read_c : ReadOutcome → FormulaReadC
formula_read_c o = formula_read_of o.verdict
