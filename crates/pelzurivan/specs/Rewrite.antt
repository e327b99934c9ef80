-- A sheet rewritten, for C.
use Rattle.refusals.specs.Lines.{number_of, place_of}
use Rattle.rewriting.specs.Rewrite.{RewriteAnswer, RewriteOutcome}
use Rattle.pelzurivan.specs.declared.rewrite.RewrittenC.{RewrittenC}

-- the number, the first bad or unread record, and how many records
abbrev pub rewritten_of : RewriteAnswer → RewrittenC
rewritten_of a = record {
  number = number_of a.verdict;
  index = place_of a.verdict;
  count = a.count;
}

-- and of an outcome
abbrev pub rewritten_c : RewriteOutcome → RewrittenC
rewritten_c o = rewritten_of o.answer
