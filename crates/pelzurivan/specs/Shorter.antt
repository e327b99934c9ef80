-- The shorter of two sheets, for C.
use Rattle.std.specs.Prelude.{List, ℕ, length}
use Rattle.refusals.specs.Lines.{number_of}
use Rattle.comparing.specs.Shorter.{Kept, part_of}
use Rattle.pelzurivan.specs.declared.shorter.ShorterC.{ShorterC}

-- which of x and y, how many bytes it has, and the number of the call beside
abbrev pub shorter_c : Kept → List ℕ → List ℕ → ShorterC
shorter_c k x y = record {
  which = k.which;
  length = length (part_of k.which x y);
  number = number_of k.verdict;
}
