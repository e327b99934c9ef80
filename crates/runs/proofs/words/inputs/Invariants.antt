use lib.ListN.{replicate}
use Rattle.bits.proofs.Filling.{Filled}
use Rattle.runs.specs.Words.{input_word}
use Rattle.runs.proofs.words.inputs.Given as goal

abbrev pub invariant-loop-j : goal.invariant-loop-j
invariant-loop-j l = Filled 0 l.n (λ k. input_word k l.w) (replicate 32 0) l.r l.j
