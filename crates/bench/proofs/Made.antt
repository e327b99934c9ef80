-- What a result of make says, and how many cells it counts. Assumes nothing.
use Rattle.std.proofs.Common.{Result, Ok, Err}
use Rattle.std.specs.Result.{result_unwrap_or}
use mathlib.Core.Path.{◌≡◌, refl}
use Prim.Native.Nat.{ℕ}
use Rattle.refusals.specs.declared.verdicts.Refusal.{Refusal as Why}
use Rattle.refusals.specs.Results.{verdict_of}
use Rattle.bench.specs.MakeSheet.{make_answer}

pub made_says : (r : Result ℕ Why) → (make_answer r).verdict ≡ verdict_of r
made_says (Ok count) = refl
made_says (Err why) = refl

pub made_counts : (r : Result ℕ Why) → (make_answer r).count ≡ result_unwrap_or r 0
made_counts (Ok count) = refl
made_counts (Err why) = refl
