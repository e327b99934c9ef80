use mathlib.Core.List.{List}
use Prim.Native.Nat.{ℕ, ◌*◌, ◌/◌, ◌%◌, ◌^◌}
use lib.ListN.{get_or}
use Rattle.bits.proofs.Filling.{Filled}
use Rattle.runs.proofs.Choosing.{four}
use Rattle.runs.proofs.words.pairs.Given as goal

abbrev pub pair : List ℕ → ℕ → ℕ → ℕ
pair t s h = get_or (four s) (get_or t (h / 4) 0 / 2 ^ (2 * (h % 4)) % 4) 0

abbrev pub invariant-loop-h : goal.invariant-loop-h
invariant-loop-h l = Filled 0 l.many (pair l.t l.first) l.initial.v l.v l.h
