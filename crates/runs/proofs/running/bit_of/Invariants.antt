use Prim.Native.Nat.{◌+◌, ◌^◌, ◌<◌}
use Rattle.bits.specs.Numbers.{bit}
use Rattle.sheets.specs.Sheet.{sheet_bit}
use Rattle.runs.proofs.Runs.{Ran}
use Rattle.runs.proofs.running.bit_of.Given as goal

abbrev pub invariant-loop-i : goal.invariant-loop-i
invariant-loop-i l =
    (l.w < 2 ^ (l.n + l.i))
    × Ran l.e l.s l.m (sheet_bit l.e l.n l.s l.m l.x) l.n l.i l.o (bit l.w)
