use Prim.Native.Nat.{◌^◌, ◌<◌}
use Rattle.bits.specs.Numbers.{bit}
use Rattle.sheets.specs.Record.{byte_at}
use Rattle.runs.specs.Running.{input_at}
use Rattle.runs.proofs.Halving.{Halved}
use Rattle.runs.proofs.running.halved.Given as goal

abbrev pub invariant-loop-j : goal.invariant-loop-j
invariant-loop-j l =
    (l.left < 2 ^ 64) × Halved 6 (input_at (byte_at l.b) (bit l.w)) l.t l.left l.j
