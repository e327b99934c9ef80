use mathlib.Core.Path.{◌≡◌}
use mathlib.Core.Bool.{Bool, true}
use mathlib.Core.List.{List}
use Prim.Native.Nat.{ℕ, ◌+◌, ◌-◌, ◌≤◌}
use Rattle.bits.specs.Below.{every}
use Rattle.sheets.specs.declared.kinds.Edition.{Edition}
use Rattle.sheets.specs.Record.{byte_at, byte_ok}
use Rattle.records.proofs.rules.record_ok.Given as goal

abbrev pub asked : Edition → ℕ → ℕ → List ℕ → ℕ → Bool
asked e d top b h = byte_ok e d top (byte_at b 0) h (byte_at b h) (byte_at b (h + 1))

abbrev pub invariant-loop-j : goal.invariant-loop-j
invariant-loop-j l = every l.j (asked l.e l.d l.top l.b) ≡ true
