use mathlib.Core.Path.{◌≡◌}
use Prim.Native.Nat.{◌+◌, ◌*◌, ◌^◌, ◌<◌, ◌≤◌}
use Rattle.bits.specs.Numbers.{bit, number}
use Rattle.bits.specs.Sets.{spread}
use Rattle.tables.specs.Table.{table_bit}
use Rattle.tables.proofs.Pieces.{each}
use Rattle.tables.proofs.fixed.word_over.Given as goal

abbrev pub invariant-loop-q : goal.invariant-loop-q
invariant-loop-q l =
    (l.q ≤ l.pieces) × (l.r ≡ number (l.q * each l.mask) (λ j. table_bit l.t (l.at + spread l.n (bit l.mask) (64 * l.i + j))))
    × (l.f ≡ spread l.n (bit l.high) (l.i * l.pieces + l.q)) × (l.f < 2 ^ l.n)
