use mathlib.Core.Path.{◌≡◌}
use mathlib.Core.List.{List}
use Prim.Native.Nat.{ℕ, ◌/◌, ◌%◌}
use Rattle.tables.specs.Table.{byte_of}
use Rattle.tables.specs.Words.{gate_word}
use Rattle.bits.proofs.Filling.{Filled}
use Rattle.columns.specs.declared.split.Split.{Split}
use Rattle.making.specs.Area.{next_bit, next_inputs}
use Rattle.tables.specs.Work.{half}
use Rattle.making.proofs.area.store_next.Given as goal

-- byte i of H
abbrev pub next : Split → ℕ → List ℕ → ℕ → ℕ
next s r work = byte_of (next_inputs s r work) (next_bit s work)

abbrev pub invariant-loop-i : goal.invariant-loop-i
invariant-loop-i l =
    Filled half l.len (next l.s l.r l.initial.work) l.initial.work l.work l.i
    × ((l.i % 8 ≡ 0 → ⊥) → l.w ≡ gate_word (next_inputs l.s l.r l.initial.work) (next_bit l.s l.initial.work) (l.i / 8))

abbrev pub invariant-loop-j : goal.invariant-loop-j
invariant-loop-j l = Filled half l.len (next l.s l.r l.initial.work) l.initial.work l.work l.j
