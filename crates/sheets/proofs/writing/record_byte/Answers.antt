-- `record_byte` meets its contract: each return is one kind of byte. Assumes nothing.
use mathlib.Core.Path.{sym, ◌∙◌}
use Prim.Native.Nat.{◌-◌}
use native.Mathlib.Omega.{arith}
use lib.ListN.{get_or, get_or-eq_default}
use lib.Pow.{pow_mono}
use Rattle.sheets.specs.Edition.{largest_cell}
use Rattle.sheets.specs.Held.{network_cell}
use Rattle.bits.proofs.Lists.{length-list, list_at}
use Rattle.sheets.proofs.Places.{table-bits}
use Rattle.sheets.proofs.Inverse.{count_at, signal_at, desk_at_lem, zero_at, table_at}
use Rattle.sheets.proofs.writing.record_byte.Goals as goal

pub returns-then-j-eq0 : goal.returns-then-j-eq0
returns-then-j-eq0 c =
    let a = c.args in
    sym (count_at a.e c.requires.0 a.d (network_cell a.c) a.j c.if-j-eq0.true
    ∙ length-list a.c.k (λ j. get_or a.c.signals j 0))

pub returns-then-j-c : goal.returns-then-j-c
returns-then-j-c c =
    let a = c.args in
    sym (signal_at a.e c.requires.0 a.d (network_cell a.c) a.j (omega arith) (omega arith)
    ∙ list_at a.c.k (λ j. get_or a.c.signals j 0) (a.j - 1) 255 (omega arith))

pub returns-else-j-c : goal.returns-else-j-c
returns-else-j-c c =
    let a = c.args in
    sym (signal_at a.e c.requires.0 a.d (network_cell a.c) a.j (omega arith) (omega arith)
    ∙ get_or-eq_default (network_cell a.c).signals 255 {n = a.j - 1}
    (omega (arith, length-list a.c.k (λ j. get_or a.c.signals j 0))))

pub returns-then-j-e-2 : goal.returns-then-j-e-2
returns-then-j-e-2 c = let a = c.args
    in sym (desk_at_lem a.e c.requires.0 a.d (network_cell a.c) a.j c.if-j-e-2.true)

pub returns-then-j-e-3 : goal.returns-then-j-e-3
returns-then-j-e-3 c = let a = c.args
    in sym (zero_at a.e c.requires.0 a.d (network_cell a.c) a.j (omega arith) c.if-j-e-3.true)

pub byte-requires : goal.byte-requires
byte-requires c =
    let e = c.args.e in
    omega (arith, table-bits e c.requires.0, pow_mono {i = e.most} {j = largest_cell} c.requires.0.eight, c.requires.2)

pub returns : goal.returns
returns c =
    let a = c.args in
    c.byte.ensures ∙ sym (table_at a.e c.requires.0 a.d (network_cell a.c) a.j (omega arith))
