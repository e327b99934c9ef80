-- `also_read` meets its contract. The loop's invariant: the signals passed have their bits. Assumes nothing.
use mathlib.Core.Path.{◌≡◌, ap, ap₂, ◌∙◌}
use Prim.Native.Nat.{◌+◌}
use native.Mathlib.Omega.{arith}
use lib.Bits.{bit_or}
use Rattle.bits.proofs.Machine.{shl_one}
use Rattle.sheets.specs.Record.{byte_at}
use Rattle.unread.proofs.ReadMasks.{Named, named_none, named_more}
use Rattle.unread.proofs.reading.also_read.Goals as goal

pub loop-j-init : goal.loop-j-init
loop-j-init c = let a = c.args in named_none (byte_at a.b.now) a.w (omega arith)

pub overflow_shl-read : goal.overflow_shl-read
overflow_shl-read c = c.requires.1 c.loop-j.j (omega arith)

pub loop-j-preserved : goal.loop-j-preserved
loop-j-preserved c =
    let b = byte_at c.args.b.now in
    let below = c.requires.1 c.loop-j.j (omega arith) in
    ap₂ bit_or c.loop-j.invariant (shl_one 32 (b (c.loop-j.j + 1)) below)
    ∙ named_more b c.args.w c.loop-j.j below

pub returns : goal.returns
returns c =
    let a = c.args in
    let f : c.loop-j.j ≡ byte_at a.b.now 0 = omega arith in
    c.loop-j.invariant ∙ ap (Named (byte_at a.b.now) a.w) f

pub overflow_cast-read : goal.overflow_cast-read
overflow_cast-read c = omega (arith, c.requires.1 c.loop-j.j (omega arith))
