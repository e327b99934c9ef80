-- `fill` keeps in its room what it has read: each read goes behind what stands there.
use Rattle.std.proofs.Common.{rules, sym, subst}
use Rattle.std.specs.Io.KnownBytes.{Consumes}
use Rattle.streams.proofs.Known.{Consumes-then, taken_behind}
use Rattle.streams.proofs.fill.Goals as goal

pub loop-got-preserved : goal.loop-got-preserved
loop-got-preserved g c =
    let before = c.loop-got.invariant in
    let read = c.in-Ok.ensures in
    let behind = taken_behind c.loop-got.got c.in-Ok.count c.loop-got.room c.read.new.buf _ before.0 read.bound.0 in
    (search rules, subst (Consumes _ _) (sym behind) (Consumes-then _ _ _ _ _ before.1 read.bytes.0))
