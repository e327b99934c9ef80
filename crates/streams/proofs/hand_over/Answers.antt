-- `hand_over` writes its bytes in their order: each write begins behind what is written.
use Rattle.std.proofs.Common.{rules, ◌++◌, ◌-◌, length, sym, ap, subst, ◌∙◌, take, drop, take-add, take_all, length-drop, arith}
use Rattle.std.specs.Io.KnownBytes.{Appends}
use Rattle.streams.proofs.Known.{Appends-then}
use Rattle.streams.proofs.hand_over.Goals as goal

pub loop-done-preserved : goal.loop-done-preserved
loop-done-preserved g c =
    let done = c.loop-done.done in
    let bytes = c.args.bytes.now in
    let count = c.in-Ok.count in
    let rest = take_all (length bytes - done) (drop done bytes) (omega (arith, length-drop done bytes)) in
    let more = take-add done count bytes ∙ ap (λ l. take done bytes ++ take count l) (sym rest) in
    (search rules, subst (Appends _ _) (sym more) (Appends-then _ _ _ _ _ c.loop-done.invariant.1 c.in-Ok.ensures.bytes))
