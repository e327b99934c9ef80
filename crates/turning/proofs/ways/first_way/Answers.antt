-- `first_way` meets its contract. The loop's invariant: no way passed turns f into g. Assumes nothing.
use mathlib.Core.Path.{◌≡◌, refl, sym, ap, subst, ◌∙◌}
use Prim.Native.Nat.{ℕ}
use native.Mathlib.Omega.{arith}
use Rattle.bits.specs.Below.{least}
use Rattle.bits.specs.Places.{found_below}
use Rattle.bits.proofs.Least.{least_more, least_stop}
use Rattle.bits.proofs.Places.{found_some, found_none}
use Rattle.turning.specs.declared.ways.Way.{Way}
use Rattle.turning.specs.Ways.{IsWay, way_count}
use Rattle.turning.specs.Listing.{turns, first_way}
use Rattle.turning.proofs.Listed.{way_at_lem}
use Rattle.turning.proofs.ways.first_way.Invariants.{test}
use Rattle.turning.proofs.ways.first_way.Goals as goal

pub loop-i-init : goal.loop-i-init
unfolding least
loop-i-init c = refl

pub does_turn-requires : goal.does_turn-requires
does_turn-requires c =
    subst (λ (w : Way). IsWay w) (sym c.way_at.ensures) (way_at_lem c.loop-i.i (omega arith))

pub returns-then-does_turn : goal.returns-then-does_turn
unfolding first_way
returns-then-does_turn c =
    let a = c.args in
    let looked : c.does_turn.result ≡ test a.f a.g c.loop-i.i =
    c.does_turn.ensures ∙ ap (λ (w : Way). turns w a.f a.g) c.way_at.ensures in
    found_some way_count c.loop-i.i (omega arith)
    ∙ ap (found_below way_count) (sym (least_stop c.loop-i.i way_count (test a.f a.g) c.loop-i.invariant
    (sym looked ∙ c.if-does_turn.true) (omega arith)))

pub loop-i-preserved : goal.loop-i-preserved
loop-i-preserved c =
    let a = c.args in
    let looked : c.does_turn.result ≡ test a.f a.g c.loop-i.i =
    c.does_turn.ensures ∙ ap (λ (w : Way). turns w a.f a.g) c.way_at.ensures in
    least_more c.loop-i.i (test a.f a.g) c.loop-i.invariant (sym looked ∙ c.if-does_turn.false)

pub returns : goal.returns
unfolding first_way
returns c =
    let a = c.args in
    let z : c.loop-i.i ≡ way_count = omega arith in
    let e : first_way a.f a.g ≡ way_count = subst (λ (k : ℕ). least k (test a.f a.g) ≡ k) z c.loop-i.invariant in
    found_none way_count (first_way a.f a.g) (omega arith)
