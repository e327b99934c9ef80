-- The signals are appended in turn. Assumes nothing.
use mathlib.Core.Path.{◌≡◌, sym, ap, ◌∙◌}
use mathlib.Core.List.{List, [], ◌∷◌, ◌++◌, append_assoc, append-nil}
use Prim.Native.Nat.{ℕ, ◌+◌}
use native.Mathlib.Omega.{arith}
use Rattle.bits.specs.Lists.{list_of}
use Rattle.bits.proofs.Lists.{list_more}
use Rattle.making.specs.Stage.{signals_of}
use Rattle.making.proofs.signals.Signals.with_next.Goals as goal

pub loop-t-init : goal.loop-t-init
unfolding list_of
loop-t-init c = (sym (append-nil (signals_of c.args.self)), omega arith)

pub with-signals-requires : goal.with-signals-requires
with-signals-requires c = omega (arith, c.loop-t.invariant.1, c.requires.2)

pub loop-t-preserved : goal.loop-t-preserved
loop-t-preserved c =
    let i = c.loop-t.invariant in
    let a = c.args in
    let t = c.loop-t.t in
    let w = c.with-signals.ensures in (
      w.0 ∙ ap (λ (l : List ℕ). l ++ ((a.from + t) ∷ [])) i.0
          ∙ append_assoc (signals_of a.self) (list_of t (λ t. a.from + t)) ((a.from + t) ∷ [])
          ∙ ap (λ (l : List ℕ). signals_of a.self ++ l) (sym (list_more t (λ t. a.from + t))),
      omega (arith, w.1, i.1),
    )

pub returns : goal.returns
returns c =
    let i = c.loop-t.invariant in
    let a = c.args in
    let e : c.loop-t.t ≡ a.many = omega arith in (
      i.0 ∙ ap (λ (k : ℕ). signals_of a.self ++ list_of k (λ t. a.from + t)) e,
      omega (arith, i.1),
    )
