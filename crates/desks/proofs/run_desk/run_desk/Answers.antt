-- `run_desk` meets its contract: past 20 and 19 the desk's own bytes decide. Assumes nothing.
use mathlib.Core.Path.{◌≡◌, sym, ap, ◌∙◌}
use mathlib.Core.Bool.{Bool, false}
use Prim.Native.Nat.{ℕ, ◌+◌, ◌-◌, ◌≤◌}
use native.Mathlib.Omega.{arith}
use lib.ListN.{length, take, drop}
use Rattle.refusals.specs.Verdicts.{Verdict}
use Rattle.refusals.proofs.Tests.{inside}
use Rattle.cards.specs.Card.{desks, desk_bytes, base, own_bytes}
use Rattle.cards.specs.Refusals.{no_desk}
use Rattle.cards.specs.RunDesk.{desk_outcome}
use Rattle.cards.proofs.Making.{own_length}
use Rattle.cards.proofs.Desks.{run_own_lem, run_short, no_such_desk}
use Rattle.desks.proofs.run_desk.run_desk.Goals as goal

pub returns-then-card-ne-CARD : goal.returns-then-card-ne-CARD
returns-then-card-ne-CARD c =
    let a = c.args in
    sym (run_short a.card.now a.d a.x c.if-card-ne-CARD.true)

pub returns-then-outside : goal.returns-then-outside
returns-then-outside c =
    let a = c.args in
    sym (run_own_lem a.card.now a.d a.x c.if-card-ne-CARD.false
    ∙ no_such_desk (own_bytes a.card.now a.d) a.d a.x (sym c.outside.ensures ∙ c.if-outside.true))

-- past them
module _ (d : ℕ) {b : Bool} (q : b ≡ no_desk d) (e : b ≡ false) where
  known : no_desk d ≡ false
  known = sym q ∙ e

  least : 1 ≤ d
  least = (inside 1 d desks known).0

  most : d ≤ desks
  most = (inside 1 d desks known).1

  cut : base d + desk_bytes - base d ≡ desk_bytes
  cut = omega arith

pub run_bytes-requires : goal.run_bytes-requires
run_bytes-requires c =
    let l = c.args.card.now in
    let d = c.args.d in (
      ap (λ (k : ℕ). length (take k (drop (base d) l))) (cut d c.outside.ensures c.if-outside.false)
          ∙ own_length l d c.if-card-ne-CARD.false (most d c.outside.ensures c.if-outside.false),
      known d c.outside.ensures c.if-outside.false,
    )

pub returns : goal.returns
returns c =
    let a = c.args in
    c.run_bytes.ensures
    ∙ ap (λ (k : ℕ). desk_outcome (take k (drop (base a.d) a.card.now)) a.d a.x)
    (cut a.d c.outside.ensures c.if-outside.false)
    ∙ sym (run_own_lem a.card.now a.d a.x c.if-card-ne-CARD.false)

pub overflow_sub-base : goal.overflow_sub-base
overflow_sub-base c = least c.args.d c.outside.ensures c.if-outside.false

pub overflow_mul-base : goal.overflow_mul-base
overflow_mul-base c = omega (arith, most c.args.d c.outside.ensures c.if-outside.false)

pub overflow_add-end : goal.overflow_add-end
overflow_add-end c = omega (arith, most c.args.d c.outside.ensures c.if-outside.false)

pub slice_bounds-run_bytes-end : goal.slice_bounds-run_bytes-end
slice_bounds-run_bytes-end c =
    let l = least c.args.d c.outside.ensures c.if-outside.false in
    omega (arith, l, most c.args.d c.outside.ensures c.if-outside.false)

pub overflow_cast-d : goal.overflow_cast-d
overflow_cast-d c = omega (arith, most c.args.d c.outside.ensures c.if-outside.false)
