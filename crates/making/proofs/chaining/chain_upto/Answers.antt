-- Setting aside, following the chain and clearing, in turn. Assumes nothing.
use mathlib.Core.Path.{◌≡◌, sym, ap, ap₂, ◌∙◌, subst}
use mathlib.Core.List.{List}
use Prim.Native.Nat.{ℕ, ◌<◌, ◌^◌}
use native.Mathlib.Omega.{arith}
use lib.ListN.{replicate}
use Rattle.bits.specs.Numbers.{bit}
use Rattle.tables.specs.Table.{table_bit}
use Rattle.tables.proofs.Keeping.{kept-lt}
use Rattle.chains.specs.Chain.{pick, inputs}
use Rattle.making.specs.declared.signals.Signals.{Signals}
use Rattle.making.specs.Stage.{signals_of}
use Rattle.making.specs.Chaining.{Tells}
use Rattle.tables.proofs.Work.{half-holds}
use Rattle.making.proofs.Loaded.{kept_few, kept_more, kept-chain}
use Rattle.making.proofs.chaining.chain_upto.Goals as goal

pub set_aside-requires : goal.set_aside-requires
set_aside-requires c =
    let a = c.args in (
      c.requires.5,
      c.requires.1,
      subst (λ (m : ℕ). m < 2 ^ a.n) (sym c.kept_of-kept.ensures)
          (kept-lt a.n (table_bit a.t.now) c.requires.0),
      omega (arith, c.requires.5, c.requires.6, half-holds a.n c.requires.1),
    )

-- the signals are those that are kept
picked : (n m : ℕ) (l : Signals) (q : Signals) → signals_of l ≡ inputs n → l.count ≡ n
    → signals_of q ≡ pick l.count (bit m) (signals_of l) → signals_of q ≡ pick n (bit m) (inputs n)
picked n m l q e g h = h ∙ ap₂ (λ (k : ℕ) (l : List ℕ). pick k (bit m) l) g e

pub follow-end-requires : goal.follow-end-requires
follow-end-requires c =
    let a = c.args in
    let taken = picked c.args.n c.kept_of-kept.result c.inputs.result c.pick-signals.result c.inputs.ensures.0
    c.inputs.ensures.1 c.pick-signals.ensures in
    let F = table_bit a.t.now in record {
      n_le_most_inputs = (c.requires.1, c.requires.2, c.requires.3, c.requires.4, omega (arith, c.set_aside.auto.room, c.requires.6));
      some = (
        kept_more a.n F c.kept_of-kept.result c.kept_of-kept.ensures c.pick-signals.result taken c.requires.0,
        kept_few a.n F c.kept_of-kept.result c.kept_of-kept.ensures c.pick-signals.result taken,
      );
    }

pub shape_of-work : goal.shape_of-work
shape_of-work c =
    c.clear.auto.area ∙ c.follow-end.auto.work
    ∙ c.set_aside.auto.room

pub returns : goal.returns
returns c =
    let a = c.args in
    let taken = picked c.args.n c.kept_of-kept.result c.inputs.result c.pick-signals.result c.inputs.ensures.0
    c.inputs.ensures.1 c.pick-signals.ensures in
    let F = table_bit a.t.now in
    record {
      told = subst (Tells c.follow-end.result)
          (kept-chain a.n F c.kept_of-kept.result c.kept_of-kept.ensures c.pick-signals.result taken a.most a.k
          c.set_aside.new.room
          c.requires.0 (omega (arith, c.requires.3)) c.requires.1 c.set_aside.ensures)
          c.follow-end.ensures;
      cleared = c.clear.ensures ∙ ap (λ (m : ℕ). replicate m 0)
          (c.follow-end.auto.work ∙ c.set_aside.auto.room);
    }
