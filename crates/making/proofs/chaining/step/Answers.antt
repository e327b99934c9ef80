-- The chart, the cells, the signals and the table are each their own function's. Assumes nothing.
use mathlib.Core.Path.{◌≡◌, sym, ap, ◌∙◌, subst}
use mathlib.Core.Bool.{true}
use mathlib.Core.List.{List, ◌++◌}
use Prim.Native.Nat.{ℕ, ◌+◌}
use native.Mathlib.Omega.{arith}
use lib.Pow.{pow_mono}
use Rattle.bits.specs.Numbers.{bit}
use Rattle.bits.specs.Sets.{size}
use Rattle.bits.specs.Lists.{list_of}
use Rattle.bits.proofs.Masks.{mask_lt}
use Rattle.splits.specs.Columns.{most_first, few_columns}
use Rattle.splits.specs.Split.{reads_h}
use Rattle.columns.proofs.Reading.{held, beside_mask}
use Rattle.splits.proofs.Respect.{reads-H}
use Rattle.columns.specs.declared.split.Split.{Split}
use Rattle.chains.specs.Chain.{pick}
use Rattle.making.specs.declared.signals.Signals.{Signals}
use Rattle.making.specs.Stage.{signals_of}
use Rattle.making.specs.Area.{at_hand}
use Rattle.making.proofs.Halves.{half_whole, half-bits}
use Rattle.making.proofs.Picking.{picked_set, picked_count}
use Rattle.charts.proofs.Charting.{chart-room, power, charted}
use Rattle.making.proofs.chaining.step.Goals as goal

pub slice_bounds-chart-end-2 : goal.slice_bounds-chart-end-2
slice_bounds-chart-end-2 c = sym (half_whole c.args.work.now c.requires.n_value.1)

pub chart-requires : goal.chart-requires
chart-requires c =
    let s = c.args.s in
    let p = c.requires.n_value in
    let b = c.blank-seen.ensures in
    let e = power p.3 in record {
      limit_bound = (
        omega (arith, e, pow_mono {i = c.args.r} {j = most_first} p.3),
        half-bits c.args.work.now p.1 s.n s.most,
      );
      shared_in_bounds = (omega (arith, b.0, chart-room p.4 e), b.1);
      limit_value = subst (λ (m : ℕ). few_columns s.n (at_hand c.args.work.now) (bit s.own) (bit s.shared) m ≡ true) e
          c.requires.room.2;
    }

pub slice_bounds-pile_first-end-2 : goal.slice_bounds-pile_first-end-2
slice_bounds-pile_first-end-2 c = sym (half_whole c.args.work.now c.requires.n_value.1)

pub slice_bounds-pile_first-end-3 : goal.slice_bounds-pile_first-end-3
slice_bounds-pile_first-end-3 c = sym (c.chart.auto.seen ∙ c.blank-seen.ensures.0)

pub pile_first-pile-requires : goal.pile_first-pile-requires
pile_first-pile-requires c =
    let p = c.requires.n_value in record {
      n_value = (p.0, half-bits c.args.work.now p.1 c.args.s.n c.args.s.most, p.2, p.3, p.4);
      chart = charted p.3 c.chart.ensures;
      room = (c.requires.room.0, c.requires.room.2);
    }

pub overflow_add-s : goal.overflow_add-s
overflow_add-s c =
    let s = c.args.s in
    omega (
      arith,
      mask_lt s.n (reads_h (bit s.own) (bit s.shared)) (s.shared + s.free) (beside_mask s (held s)),
      pow_mono {i = s.n} {j = 16} s.most,
    )

-- the signals that are left, and how many
module _ (s : Split) (l q : Signals) (n : s.n ≡ l.count)
    (e : signals_of q ≡ pick l.count (bit (s.shared + s.free)) (signals_of l)) where
  left-count : q.count ≡ size s.n (reads_h (bit s.own) (bit s.shared))
  left-count = picked_count s.n (s.shared + s.free) (reads_h (bit s.own) (bit s.shared)) (beside_mask s (held s)) l.count
      n (signals_of l) q e

  left_few : q.count + size s.n (bit s.own) ≡ s.n
  left_few = omega (arith, left-count, reads-H s.n (bit s.own) (bit s.shared) s.apart)

pub with_next-signals-requires : goal.with_next-signals-requires
with_next-signals-requires c =
    let p = c.requires.n_value in
    (p.2, p.3, omega (arith, left_few c.args.s c.args.stage.signals c.pick-left.result c.requires.n_value.0 c.pick-left.ensures, p.4.more, c.args.s.most), c.requires.room.1)

pub slice_bounds-next_table-end : goal.slice_bounds-next_table-end
slice_bounds-next_table-end c = sym (c.chart.auto.seen ∙ c.blank-seen.ensures.0)

pub overflow_cast-signals : goal.overflow_cast-signals
overflow_cast-signals c = omega (arith, c.with_next-signals.result.few)

pub next_table-requires : goal.next_table-requires
next_table-requires c =
    let k = c.requires.n_value in (
      k.1,
      c.with_next-signals.result.few,
      c.with_next-signals.ensures.1 ∙ ap (λ (m : ℕ). m + c.args.r) (left-count c.args.s c.args.stage.signals c.pick-left.result c.requires.n_value.0 c.pick-left.ensures),
      charted k.3 c.chart.ensures,
      k.3,
    )

pub shape_of-work : goal.shape_of-work
shape_of-work c = c.next_table.ensures.long

pub returns : goal.returns
returns c =
    let s = c.args.s in
    record {
      cells = c.pile_first-pile.ensures;
      signals = c.with_next-signals.ensures.0 ∙ ap (λ (l : List ℕ). l ++ list_of c.args.r (λ t. c.args.next + t))
          (picked_set s.n (s.shared + s.free) (reads_h (bit s.own) (bit s.shared))
          (beside_mask s (held s)) c.args.stage.signals.count
          c.requires.n_value.0 (signals_of c.args.stage.signals) c.pick-left.result c.pick-left.ensures);
      table = c.next_table.ensures;
    }

pub slice_bounds-chart-end-3 : goal.slice_bounds-chart-end-3
slice_bounds-chart-end-3 c = sym c.blank-seen.ensures.0
