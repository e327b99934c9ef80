-- The column is looked for in its shared assignment's row of the chart. Assumes nothing.
use mathlib.Core.Path.{◌≡◌, refl, sym, ap, ◌∙◌}
use Rattle.std.specs.Option.{is_some}
use Prim.Native.Nat.{ℕ, ◌+◌, ◌-◌, ◌*◌, ◌≤◌}
use native.Mathlib.Omega.{arith}
use lib.Bits.{bit_and}
use lib.ListN.{length}
use Rattle.tables.specs.Table.{table_bit}
use Rattle.columns.specs.Reading.{shared_part}
use Rattle.charts.proofs.Codes.{base-le, base_within, own_within, row_there, row_length, row_own, code_found}
use Rattle.columns.proofs.Reading.{held}
use Rattle.charts.proofs.pair.code_at.Lts as lts
use Rattle.charts.proofs.pair.code_at.Reads as reads
use Rattle.charts.proofs.pair.code_at.Tie as tie
use Rattle.charts.proofs.pair.code_at.Goals as goal

module _ (c : lts.After-gather_in tie.the-claims reads.Pre reads.Post tie.handed_clauses) where
  abbrev g : lts.Start tie.the-claims reads.Pre reads.Post tie.handed_clauses
  g = c.before.before.before.before

  abbrev base : ℕ
  base = bit_and g.args.x g.args.s.shared

  abbrev from : ℕ
  from = c.gather_in.result * g.args.limit

  start : from ≡ shared_part g.args.s g.args.x * g.args.limit
  start = ap (λ (b : ℕ). b * g.args.limit) c.gather_in.ensures.0

  there : from + g.args.limit ≤ length g.args.seen.now
  there =
      row_there g.args.s (held g.args.s) (table_bit g.args.t.now) g.args.x base g.requires.x_read.0 refl
      g.requires.chart from g.args.limit start refl

pub overflow_sub-x : goal.overflow_sub-x
overflow_sub-x c =
    base-le (g c.before).args.s (held (g c.before).args.s) (table_bit (g c.before).args.t.now) (g c.before).args.x (base c.before)
    (g c.before).requires.x_read.0 refl

pub place-requires : goal.place-requires
place-requires c =
    let a = (g c.before.before).args in
    let p = (g c.before.before).requires.x_read in
    let F = table_bit a.t.now in
    let m = from c.before.before + a.limit - from c.before.before in record {
      base_within = (
        base_within a.s (held a.s) F a.x (base c.before.before) p.0 refl,
        own_within a.s (held a.s) F a.x (base c.before.before) p.0
            refl,
      );
      n_bound = p.1;
      k_in_bounds = (
        omega (
          arith,
          row_length a.s (held a.s) F a.x (base c.before.before) p.0 refl (g c.before.before).requires.chart (from c.before.before) m (start c.before.before)
              (omega arith),
        ),
        row_own a.s (held a.s) F a.x (base c.before.before) p.0 refl (g c.before.before).requires.chart (from c.before.before) m (start c.before.before) (omega arith),
      );
    }

pub unwrap-requires : goal.unwrap-requires
unwrap-requires c =
    let a = c.args in
    let p = c.requires.x_read in
    ap is_some (code_found a.s (held a.s) (table_bit a.t.now) a.x (bit_and a.x a.s.shared) p.0 refl c.requires.chart (c.gather_in.result * a.limit)
    (c.gather_in.result * a.limit + a.limit - c.gather_in.result * a.limit) (ap (λ (b : ℕ). b * a.limit) c.gather_in.ensures.0)
    (omega arith) c.requires.limit_value c.place.ensures)

pub returns : goal.returns
returns c =
    let a = c.args in
    let p = c.requires.x_read in
    let found = code_found a.s (held a.s) (table_bit a.t.now) a.x (bit_and a.x a.s.shared) p.0 refl c.requires.chart (c.gather_in.result * a.limit)
    (c.gather_in.result * a.limit + a.limit - c.gather_in.result * a.limit) (ap (λ (b : ℕ). b * a.limit) c.gather_in.ensures.0)
    (omega arith) c.requires.limit_value c.place.ensures in
    let e = sym c.unwrap.ensures ∙ found in cc

pub overflow_mul-from : goal.overflow_mul-from
overflow_mul-from c = omega (arith, there c.before)

pub overflow_add-end : goal.overflow_add-end
overflow_add-end c = omega (arith, there c.before)

pub offset_bounds-seen-from : goal.offset_bounds-seen-from
offset_bounds-seen-from c = omega (arith, there c.before)

pub slice_bounds-place-end : goal.slice_bounds-place-end
slice_bounds-place-end c = omega (arith, there c.before)
