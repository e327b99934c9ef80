-- With room for the columns of all own assignments none is one too many. Assumes nothing.
use mathlib.Core.Path.{◌≡◌, sym, ap, ◌∙◌, subst}
use mathlib.Core.Bool.{Bool}
use Prim.Native.Nat.{ℕ, ◌^◌, ◌≤◌}
use native.Mathlib.Omega.{arith}
use lib.Pow.{pow_mono}
use lib.ListN.{length}
use Rattle.bits.specs.Numbers.{bit}
use Rattle.bits.specs.Sets.{size, gather}
use Rattle.bits.proofs.Spreading.{gather-spread}
use Rattle.std.specs.Option.{is_some}
use Rattle.bits.proofs.Places.{found_some}
use Rattle.tables.specs.Table.{table_bit}
use Rattle.splits.specs.Columns.{most_own, columns, column}
use Rattle.columns.specs.Reading.{Within, columns_of}
use Rattle.columns.proofs.Reading.{within_spread}
use Rattle.columns.proofs.Breaking.{firsts_most}
use Rattle.columns.proofs.Places.{below_of_some}
use Rattle.columns.proofs.columns.columns_at.Goals as goal

pub look_through-requires : goal.look_through-requires
look_through-requires c =
    let o = c.spread_out-base.ensures in
    let p = c.requires in record {
      base_within = (
        subst (Within c.args.s.n c.args.s.shared) (sym o.0)
            (within_spread c.args.s.n c.args.s.shared c.args.b p.b_bound),
        omega arith,
        omega arith,
      );
      n_bound = p.own_bound.1;
    }

-- at most as many columns as own assignments
columns_most : (n : ℕ) (F : ℕ → Bool) (A B : ℕ → Bool) (b : ℕ) → size n A ≤ most_own → length (columns n F A B b)
    ≤ 2 ^ most_own
unfolding columns
columns_most n F A B b h = omega (
  arith,
  firsts_most (column n F A B b) (2 ^ size n A),
  pow_mono {i = size n A}
      {j = most_own} h,
)

pub returns : goal.returns
returns c =
    let o = c.spread_out-base.ensures in
    let a = c.args in
    let F = table_bit a.t.now in
    let at : gather a.s.n (bit a.s.shared) c.spread_out-base.result ≡ a.b =
    ap (gather a.s.n (bit a.s.shared)) o.0 ∙ gather-spread a.s.n (bit a.s.shared) a.b c.requires.b_bound
    in
    (below_of_some (sym c.look_through.ensures.counted ∙ c.unwrap.ensures)).1
    ∙ ap (λ (b : ℕ). length (columns_of a.s F b)) at

pub unwrap-requires : goal.unwrap-requires
unwrap-requires c =
    let a = c.args in
    ap is_some (c.look_through.ensures.counted ∙ sym (found_some _ _
    (omega (
      arith,
      columns_most a.s.n (table_bit a.t.now) (bit a.s.own) (bit a.s.shared)
          (gather a.s.n (bit a.s.shared) c.spread_out-base.result) c.requires.own_bound.0,
    ))))
