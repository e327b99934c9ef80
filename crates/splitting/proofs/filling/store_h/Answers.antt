-- `store_h` meets its contract. The loop's invariant: the bytes passed are H's. Assumes nothing.
use mathlib.Core.Path.{◌≡◌, refl, sym, ap, ◌∙◌, subst}
use mathlib.Core.List.{◌++◌}
use Prim.Native.Nat.{ℕ}
use native.Mathlib.Omega.{arith}
use lib.ListN.{drop, length-set}
use lib.Pow.{pow_mono}
use Rattle.bits.specs.Numbers.{bit}
use Rattle.bits.specs.Lists.{list_of}
use Rattle.tables.specs.Table.{table_length, table_bit, bytes_of, table_of}
use Rattle.tables.proofs.Bytes.{written_more, length_bytes}
use Rattle.splits.specs.Columns.{most_first}
use Rattle.splits.specs.Pair.{inputs_h, bytes_h}
use Rattle.columns.specs.Reading.{Chart}
use Rattle.charts.proofs.Charting.{power}
use Rattle.splitting.proofs.filling.store_h.Invariants.{bits}
use Rattle.splitting.proofs.filling.store_h.Goals as goal

pub loop-i-init : goal.loop-i-init
unfolding list_of
loop-i-init c = (refl, refl)

pub h_byte-requires : goal.h_byte-requires
h_byte-requires c =
    let p = c.requires.n_bound in
    let e = sym (power p.2) in (
      p.0,
      subst (λ (m : ℕ). Chart c.args.s (table_bit c.args.t.now) m c.args.seen.now) (sym e) p.1,
      omega (arith, e, pow_mono {i = c.args.r} {j = most_first} p.2),
      omega arith,
    )

pub loop-i-preserved : goal.loop-i-preserved
loop-i-preserved c =
    let q = c.loop-i in
    let a = c.args in (
      length-set q.room q.i c.h_byte.result ∙ q.invariant.0,
      written_more q.i (bits a.t.now a.s a.r) q.room a.room.now c.h_byte.result (omega arith)
          q.invariant.1 (c.h_byte.ensures a.r (sym (power c.requires.n_bound.2))),
    )

pub returns : goal.returns
unfolding bytes_h table_of
returns c =
    let q = c.loop-i in
    let a = c.args in
    let f = bits a.t.now a.s a.r in
    let e : q.i ≡ a.end = omega arith in
    let l = length_bytes (table_length (inputs_h a.s.n (table_bit a.t.now) (bit a.s.own) (bit a.s.shared)
    a.r)) f in
    q.invariant.1 ∙ ap (λ (m : ℕ). bytes_of m f ++ drop m a.room.now) (e ∙ c.requires.end_value)
    ∙ ap (λ (m : ℕ). bytes_of (table_length (inputs_h a.s.n (table_bit a.t.now) (bit a.s.own)
    (bit a.s.shared) a.r)) f ++ drop m a.room.now) (sym l)
