-- What is found in the table over the inputs that count, spread back, is the best over r over them. Assumes nothing.
use mathlib.Core.Path.{ap, ◌∙◌}
use Prim.Native.Nat.{ℕ}
use native.Mathlib.Omega.{arith}
use lib.ListN.{length, replicate}
use Rattle.bits.specs.Numbers.{bit}
use Rattle.tables.specs.Table.{table_bit}
use Rattle.tables.proofs.Bytes.{length_more}
use Rattle.splits.specs.Columns.{most_first}
use Rattle.choices.specs.Search.{spread_choice}
use Rattle.choices.proofs.Spread.{over_found}
use Rattle.choices.proofs.counted.find_over.Goals as goal

pub set_aside-requires : goal.set_aside-requires
set_aside-requires c = let p = c.requires in (p.0, p.1, p.2.below, p.4)

pub find_upto-found-requires : goal.find_upto-found-requires
find_upto-found-requires c =
    let w = c.requires.2 in (
      omega (arith, w.few, c.requires.1),
      omega arith,
      length_more c.args.counting.many c.args.n (length c.set_aside.new.room) w.few
          (omega (arith, c.requires.0, c.requires.4, c.set_aside.auto.room)),
      c.requires.3,
    )

pub shape_of-work : goal.shape_of-work
shape_of-work c = c.clear.auto.area ∙ c.set_aside.auto.room

pub returns : goal.returns
returns c =
    let a = c.args in
    let x = a.counting in (
      c.spread_back.ensures.0 ∙ ap (spread_choice a.n (bit x.mask)) c.find_upto-found.ensures.0
          ∙ over_found a.n most_first a.k (table_bit a.t.now) x c.set_aside.new.room c.requires.2
          c.set_aside.ensures,
      c.clear.ensures ∙ ap (λ (z : ℕ). replicate z 0) c.set_aside.auto.room,
      c.spread_back.ensures.1,
    )
