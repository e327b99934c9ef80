-- What is found in the table over the inputs that count, spread back, is the best split over them. Assumes nothing.
use mathlib.Core.Path.{ap, ◌∙◌}
use Prim.Native.Nat.{ℕ}
use native.Mathlib.Omega.{arith}
use lib.ListN.{length, replicate}
use Rattle.bits.specs.Numbers.{bit}
use Rattle.tables.specs.Table.{table_bit}
use Rattle.tables.proofs.Bytes.{length_more}
use Rattle.best.specs.Counting.{spread_answer}
use Rattle.best.proofs.Counting.{counting_found}
use Rattle.quick.proofs.counted.search_counting.Goals as goal

pub find_with-found-requires : goal.find_with-found-requires
find_with-found-requires c =
    let w = c.requires.5 in (
      omega (arith, w.few, c.requires.1),
      c.requires.2,
      length_more c.args.counting.many c.args.n (length c.set_aside.new.room) w.few
          (omega (arith, c.requires.0, c.requires.4, c.set_aside.auto.room)),
      c.requires.3,
    )

pub shape_of-work : goal.shape_of-work
shape_of-work c = c.clear.auto.area ∙ c.set_aside.auto.room

pub returns : goal.returns
returns c =
    let a = c.args in
    let x = a.counting in (
      c.spread_back.ensures.0,
      c.spread_back.ensures.1 ∙ ap (spread_answer a.n (bit x.mask)) c.find_with-found.ensures
          ∙ counting_found a.n a.r a.k (table_bit a.t.now) x c.set_aside.new.room c.requires.5
          c.set_aside.ensures,
      c.clear.ensures ∙ ap (λ (z : ℕ). replicate z 0) c.set_aside.auto.room,
    )
