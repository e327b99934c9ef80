-- A split found at once is beaten by fewer first cells alone; without one all are looked through. Assumes nothing.
use Rattle.std.proofs.Common.{◌-◌, ◌∙◌, ap, arith}
use Rattle.tables.specs.Table.{table_bit}
use Rattle.best.specs.Search.{split}
use Rattle.choices.specs.Search.{Choice, better}
use Rattle.choices.proofs.Choosing.{held}
use Rattle.choices.proofs.Sparing.{spare_all, fits, whole_more, whole_best}
use Rattle.choices.proofs.over.find_upto.Goals as goal

pub returns-in_default : goal.returns-in_default
returns-in_default c =
    let a = c.args in
    let e = c.find_sparing.ensures in
    (e.0 ∙ spare_all a.n a.k (table_bit a.t.now) a.most, e.1)

pub overflow_sub-k : goal.overflow_sub-k
overflow_sub-k c =
    let a = c.args in
    let d = c.in-Some.early in
    omega (arith, whole_more a.n a.k (table_bit a.t.now) a.most d.first d.own d.shared c.in-Some.ensures)

pub overflow_sub-k-2 : goal.overflow_sub-k-2
overflow_sub-k-2 c =
    let a = c.args in
    let d = c.in-Some.early in
    omega (arith, whole_more a.n a.k (table_bit a.t.now) a.most d.first d.own d.shared c.in-Some.ensures)

pub find_sparing-kept-requires : goal.find_sparing-kept-requires
find_sparing-kept-requires c =
    let p = c.requires in
    let whole = c.in-Some.ensures in
    (p.0, omega (arith, p.1, whole.most), p.2, p.3, omega (arith, p.3))

pub larger-requires : goal.larger-requires
larger-requires c =
    let a = c.args in
    let d = c.in-Some.early in
    let whole = c.in-Some.ensures in
    let k = c.find_sparing-kept in (
      whole.some,
      omega (arith, c.requires.1, whole.most),
      c.requires.0,
      k.ensures.1,
      (held a.n a.k (a.k - d.first - 1) (table_bit a.t.now) (d.first - 1) k.result k.ensures.0).0,
      (fits a.n a.k (table_bit a.t.now) a.most d.first d.own d.shared whole).candidate.below_a,
    )

pub returns : goal.returns
returns c =
    let a = c.args in
    let d = c.in-Some.early in
    let e = c.larger.ensures in (
      e.0 ∙ ap (λ (x : Choice). better a.n d.first x (split d.own d.shared)) c.find_sparing-kept.ensures.0
          ∙ whole_best a.n a.k (table_bit a.t.now) a.most d.first d.own d.shared c.in-Some.ensures,
      e.1,
    )
