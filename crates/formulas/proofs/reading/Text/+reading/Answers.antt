-- The readers give what the definition reads. Assumes nothing.
use mathlib.Core.Path.{refl}
use native.Mathlib.Omega.{arith}
use Rattle.std.proofs.lemmas.Result.{err_from_is_err_and}
use Rattle.formulas.proofs.ByteKinds.{kind_bang, kind_open}
use Rattle.values.specs.Stretches.{joined_by}
use Rattle.values.proofs.Bitwise.{joined_stretch}
use Rattle.formulas.proofs.Words.{ahead, marked, unmarked, mark_within, first-bad, last, next-bad, next, f_end}
use Rattle.formulas.proofs.Words.{f_deep_not, f_deep_open, f_not-bad, f_not, f_open_bad, f_closed}
use Rattle.formulas.proofs.reading.Text.+reading.Goals as goal

pub factor-returns-then-self-at : goal.factor-returns-then-self-at
factor-returns-then-self-at t c = f_end _ _ _ c.if-self-at.true

pub factor-returns-in-33-2 : goal.factor-returns-in-33-2
factor-returns-in-33-2 t c = f_deep_not _ _ _ (kind_bang _ _ c.in-33.is) (omega arith)

pub factor-returns-in-33-2-2 : goal.factor-returns-in-33-2-2
factor-returns-in-33-2-2 t c = f_deep_open _ _ _ (kind_open _ _ c.in-40.is) (omega arith)

pub factor-returns-in_err-turned-in-33 : goal.factor-returns-in_err-turned-in-33
factor-returns-in_err-turned-in-33 t c =
    let p = err_from_is_err_and c.from_residual.result c.from_residual.ensures.1 in
    rw (p.1, p.2) (f_not-bad _ _ _ (kind_bang _ _ c.in-33.is) (λ e. omega arith) c.if-self-at.false
    c.in_err-turned-in-33.was c.factor.ensures)

pub factor-returns-in_err-inner-in-40 : goal.factor-returns-in_err-inner-in-40
factor-returns-in_err-inner-in-40 t c =
    let p = err_from_is_err_and c.from_residual-in_err-inner-in-40.result
    c.from_residual-in_err-inner-in-40.ensures.1 in
    rw (p.1, p.2) (f_open_bad _ _ _ (kind_open _ _ c.in-40.is) (λ e. omega arith) c.if-self-at.false
    c.in_err-inner-in-40.was c.sum.ensures)

pub factor-returns-in_ok-turned-in-33 : goal.factor-returns-in_ok-turned-in-33
factor-returns-in_ok-turned-in-33 t c =
    f_not _ _ _ (kind_bang _ _ c.in-33.is) (λ e. omega arith) c.if-self-at.false c.in_ok-turned-in-33.was
    c.factor.ensures c.not.ensures

pub factor-returns-in_ok-inner-in-40 : goal.factor-returns-in_ok-inner-in-40
factor-returns-in_ok-inner-in-40 t c =
    f_closed _ _ _ (kind_open _ _ c.in-40.is) (λ e. omega arith) c.if-self-at.false c.in_ok-inner-in-40.was
    c.sum.ensures c.closed.ensures

pub sum-returns-in_err-first : goal.sum-returns-in_err-first
sum-returns-in_err-first t c =
    let p = err_from_is_err_and c.from_residual.result c.from_residual.ensures.1 in
    rw (p.1, p.2) (first-bad _ _ _ c.in_err-first.was c.term.ensures)

pub sum-returns-then-not-has : goal.sum-returns-then-not-has
sum-returns-then-not-has t c =
    last _ _ _ c.in_ok-first.was c.term.ensures (unmarked c.has.ensures refl c.if-not-has.true)

pub sum-sum-requires : goal.sum-sum-requires
sum-sum-requires t c =
    let h = ahead c.in_ok-first.was c.term.ensures c.requires in
    let m = mark_within c.args.self.now.bytes.now c.in_ok-first.first.at 2
    (marked c.has.ensures refl c.if-not-has.false) in
    (omega arith, omega arith)

pub sum-returns-in_err-rest : goal.sum-returns-in_err-rest
sum-returns-in_err-rest t c =
    let p = err_from_is_err_and c.from_residual-in_err-rest.result c.from_residual-in_err-rest.ensures.1 in
    rw (p.1, p.2) (next-bad _ _ _ c.in_ok-first.was c.term.ensures c.requires
    (marked c.has.ensures refl c.if-not-has.false) c.in_err-rest.was c.sum.ensures)

pub sum-returns : goal.sum-returns
sum-returns t c =
    next _ _ _ (joined_by 2) (λ F G. joined_stretch 2 F G _) c.in_ok-first.was c.term.ensures c.requires
    (marked c.has.ensures refl c.if-not-has.false) c.in_ok-rest.was c.sum.ensures c.bitor.ensures

pub term-returns-in_err-first : goal.term-returns-in_err-first
term-returns-in_err-first t c =
    let p = err_from_is_err_and c.from_residual.result c.from_residual.ensures.1 in
    rw (p.1, p.2) (first-bad _ _ _ c.in_err-first.was c.part.ensures)

pub term-returns-then-not-has : goal.term-returns-then-not-has
term-returns-then-not-has t c =
    last _ _ _ c.in_ok-first.was c.part.ensures (unmarked c.has.ensures refl c.if-not-has.true)

pub term-term-requires : goal.term-term-requires
term-term-requires t c =
    let h = ahead c.in_ok-first.was c.part.ensures c.requires in
    let m = mark_within c.args.self.now.bytes.now c.in_ok-first.first.at 1
    (marked c.has.ensures refl c.if-not-has.false) in
    (omega arith, omega arith)

pub term-returns-in_err-rest : goal.term-returns-in_err-rest
term-returns-in_err-rest t c =
    let p = err_from_is_err_and c.from_residual-in_err-rest.result c.from_residual-in_err-rest.ensures.1 in
    rw (p.1, p.2) (next-bad _ _ _ c.in_ok-first.was c.part.ensures c.requires
    (marked c.has.ensures refl c.if-not-has.false) c.in_err-rest.was c.term.ensures)

pub term-returns : goal.term-returns
term-returns t c =
    next _ _ _ (joined_by 1) (λ F G. joined_stretch 1 F G _) c.in_ok-first.was c.part.ensures c.requires
    (marked c.has.ensures refl c.if-not-has.false) c.in_ok-rest.was c.term.ensures c.bitxor.ensures

pub part-returns-in_err-first : goal.part-returns-in_err-first
part-returns-in_err-first t c =
    let p = err_from_is_err_and c.from_residual.result c.from_residual.ensures.1 in
    rw (p.1, p.2) (first-bad _ _ _ c.in_err-first.was c.factor.ensures)

pub part-returns-then-not-has : goal.part-returns-then-not-has
part-returns-then-not-has t c =
    last _ _ _ c.in_ok-first.was c.factor.ensures (unmarked c.has.ensures refl c.if-not-has.true)

pub part-part-requires : goal.part-part-requires
part-part-requires t c =
    let h = ahead c.in_ok-first.was c.factor.ensures c.requires in
    let m = mark_within c.args.self.now.bytes.now c.in_ok-first.first.at 0
    (marked c.has.ensures refl c.if-not-has.false) in
    (omega arith, omega arith)

pub part-returns-in_err-rest : goal.part-returns-in_err-rest
part-returns-in_err-rest t c =
    let p = err_from_is_err_and c.from_residual-in_err-rest.result c.from_residual-in_err-rest.ensures.1 in
    rw (p.1, p.2) (next-bad _ _ _ c.in_ok-first.was c.factor.ensures c.requires
    (marked c.has.ensures refl c.if-not-has.false) c.in_err-rest.was c.part.ensures)

pub part-returns : goal.part-returns
part-returns t c =
    next _ _ _ (joined_by 0) (λ F G. joined_stretch 0 F G _) c.in_ok-first.was c.factor.ensures c.requires
    (marked c.has.ensures refl c.if-not-has.false) c.in_ok-rest.was c.part.ensures c.bitand.ensures
