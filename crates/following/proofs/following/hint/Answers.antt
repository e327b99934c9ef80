-- `hint` meets its contract: by what is open in the clause. Assumes nothing.
use native.Mathlib.Omega.{arith}
use Rattle.clauses.specs.Variables.{variables}
use Rattle.clauses.specs.Asking.{clause_of}
use Rattle.clauses.proofs.Sizes.{variables_most}
use Rattle.following.proofs.Reading.{clause_below, open_below}
use Rattle.following.proofs.Going.{hint_conflict, hint_several, hint-set, hint-made}
use Rattle.following.proofs.following.hint.Goals as goal

pub returns-in-Nothing : goal.returns-in-Nothing
returns-in-Nothing c =
    (omega arith, λ σ t. hint_conflict (variables c.args.task.now.size) c.args.from c.args.set σ c.args.work.now (clause_of c.args.task.now c.args.at) (clause_below c.args.task.now c.args.at c.requires.0) t c.open_at.ensures c.in-Nothing.is)

pub bounds-work-v : goal.bounds-work-v
bounds-work-v c =
    let b = open_below c.args.task.now c.args.at c.requires.0 c.args.work.now c.in-One.l c.open_at.ensures c.in-One.is in
    omega (arith, c.requires.1, c.requires.2, b)

pub make-requires : goal.make-requires
make-requires c =
    let b = open_below c.args.task.now c.args.at c.requires.0 c.args.work.now c.in-One.l c.open_at.ensures c.in-One.is in
    (omega (arith, c.requires.1, b), c.requires.2, omega (arith, variables_most c.args.task.now.size c.args.task.now.sized, b))

pub returns-then-work-v-eq0 : goal.returns-then-work-v-eq0
returns-then-work-v-eq0 c =
    let b = open_below c.args.task.now c.args.at c.requires.0 c.args.work.now c.in-One.l c.open_at.ensures c.in-One.is in
    rw c.make.ensures.far (omega arith, λ σ t. hint-made (variables c.args.task.now.size) c.args.from c.args.set σ c.args.work.now (clause_of c.args.task.now c.args.at) (clause_below c.args.task.now c.args.at c.requires.0) t c.in-One.l b c.open_at.ensures c.in-One.is c.make.new.work c.if-work-v-eq0.true (c.make.ensures.trail (variables c.args.task.now.size) σ c.requires.1 b t))

pub returns-else-work-v-eq0 : goal.returns-else-work-v-eq0
returns-else-work-v-eq0 c =
    let b = open_below c.args.task.now c.args.at c.requires.0 c.args.work.now c.in-One.l c.open_at.ensures c.in-One.is in
    (omega arith, λ σ t. hint-set (variables c.args.task.now.size) c.args.from c.args.set σ c.args.work.now (clause_of c.args.task.now c.args.at) (clause_below c.args.task.now c.args.at c.requires.0) t c.in-One.l b c.open_at.ensures c.in-One.is c.if-work-v-eq0.false)

pub returns-in-Several : goal.returns-in-Several
returns-in-Several c =
    (omega arith, λ σ t. hint_several (variables c.args.task.now.size) c.args.from c.args.set σ c.args.work.now (clause_of c.args.task.now c.args.at) (clause_below c.args.task.now c.args.at c.requires.0) t c.open_at.ensures c.in-Several.is)
