-- The loop keeps how far the hints so far have come. Assumes nothing.
use mathlib.Core.Path.{◌≡◌, refl, ap, ◌∙◌}
use native.Mathlib.Omega.{arith}
use Prim.Native.Nat.{ℕ, ◌+◌, ◌*◌}
use Rattle.clauses.specs.Asking.{question_of, clause_of}
use Rattle.clauses.specs.Step.{four, clause_at, hint_at}
use Rattle.following.specs.Following.{used}
use Rattle.following.proofs.Going.{used_step, used_done}
use Rattle.following.proofs.following.hint_all.Goals as goal

pub loop-k-init : goal.loop-k-init
unfolding used
loop-k-init c = (omega arith, refl, λ before f s. s)

pub returns-then-r : goal.returns-then-r
returns-then-r c =
    (omega (arith, c.loop-k.invariant.0), λ before f s. used_done (λ k. clause_of c.args.task.now (hint_at c.args.task.now.certificate.now c.args.at k)) f c.loop-k.k c.args.many (c.loop-k.invariant.2 before f s) c.if-r.true (omega arith))

pub loop-k-preserved : goal.loop-k-preserved
loop-k-preserved c =
    (omega (arith, c.hint-r.ensures.0, c.loop-k.invariant.0), c.hint-r.auto.work ∙ c.loop-k.invariant.1, λ before f s. let w = c.loop-k.invariant.2 before f s in used_step (λ k. clause_of c.args.task.now (hint_at c.args.task.now.certificate.now c.args.at k)) f c.loop-k.k w c.if-r.false (ap (clause_at (question_of c.args.task.now) c.args.task.now.certificate.now) (let z : c.four_at.result ≡ hint_at c.args.task.now.certificate.now c.args.at c.loop-k.k = c.four_at.ensures.0 ∙ ap (λ (i : ℕ). four c.args.task.now.certificate.now (c.args.at + 7 + 4 * i + 4 * c.loop-k.k)) c.two_at.ensures.0 in z)) (c.hint-r.ensures.1 w.values w.trailed))
