-- The loop keeps that the steps from here on come to what all come to. Assumes nothing.
use mathlib.Core.Path.{◌≡◌, refl, sym, ap, fun_ext, ◌∙◌}
use Prim.Native.Nat.{◌+◌, ◌*◌}
use native.Mathlib.Omega.{arith}
use mathlib.Core.Bool.{Bool, cond}
use lib.ListN.{length, length-set}
use Rattle.clauses.specs.Variables.{variables}
use Rattle.clauses.specs.Step.{rows_in}
use Rattle.clauses.specs.Asking.{question_of}
use Rattle.following.specs.Standing.{begun_in}
use Rattle.refuting.specs.Steps.{shown, not_shown}
use Rattle.refuting.specs.Looking.{shown_as}
use Rattle.refuting.proofs.Lengths.{all_of, there_by, not_by, length_by, order_is, order_not}
use Rattle.refuting.proofs.Walking.{from_first, from-bad, from_end}
use Rattle.refuting.proofs.Marking.{ready_after, from_after}
use Rattle.refuting.proofs.steps.look_through.Goals as goal

pub loop-at-init : goal.loop-at-init
loop-at-init c =
    (c.requires.0, refl, from_first (question_of c.args.task.now) c.args.task.now.certificate.now (let z : 2 + 2 * c.args.task.now.size.rows ≡ 2 + 2 * rows_in c.args.task.now.certificate.now = omega (arith, c.args.task.now.rows.count) in z) (fun_ext c.requires.1))

pub returns-in_default : goal.returns-in_default
returns-in_default c =
    let begun = begun_in (variables c.args.task.now.size) (length c.args.task.now.certificate.now) c.loop-at.work in
    ap shown_as (from-bad (question_of c.args.task.now) c.args.task.now.certificate.now c.loop-at.at begun c.loop-at.empty c.loop-at.invariant.2 (omega arith) (order_not c.args.task.now.certificate.now c.loop-at.at (question_of c.args.task.now) begun (not_by c.args.task.now.certificate.now c.loop-at.at c.in_default.ensures)))

pub returns-then-not-is_in_order : goal.returns-then-not-is_in_order
returns-then-not-is_in_order c =
    let begun = begun_in (variables c.args.task.now.size) (length c.args.task.now.certificate.now) c.loop-at.work in
    ap shown_as (from-bad (question_of c.args.task.now) c.args.task.now.certificate.now c.loop-at.at begun c.loop-at.empty c.loop-at.invariant.2 (omega arith) (sym (order_is c.args.task.now.certificate.now c.loop-at.at (question_of c.args.task.now) begun (there_by c.args.task.now.certificate.now c.loop-at.at c.in-Some.ensures)) ∙ sym c.is_in_order.ensures.0 ∙ c.if-not-is_in_order.true))

pub loop-at-preserved : goal.loop-at-preserved
loop-at-preserved c =
    let begun = begun_in (variables c.args.task.now.size) (length c.args.task.now.certificate.now) c.loop-at.work in
    let there = there_by c.args.task.now.certificate.now c.loop-at.at c.in-Some.ensures in
    let all = all_of c.args.task.now.certificate.now c.loop-at.at there in
    let fine = sym c.is_in_order.ensures.0 ∙ c.if-not-is_in_order.false in
    let order = sym (order_is c.args.task.now.certificate.now c.loop-at.at (question_of c.args.task.now) begun there) ∙ fine in
    (ready_after c.args.task.now c.loop-at.work c.is_in_order.new.work c.loop-at.at c.is_in_order.ensures.2 c.is_in_order.ensures.1 c.loop-at.invariant.0 all order c.all_variables-all.ensures.0 fine, length-set c.is_in_order.new.work (c.all_variables-all.result + c.loop-at.at) 1 ∙ c.is_in_order.auto.work ∙ c.loop-at.invariant.1, from_after c.args.task.now c.loop-at.work c.is_in_order.new.work c.loop-at.at c.is_in_order.ensures.2 c.is_in_order.ensures.1 c.loop-at.invariant.0 all order c.all_variables-all.ensures.0 c.loop-at.empty c.loop-at.invariant.2 (length_by c.args.task.now.certificate.now c.loop-at.at c.in-Some.ensures) c.is_empty-empty.ensures)

pub returns-then-empty : goal.returns-then-empty
returns-then-empty c =
    ap shown_as (sym (ap (λ (b : Bool). cond b shown (not_shown (length c.args.task.now.certificate.now))) c.if-empty.true) ∙ from_end (question_of c.args.task.now) c.args.task.now.certificate.now c.loop-at.at (begun_in (variables c.args.task.now.size) (length c.args.task.now.certificate.now) c.loop-at.work) c.loop-at.empty c.loop-at.invariant.2 (omega arith))

pub returns-else-empty : goal.returns-else-empty
returns-else-empty c =
    ap shown_as (sym (ap (λ (b : Bool). cond b shown (not_shown (length c.args.task.now.certificate.now))) c.if-empty.false) ∙ from_end (question_of c.args.task.now) c.args.task.now.certificate.now c.loop-at.at (begun_in (variables c.args.task.now.size) (length c.args.task.now.certificate.now) c.loop-at.work) c.loop-at.empty c.loop-at.invariant.2 (omega arith))
