-- `few_in` meets its contract: what lines 1 to 5 refuse, else what the certificate comes to. Assumes nothing.
use mathlib.Core.Path.{refl, ap, ◌∙◌}
use Rattle.refusals.specs.Verdicts.{Verdict}
use Rattle.refusals.proofs.Lines.{goes_on}
use Rattle.refusals.proofs.Results.{said_ok, handed_on}
use Rattle.refuting.specs.TooFew.{few_form, certificate_lines, few_after}
use Rattle.refuting.proofs.Answering.{form_stops, within}
use Rattle.refuting.proofs.too_few.few_in.Goals as goal

pub returns-in_err-few_form : goal.returns-in_err-few_form
returns-in_err-few_form c =
    let a = c.args in
    let rest = certificate_lines a.n a.k a.m a.t.now a.c.now a.work.now in
    ap (λ (v : Verdict). record { verdict = v; work = a.work.now }) (handed_on _ _ c.from_residual.ensures.1)
    ∙ form_stops (few_form a.e a.n a.k a.m a.t.now) rest a.work.now refl _ c.few_form.ensures _ c.in_err-few_form.was

pub returns : goal.returns
returns c =
    let a = c.args in
    let rest = certificate_lines a.n a.k a.m a.t.now a.c.now a.work.now in
    c.look_at.ensures
    ∙ ap (few_after a.work.now) (goes_on (few_form a.e a.n a.k a.m a.t.now) rest _ c.few_form.ensures
    (said_ok _ _ c.in_ok-few_form.was) refl)

pub look_at-requires : goal.look_at-requires
look_at-requires c =
    let a = c.args in
    let w = within a.e c.requires a.n a.k a.m a.t.now _ c.few_form.ensures (said_ok _ _ c.in_ok-few_form.was) in
    (w.inputs, w.cell, w.some, w.most, w.long)
