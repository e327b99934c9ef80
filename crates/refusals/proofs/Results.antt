-- Results as verdicts: a look at the first lines of a call that refuses, or lets them through. Assumes nothing.
use Rattle.std.proofs.Common.{Result, Ok, Err}
use Rattle.std.specs.Result.{IsErrAnd}
use Rattle.std.proofs.lemmas.Result.{err_from_is_err_and}
use mathlib.Core.Path.{◌≡◌, sym, ap, ◌∙◌}
use mathlib.Core.List.{List, ◌++◌}
use Rattle.refusals.specs.Verdicts.{Refusal, Verdict, Fine, Refused}
use Rattle.refusals.specs.Lines.{Line, verdict, reply}
use Rattle.refusals.specs.declared.verdicts.Refusal.{Refusal as Why}
use Rattle.refusals.specs.Results.{refusal_of, verdict_of}
use Rattle.refusals.proofs.Lines.{stopped}

-- what is said of a result that is known
pub said_ok : {A : Type 0} (r : Result A Why) (a : A) → r ≡ Ok a → verdict_of r ≡ Fine
said_ok r a e = ap verdict_of e

pub said_err : {A : Type 0} (r : Result A Why) (why : Why) → r ≡ Err why → verdict_of r ≡ Refused (refusal_of why)
said_err r why e = ap verdict_of e

-- what a `?` hands on is the refusal that it met
pub refused_with : {A : Type 0} (out : Result A Why) (why : Why) → IsErrAnd out (λ w. w ≡ why) → out ≡ Err why
refused_with out why e = let p = err_from_is_err_and out e in p.1 ∙ ap Err p.2

pub handed_on : {A : Type 0} (out : Result A Why) (why : Why) → IsErrAnd out (λ w. w ≡ why)
    → verdict_of out ≡ Refused (refusal_of why)
handed_on out why e = said_err out why (refused_with out why e)

-- a look at the first lines refuses, and so does the call
pub stopped_by : {A : Type 0} (ls ms : List Line) (r : Result A Why) → verdict_of r ≡ verdict ls → (why : Why)
    → r ≡ Err why → Refused (refusal_of why) ≡ verdict (ls ++ ms)
stopped_by ls ms r looked why e =
    sym (said_err r why e) ∙ stopped ls ms (verdict_of r) looked (refusal_of why) (said_err r why e)

-- a look at all lines refuses: what goes with the refusal is returned and left
pub replied : {A B : Type 0} (ls : List Line) (r : Result A Why) → verdict_of r ≡ verdict ls → (why : Why) (done : B)
    (refused : Refusal → B) → r ≡ Err why → refused (refusal_of why) ≡ reply (verdict ls) done refused
replied ls r looked why done refused e =
    ap (λ (v : Verdict). reply v done refused) (sym (said_err r why e) ∙ looked)
