-- `search` meets its contract: what is found over the inputs that count is answered by lines 7 and 8. Assumes nothing.
use Rattle.std.proofs.Common.{Ok, Err}
use mathlib.Core.Path.{◌≡◌, ap, ap₂, ◌∙◌, subst}
use mathlib.Core.Bool.{Bool}
use mathlib.Core.List.{List, [], ◌∷◌}
use Prim.Native.Nat.{ℕ}
use native.Mathlib.Omega.{arith}
use Rattle.quick.specs.declared.counted.Counted.{Counted}
use Rattle.best.specs.declared.Masks.{Masks}
use Rattle.best.specs.Search.{Answer}
use Rattle.quick.specs.Counted.{FoundCounting}
use Rattle.tables.proofs.Work.{half-holds}
use Rattle.refusals.specs.declared.verdicts.Refusal.TheVariants.{Nothing, NoSplit}
use Rattle.refusals.specs.Lines.{line, verdict, reply}
use Rattle.refusals.specs.Refusals.{none_best}
use Rattle.finding.specs.FindBest.{FindOutcome, find_answer, best_for, find_done, find_not}
use Rattle.finding.proofs.find_best.search.Goals as goal

-- what is answered, as few inputs count or not, of a best split
abbrev answered : List ℕ → Bool → Answer → FindOutcome
answered work few a = reply (verdict (line 7 few ∷ none_best a ∷ [])) (find_done a work) (find_not work)

-- what was found, told by its case
told : {n K : ℕ} {t work work' : List ℕ} {r : Counted} (s : Counted) → r ≡ s → FoundCounting n 1 K t work r work'
    → FoundCounting n 1 K t work s work'
told {n} {K} {t} {work} {work'} s e w = subst (λ (r : Counted). FoundCounting n 1 K t work r work') e w

pub find_counting-requires : goal.find_counting-requires
find_counting-requires c =
    let p = c.requires in
    (p.2, p.0, omega arith, p.1, omega (arith, p.2, p.3, half-holds c.args.n p.0))

pub returns-in-Few : goal.returns-in-Few
returns-in-Few c =
    let a = c.args in
    let w = told _ c.in-Few.is c.find_counting.ensures in
    ap (λ (l : List ℕ). record { answer = find_answer (Err Nothing); work = l }) w.left
    ∙ ap (λ (few : Bool). answered a.work.now few (best_for a.n a.k a.t.now)) w.few

pub returns-in-Split : goal.returns-in-Split
returns-in-Split c =
    let a = c.args in
    let w = told _ c.in-Split.is c.find_counting.ensures in
    let masks : Masks = record { own = c.in-Split.own; shared = c.in-Split.shared } in
    ap (λ (l : List ℕ). record { answer = find_answer (Ok masks); work = l }) w.left
    ∙ ap₂ (answered a.work.now) w.few w.answer

pub returns-in-Nothing : goal.returns-in-Nothing
returns-in-Nothing c =
    let a = c.args in
    let w = told _ c.in-Nothing.is c.find_counting.ensures in
    ap (λ (l : List ℕ). record { answer = find_answer (Err NoSplit); work = l }) w.left
    ∙ ap₂ (answered a.work.now) w.few w.answer
