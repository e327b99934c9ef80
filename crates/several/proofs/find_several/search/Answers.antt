-- `search` meets its contract: what is found over r is answered by lines 7 and 8. Assumes nothing.
use Rattle.std.proofs.Common.{Option, Some, None, Result, ok_or}
use mathlib.Core.Path.{◌≡◌, refl, sym, ap, ap₂, ◌∙◌}
use mathlib.Core.Bool.{Bool, false}
use mathlib.Core.List.{List, [], ◌∷◌}
use Prim.Native.Nat.{ℕ}
use native.Mathlib.Omega.{arith}
use lib.ListN.{length, replicate}
use borrow.Author.Tests.{le-leb, lt-leb}
use Rattle.bits.specs.Numbers.{bit}
use Rattle.bits.specs.Sets.{size}
use Rattle.tables.specs.Table.{table_bit}
use Rattle.tables.specs.Counting.{support}
use Rattle.tables.proofs.Work.{half-holds}
use Rattle.refusals.specs.declared.verdicts.Refusal.{Refusal as Why}
use Rattle.refusals.specs.declared.verdicts.Refusal.TheVariants.{NoSplit}
use Rattle.refusals.specs.Lines.{line, verdict, reply}
use Rattle.choices.specs.declared.over.Chosen.{Chosen}
use Rattle.choices.specs.Search.{Choice}
use Rattle.choices.specs.Chosen.{choice_of}
use Rattle.several.specs.FindSeveral.{FindSeveralOutcome, several_answer, best_several, none_several}
use Rattle.several.specs.FindSeveral.{several_done, several_not}
use Rattle.several.proofs.find_several.search.Goals as goal

-- what is answered, as few inputs count or not, of a best choice
abbrev answered : List ℕ → Bool → Choice → FindSeveralOutcome
answered work few c = reply (verdict (line 7 few ∷ none_several c ∷ [])) (several_done c work) (several_not work)

-- how many inputs count
abbrev count : ℕ → List ℕ → ℕ
count n t = size n (bit (support n (table_bit t)))

pub returns-then-counting-k : goal.returns-then-counting-k
returns-then-counting-k c =
    let a = c.args in
    ap (λ (few : Bool). answered a.work.now few (best_several a.n a.k a.t.now))
    (sym (le-leb (count a.n a.t.now) a.k
    (omega (arith, c.counting_inputs-counting.ensures.count, c.if-counting-k.true))))

pub find_over-requires : goal.find_over-requires
find_over-requires c =
    let p = c.requires in
    (p.2, p.0, c.counting_inputs-counting.ensures, p.1, omega (arith, p.2, p.3, half-holds c.args.n p.0))

-- what was found, or that nothing was, where more than k count
told : (work : List ℕ) (found : Option Chosen)
    → record { answer = several_answer (ok_or found NoSplit); work = replicate (length work) 0 }
    ≡ answered work false (choice_of found)
told work None = refl
told work (Some found) = refl

pub returns : goal.returns
returns c =
    let a = c.args in
    ap₂ (λ (r : Result Chosen Why) (l : List ℕ). record { answer = several_answer r; work = l }) c.ok_or.ensures.value
    c.find_over.ensures.1
    ∙ told a.work.now c.find_over.result
    ∙ ap₂ (answered a.work.now)
    (sym (lt-leb (count a.n a.t.now) a.k
    (omega (arith, c.counting_inputs-counting.ensures.count, c.if-counting-k.false))))
    c.find_over.ensures.0
