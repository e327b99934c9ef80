-- Find the best split with 1, 2 or 3 first cells: what is claimed of it, over any edition. Assumes nothing.
use mathlib.Core.Path.{◌≡◌, refl, sym, ap, ◌∙◌, subst}
use mathlib.Core.Logic.{◌↔◌, ◌⊎◌}
use mathlib.Core.Bool.{Bool, true, false}
use mathlib.Core.List.{List, [], ◌∷◌, ◌++◌}
use Prim.Native.Nat.{ℕ, ◌<◌, ◌≤◌}
use native.Mathlib.Omega.{arith}
use lib.ListN.{length, replicate}
use borrow.Author.Tests.{leb-true, le-leb, lt-leb}
use Rattle.bits.specs.Numbers.{bit}
use Rattle.bits.specs.Sets.{size}
use Rattle.bits.proofs.Bools.{clash}
use Rattle.tables.specs.Table.{table_bit}
use Rattle.tables.specs.Counting.{support}
use Rattle.splits.specs.Columns.{most_first}
use Rattle.best.specs.Search.{split}
use Rattle.best.specs.Counting.{best_counting}
use Rattle.sheets.specs.declared.kinds.Edition.{Edition}
use Rattle.refusals.specs.Verdicts.{Refusal, Fine, Refused}
use Rattle.refusals.specs.Lines.{line, InOrder, verdict, number_of}
use Rattle.refusals.specs.Refusals.{nothing_to_split}
use Rattle.refusals.specs.Lent.{work_after}
use Rattle.finding.specs.FindBest.{best_for, find_form}
use Rattle.refusals.proofs.Lines.{in_order_lem, passes, held}
use Rattle.refusals.proofs.Lent.{work_found}
use Rattle.choices.specs.Best.{Works, BestOver}
use Rattle.choices.specs.Search.{Choice, nothing, choice}
use Rattle.several.specs.FindSeveral.{FindSeveralAnswer, FindSeveralOutcome, best_several, is_nothing, none_several, first_of, own_of}
use Rattle.several.specs.FindSeveral.{shared_of, several_says, several_lines, several_done, several_not}
use Rattle.several.specs.FindSeveral.{find_several_outcome}
use Rattle.choices.proofs.Best.{over_best, over_none, over_own, over_unique}
use Rattle.claims.specs.Words.{ByLines}
use Rattle.claims.proofs.Verdicts.{says_verdict, is_done, is_refused_lem, area_left, by_lines, work_cleared}

module _ (e : Edition) (n K : ℕ) (t work : List ℕ) where
  abbrev outcome : FindSeveralOutcome
  outcome = find_several_outcome e n K t work

  abbrev best : Choice
  best = best_several n K t

  says : (find_several_outcome e n K t work).answer.verdict ≡ verdict (several_lines e n K t work)
  unfolding find_several_outcome
  says = says_verdict (λ (o : FindSeveralOutcome). o.answer.verdict) (several_done best work) (several_not work) refl
      (λ r. refl) (verdict (several_lines e n K t work))

  -- the work area is left as the verdict asks
  left : (find_several_outcome e n K t work).work ≡ work_after (find_several_outcome e n K t work).answer.verdict work
  unfolding find_several_outcome
  left =
      area_left (λ (o : FindSeveralOutcome). o.answer.verdict) (several_done best work) (several_not work) refl
      (λ r. refl) (λ (o : FindSeveralOutcome). o.work) work refl (λ r. refl)
      (verdict (several_lines e n K t work))

  -- the verdict is that of find's lines, 8 where no r has a split
  pub several_lines_lem : ByLines (find_several_outcome e n K t work).answer.verdict (several_lines e n K t work)
  several_lines_lem = by_lines (several_lines e n K t work) refl (find_several_outcome e n K t work).answer.verdict says

  -- refused: r and both masks are 0
  pub several_refused : (r : Refusal) → (find_several_outcome e n K t work).answer.verdict ≡ Refused r
      → ((find_several_outcome e n K t work).answer.first ≡ 0) × ((find_several_outcome e n K t work).answer.own ≡ 0)
      × ((find_several_outcome e n K t work).answer.shared ≡ 0)
  unfolding find_several_outcome
  several_refused r h =
      let q = is_refused_lem (λ (o : FindSeveralOutcome). o.answer.verdict) (several_done best work) (several_not work) refl
      (λ u. refl) (verdict (several_lines e n K t work)) r h in
      (ap (λ o. o.answer.first) q, ap (λ o. o.answer.own) q, ap (λ o. o.answer.shared) q)

  -- 1 to 7 leave the work area as found
  pub several_keeps : 1 ≤ number_of (find_several_outcome e n K t work).answer.verdict
      → number_of (find_several_outcome e n K t work).answer.verdict ≤ 7
      → (find_several_outcome e n K t work).work ≡ work
  several_keeps h g = left ∙ work_found outcome.answer.verdict work h g

  -- after 0 or 8 the whole of it is zeros
  pub several_clears : (number_of (find_several_outcome e n K t work).answer.verdict ≡ 0)
      ⊎ (number_of (find_several_outcome e n K t work).answer.verdict ≡ 8)
      → (find_several_outcome e n K t work).work ≡ replicate (length work) 0
  several_clears h = left ∙ work_cleared outcome.answer.verdict work h

  -- two outcomes that keep the promise are equal: the answer, and the work area afterwards
  pub several_once : (a a' : FindSeveralAnswer) (l l' : List ℕ) → record { answer = a; work = l }
      ≡ find_several_outcome e n K t work
      → record { answer = a'; work = l' } ≡ find_several_outcome e n K t work → (a ≡ a') × (l ≡ l')
  several_once a a' l l' p q = (ap (λ o. o.answer) (p ∙ sym q), ap (λ o. o.work) (p ∙ sym q))

  -- where form and room are in order, 7 exactly if at most K inputs count
  pub several_few : InOrder (find_form e n K t work) → (number_of (find_several_outcome e n K t work).answer.verdict ≡ 7)
      ↔ (size n (bit (support n (table_bit t))) ≤ K)
  several_few form = (
    λ h. leb-true c K (held (find_form e n K t work) (nothing_to_split n K t) (none_several best ∷ []) 7 refl refl
        (λ z. omega arith) (ap number_of (sym says) ∙ h)).0,
    λ h. ap number_of (says ∙ passes (find_form e n K t work) (several_says n K t) form)
        ∙ ap (λ (b : Bool). number_of (verdict (line 7 b ∷ none_several best ∷ []))) (le-leb c K h),
  )
    where
      c : ℕ
      c = size n (bit (support n (table_bit t)))

  -- ---- done

  module _ (done : (find_several_outcome e n K t work).answer.verdict ≡ Fine) where
    -- what is answered is the best choice
    is : best ≡ choice outcome.answer.first outcome.answer.own outcome.answer.shared
    unfolding find_several_outcome
    is =
        let w = in_order_lem (several_lines e n K t work) (sym says ∙ done) in
        rw (is_done (λ (o : FindSeveralOutcome). o.answer.verdict) (several_done best work) (several_not work) refl
        (λ u. refl) (verdict (several_lines e n K t work)) done)
        (go best w.1.1.1.1.1.1.0)
      where
        go : (c : Choice) → is_nothing c ≡ false → c ≡ choice (first_of c) (own_of c) (shared_of c)
        go nothing g = absurd (clash refl g)
        go (choice r A B) g = refl

    -- it is the best of all that work with 1, 2 or 3 first cells, among the inputs that count (`over_best`)
    pub several_best : BestOver n K most_first (table_bit t)
        (find_several_outcome e n K t work).answer.first (find_several_outcome e n K t work).answer.own
        (find_several_outcome e n K t work).answer.shared
    several_best = (over_best n K (table_bit t) most_first _ _ _).0 is

    -- and it alone is best (`over_unique`)
    pub several_unique : (r A B : ℕ) → BestOver n K most_first (table_bit t) r A B
        → ((find_several_outcome e n K t work).answer.first ≡ r) × ((find_several_outcome e n K t work).answer.own ≡ A)
        × ((find_several_outcome e n K t work).answer.shared ≡ B)
    several_unique r A B b = over_unique n K (table_bit t) most_first _ _ _ r A B several_best b

    -- with one first cell it is find's answer (`over_own`)
    pub several_one : (find_several_outcome e n K t work).answer.first ≡ 1
        → best_for n K t ≡ split (find_several_outcome e n K t work).answer.own
        (find_several_outcome e n K t work).answer.shared
    several_one h = go _ h (over_own n K (table_bit t) most_first _ _ _ several_best)
      where
        go : (r : ℕ) → r ≡ 1 → best_counting n r (table_bit t) K ≡ split outcome.answer.own outcome.answer.shared
            → best_counting n 1 (table_bit t) K ≡ split outcome.answer.own outcome.answer.shared
        go r q w = subst (λ (r : ℕ). best_counting n r (table_bit t) K
            ≡ split outcome.answer.own outcome.answer.shared) q w

  -- ---- 8 exactly if nothing works, for any r

  -- refused as 8: no candidate among the inputs that count is possible with 1, 2 or 3 first cells (`over_none`)
  pub several_none : number_of (find_several_outcome e n K t work).answer.verdict ≡ 8 → (r A B : ℕ)
      → Works n K most_first (table_bit t) r A B → ⊥
  several_none h =
      go best refl (held (find_form e n K t work ++ (nothing_to_split n K t ∷ [])) (none_several best) [] 8 refl refl
      (λ z. omega arith) (ap number_of (sym says) ∙ h)).0
    where
      go : (c : Choice) → best ≡ c → is_nothing c ≡ true → (r A B : ℕ) → Works n K most_first (table_bit t) r A B → ⊥
      go nothing q g = (over_none n K (table_bit t) most_first).0 q
      go (choice r A B) q g = absurd (clash g refl)

  -- where form and room are in order and more than K inputs count, the best choice decides
  module _ (form : InOrder (find_form e n K t work)) (more : K < size n (bit (support n (table_bit t)))) where
    by_search : (find_several_outcome e n K t work).answer.verdict ≡ verdict (none_several (best_several n K t) ∷ [])
    by_search =
        says ∙ passes (find_form e n K t work) (several_says n K t) form
        ∙ ap (λ (b : Bool). verdict (line 7 b ∷ none_several best ∷ []))
        (lt-leb (size n (bit (support n (table_bit t)))) K more)

    -- where nothing works it is refused as 8
    pub several_impossible : ((r A B : ℕ) → Works n K most_first (table_bit t) r A B → ⊥)
        → number_of (find_several_outcome e n K t work).answer.verdict ≡ 8
    several_impossible never = ap number_of by_search
        ∙ ap (λ (c : Choice). number_of (verdict (none_several c ∷ []))) ((over_none n K (table_bit t) most_first).1 never)

    -- and where something does it is done
    pub several_possible : (r A B : ℕ) → Works n K most_first (table_bit t) r A B
        → (find_several_outcome e n K t work).answer.verdict ≡ Fine
    several_possible r A B k = by_search ∙ go best refl
      where
        go : (c : Choice) → best ≡ c → verdict (none_several c ∷ []) ≡ Fine
        go nothing q = absurd ((over_none n K (table_bit t) most_first).0 q r A B k)
        go (choice r' A' B') q = refl
