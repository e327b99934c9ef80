-- Find the best split: what is claimed of it, over any edition. Assumes nothing.
use mathlib.Core.Path.{◌≡◌, refl, sym, ap, ap₂, ◌∙◌}
use mathlib.Core.Logic.{◌↔◌, ◌⊎◌}
use mathlib.Core.Bool.{Bool, true, false}
use mathlib.Core.List.{List, [], ◌∷◌, ◌++◌}
use Prim.Native.Nat.{ℕ, ◌<◌, ◌≤◌}
use native.Mathlib.Omega.{arith}
use lib.Dec.{leb}
use lib.ListN.{length, replicate}
use borrow.Author.Tests.{leb-true, leb-false, le-leb, lt-leb}
use Rattle.bits.specs.Numbers.{bit}
use Rattle.bits.specs.Sets.{size}
use Rattle.bits.proofs.Bools.{clash}
use Rattle.tables.specs.Table.{table_bit}
use Rattle.tables.specs.Depends.{DependsOn}
use Rattle.tables.specs.Counting.{Counting, AllCount, support}
use Rattle.tables.proofs.Depending.{support_counting, support_all}
use Rattle.tables.proofs.Keeping.{all_counting}
use Rattle.splits.specs.Split.{reads_d, Possible}
use Rattle.best.specs.Best.{Candidate, Best}
use Rattle.best.specs.Search.{Answer, none, split}
use Rattle.best.specs.Counting.{BestCounting}
use Rattle.best.proofs.Counting.{counting_split, counting_none, counting_plain}
use Rattle.sheets.specs.declared.kinds.Edition.{Edition}
use Rattle.refusals.specs.Verdicts.{Refusal, Fine, Refused}
use Rattle.refusals.specs.Lines.{line, InOrder, verdict, number_of, reply}
use Rattle.refusals.specs.Refusals.{nothing_to_split, none_best, is_none}
use Rattle.refusals.specs.Lent.{work_after}
use Rattle.refusals.proofs.Lines.{in_order_lem, passes, held}
use Rattle.refusals.proofs.Lent.{work_found}
use Rattle.finding.specs.FindBest.{FindAnswer, FindOutcome, best_for, own_of, shared_of, find_form, find_says, find_lines, find_done}
use Rattle.finding.specs.FindBest.{find_not, find_outcome}
use Rattle.claims.specs.Words.{ByLines}
use Rattle.claims.specs.Before.{find_before}
use Rattle.claims.proofs.Verdicts.{says_verdict, is_done, is_refused_lem, area_left, by_lines, work_cleared}

module _ (e : Edition) (n K : ℕ) (t work : List ℕ) where
  says : (find_outcome e n K t work).answer.verdict ≡ verdict (find_lines e n K t work)
  unfolding find_outcome
  says = says_verdict (λ (o : FindOutcome). o.answer.verdict) (find_done (best_for n K t) work) (find_not work) refl
      (λ r. refl) (verdict (find_lines e n K t work))

  -- the work area is left as the verdict asks
  left : (find_outcome e n K t work).work ≡ work_after (find_outcome e n K t work).answer.verdict work
  unfolding find_outcome
  left =
      area_left (λ (o : FindOutcome). o.answer.verdict) (find_done (best_for n K t) work) (find_not work) refl
      (λ r. refl) (λ (o : FindOutcome). o.work) work refl (λ r. refl)
      (verdict (find_lines e n K t work))

  -- the verdict is that of lines 1 to 4 and 6 to 8
  pub find_lines_lem : ByLines (find_outcome e n K t work).answer.verdict (find_lines e n K t work)
  find_lines_lem = by_lines (find_lines e n K t work) refl (find_outcome e n K t work).answer.verdict says

  -- refused: both masks are 0
  pub find_refused : (r : Refusal) → (find_outcome e n K t work).answer.verdict ≡ Refused r
      → ((find_outcome e n K t work).answer.own ≡ 0) × ((find_outcome e n K t work).answer.shared ≡ 0)
  unfolding find_outcome
  find_refused r h =
      let q = is_refused_lem (λ (o : FindOutcome). o.answer.verdict) (find_done (best_for n K t) work) (find_not work) refl
      (λ u. refl) (verdict (find_lines e n K t work)) r h in
      (ap (λ o. o.answer.own) q, ap (λ o. o.answer.shared) q)

  -- 1 to 7 leave the work area as found
  pub find_keeps : 1 ≤ number_of (find_outcome e n K t work).answer.verdict
      → number_of (find_outcome e n K t work).answer.verdict ≤ 7 → (find_outcome e n K t work).work ≡ work
  find_keeps h g = left ∙ work_found (find_outcome e n K t work).answer.verdict work h g

  -- after 0 or 8 the whole of it is zeros
  pub find_clears : (number_of (find_outcome e n K t work).answer.verdict ≡ 0)
      ⊎ (number_of (find_outcome e n K t work).answer.verdict ≡ 8)
      → (find_outcome e n K t work).work ≡ replicate (length work) 0
  find_clears h = left ∙ work_cleared (find_outcome e n K t work).answer.verdict work h

  -- two outcomes that keep the promise are equal: the answer, and the work area afterwards
  pub find_once : (a a' : FindAnswer) (l l' : List ℕ) → record { answer = a; work = l } ≡ find_outcome e n K t work
      → record { answer = a'; work = l' } ≡ find_outcome e n K t work
      → (a ≡ a') × (l ≡ l')
  find_once a a' l l' p q = (ap (λ o. o.answer) (p ∙ sym q), ap (λ o. o.work) (p ∙ sym q))

  -- ---- which inputs count, and 7

  -- the inputs that count are those on which the output depends (`support_counting`, `support_all`, tables)
  pub counting_exactly : (j : ℕ) → j < n → (bit (support n (table_bit t)) j ≡ true) ↔ DependsOn n (table_bit t) j
  counting_exactly j l = (support_counting n (table_bit t) j l, support_all n (table_bit t) j l)

  -- where form and room are in order, 7 exactly if at most K inputs count
  pub few_exactly : InOrder (find_form e n K t work) → (number_of (find_outcome e n K t work).answer.verdict ≡ 7)
      ↔ (size n (bit (support n (table_bit t))) ≤ K)
  few_exactly form = (
    λ h. leb-true c K (held (find_form e n K t work) (nothing_to_split n K t) (none_best (best_for n K t) ∷ []) 7 refl refl
        (λ z. omega arith) (ap number_of (sym says) ∙ h)).0,
    λ h. ap number_of (says ∙ passes (find_form e n K t work) (find_says n K t) form)
        ∙ ap (λ (b : Bool). number_of (verdict (line 7 b ∷ none_best (best_for n K t) ∷ []))) (le-leb c K h),
  )
    where
      c : ℕ
      c = size n (bit (support n (table_bit t)))

  -- ---- demand 3

  -- done: more than K inputs count
  pub found_more : (find_outcome e n K t work).answer.verdict ≡ Fine → K < size n (bit (support n (table_bit t)))
  found_more h = leb-false (size n (bit (support n (table_bit t)))) K
      (in_order_lem (find_lines e n K t work) (sym says ∙ h)).1.1.1.1.1.0

  -- done: the masks are the best of all possible splits among the inputs that count (`counting_split`, best)
  pub found_best : (find_outcome e n K t work).answer.verdict ≡ Fine
      → BestCounting n K 1 (table_bit t) (find_outcome e n K t work).answer.own
      (find_outcome e n K t work).answer.shared
  unfolding find_outcome
  found_best h =
      let w = in_order_lem (find_lines e n K t work) (sym says ∙ h) in
      rw (is_done (λ (o : FindOutcome). o.answer.verdict) (find_done (best_for n K t) work) (find_not work) refl
      (λ u. refl) (verdict (find_lines e n K t work)) h)
      (go (best_for n K t) refl w.1.1.1.1.1.1.0)
    where
      go : (a : Answer) → best_for n K t ≡ a → is_none a ≡ false → BestCounting n K 1 (table_bit t) (own_of a) (shared_of a)
      go none q g = absurd (clash refl g)
      go (split A B) q g = counting_split n 1 (table_bit t) K A B q

  -- refused as 8: no candidate among the inputs that count is possible (`counting_none`, best)
  pub none_possible : number_of (find_outcome e n K t work).answer.verdict ≡ 8 → (A B : ℕ) → Candidate n K 1 A B
      → Counting n (table_bit t) (reads_d (bit A) (bit B))
      → Possible n (table_bit t) (bit A) (bit B) 1 → ⊥
  none_possible h =
      go (best_for n K t) refl (held (find_form e n K t work ++ (nothing_to_split n K t ∷ [])) (none_best (best_for n K t)) []
      8 refl refl (λ z. omega arith) (ap number_of (sym says) ∙ h)).0
    where
      go : (a : Answer) → best_for n K t ≡ a → is_none a ≡ true → (A B : ℕ) → Candidate n K 1 A B
          → Counting n (table_bit t) (reads_d (bit A) (bit B))
          → Possible n (table_bit t) (bit A) (bit B) 1 → ⊥
      go none q g = counting_none n 1 (table_bit t) K q
      go (split A B) q g = absurd (clash g refl)

  -- where form and room are in order and more than K inputs count, the best split decides
  module _ (form : InOrder (find_form e n K t work)) (more : K < size n (bit (support n (table_bit t)))) where
    by_search : (find_outcome e n K t work).answer.verdict ≡ verdict (none_best (best_for n K t) ∷ [])
    by_search =
        says ∙ passes (find_form e n K t work) (find_says n K t) form
        ∙ ap (λ (b : Bool). verdict (line 7 b ∷ none_best (best_for n K t) ∷ []))
        (lt-leb (size n (bit (support n (table_bit t)))) K more)

    -- the other way: where no candidate among the inputs that count is possible, find is refused as 8
    pub impossible_refused : ((A B : ℕ) → Candidate n K 1 A B → Counting n (table_bit t) (reads_d (bit A) (bit B))
        → Possible n (table_bit t) (bit A) (bit B) 1 → ⊥)
        → number_of (find_outcome e n K t work).answer.verdict ≡ 8
    impossible_refused never = ap number_of by_search ∙ go (best_for n K t) refl
      where
        go : (a : Answer) → best_for n K t ≡ a → number_of (verdict (none_best a ∷ [])) ≡ 8
        go none q = refl
        go (split A B) q = let b = counting_split n 1 (table_bit t) K A B q
            in absurd (never A B b.candidate b.counting b.possible)

    -- and where one is possible, find is done
    pub possible_found : (A B : ℕ) → Candidate n K 1 A B → Counting n (table_bit t) (reads_d (bit A) (bit B))
        → Possible n (table_bit t) (bit A) (bit B) 1
        → (find_outcome e n K t work).answer.verdict ≡ Fine
    possible_found A B c counting P = by_search ∙ go (best_for n K t) refl
      where
        go : (a : Answer) → best_for n K t ≡ a → verdict (none_best a ∷ []) ≡ Fine
        go none q = absurd (counting_none n 1 (table_bit t) K q A B c counting P)
        go (split A' B') q = refl

  -- ---- where the output depends on each input, find answers as it did before inputs were set aside
  module _ (all : AllCount n (table_bit t)) where
    pub find_as_before : find_outcome e n K t work ≡ find_before e n K t work
    unfolding find_outcome
    find_as_before =
        ap₂ (λ (c : ℕ) (a : Answer). reply (verdict (find_form e n K t work ++ (line 7 (leb c K) ∷ none_best a ∷ [])))
        (find_done a work) (find_not work))
        (all_counting n (table_bit t) all) (counting_plain n 1 (table_bit t) K all)

    -- done: the best of all possible splits
    pub found_best_of_all : (find_outcome e n K t work).answer.verdict ≡ Fine
        → Best n K 1 (table_bit t) (find_outcome e n K t work).answer.own (find_outcome e n K t work).answer.shared
    found_best_of_all h = let b = found_best h in record {
      candidate = b.candidate;
      possible = b.possible;
      ahead = λ A B c P. b.ahead A B c (λ j l _. all j l) P;
    }

    -- refused as 8: none is possible
    pub none-of_all : number_of (find_outcome e n K t work).answer.verdict ≡ 8 → (A B : ℕ) → Candidate n K 1 A B
        → Possible n (table_bit t) (bit A) (bit B) 1 → ⊥
    none-of_all h A B c = none_possible h A B c (λ j l _. all j l)
