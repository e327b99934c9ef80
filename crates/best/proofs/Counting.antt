-- The best split over the inputs that count: candidates over them are the whole table's candidates whose members all
-- count, by spreading and gathering, which keep sizes and the order of masks; so the best stays the best. Assumes
-- nothing.
use mathlib.Core.Path.{◌≡◌, refl, sym, ap, ap₂, ◌∙◌, subst₂}
use mathlib.Core.Bool.{Bool, true, false, ◌&&◌, ◌||◌}
use mathlib.Core.List.{List}
use Prim.Native.Nat.{ℕ, ◌^◌, ◌<◌}
use native.Mathlib.Omega.{arith}
use Rattle.bits.specs.Numbers.{bit, number}
use Rattle.bits.specs.Sets.{size, gather, spread}
use Rattle.bits.proofs.Bools.{or_left, or_right}
use Rattle.bits.proofs.Numbers.{bit-number}
use Rattle.bits.proofs.Sizes.{size-lt}
use Rattle.bits.proofs.Spreading.{gather-lt, gather-bit, gather-spread, bit-spread, bit-spread_in, spread-lt}
use Rattle.bits.proofs.Members.{Place, place, gather-place, size-spread, spread_rises, spread_inside, inside_spread}
use Rattle.tables.specs.Table.{table_bit}
use Rattle.tables.specs.declared.counting.CountingInputs.{CountingInputs}
use Rattle.tables.specs.Counting.{AllCount, Counting, Sees, CountingIn, support, table_over}
use Rattle.tables.proofs.Depending.{support_sees, support_counting, support_all}
use Rattle.splits.specs.Split.{reads_d, Possible}
use Rattle.splits.proofs.Over.{possible_whole, possible_over}
use Rattle.best.specs.Best.{Candidate, Ahead, Best}
use Rattle.best.specs.Search.{Answer, none, split, best}
use Rattle.best.proofs.Best.{best_split, best_none, best_ext}
use Rattle.best.proofs.Order.{ahead_antisym}
use Rattle.best.specs.Counting.{spread_answer, best_counting, BestCounting}

-- ---- candidates over a set that the table sees alone
module _ (n : ℕ) (F : ℕ → Bool) (S : ℕ → Bool) (sees : Sees n F S) (K r : ℕ) where
  abbrev c : ℕ
  c = size n S

  abbrev G : ℕ → Bool
  G = bit (table_over n S F)

  -- all members of A and B are members of S
  abbrev Inside : ℕ → ℕ → Type 0
  Inside A B = (j : ℕ) → j < n → reads_d (bit A) (bit B) j ≡ true → S j ≡ true

  module _ (A B : ℕ) (k : Candidate c K r A B) where
    spread_candidate : Candidate n K r (spread n S A) (spread n S B)
    spread_candidate = record {
      below_a = spread-lt n S A;
      below_b = spread-lt n S B;
      apart = λ j l e. bit-spread n S A j l ∙ go j l (S j) refl (sym (bit-spread n S B j l) ∙ e);
      more = omega (arith, size-spread n S A, k.more);
      most = omega (arith, size-spread n S A, size-spread n S B, k.most);
    }
      where
        go : (j : ℕ) → j < n → (t : Bool) → S j ≡ t → (t && bit B (size j S)) ≡ true → (t && bit A (size j S)) ≡ false
        go j l true p e = k.apart (size j S) (size-lt n S j l p) e
        go j l false p e = refl

    spread_inside_both : Inside (spread n S A) (spread n S B)
    spread_inside_both j l e = go (bit (spread n S A) j) refl e
      where
        go : (t : Bool) → bit (spread n S A) j ≡ t → (t || bit (spread n S B) j) ≡ true → S j ≡ true
        go true p e = spread_inside n S A j l p
        go false p e = spread_inside n S B j l e

    spread_possible : Possible c G (bit A) (bit B) r → Possible n F (bit (spread n S A)) (bit (spread n S B)) r
    spread_possible = possible_whole n F S sees (bit (spread n S A)) (bit (spread n S B)) (bit A) (bit B)
        (bit-spread_in n S A) (bit-spread_in n S B) r

  module _ (A B : ℕ) (k : Candidate n K r A B) (inside : Inside A B) where
    back_a : spread n S (gather n S A) ≡ A
    back_a = inside_spread n S A k.below_a (λ j l e. inside j l (or_left (bit A j) (bit B j) e))

    back_b : spread n S (gather n S B) ≡ B
    back_b = inside_spread n S B k.below_b (λ j l e. inside j l (or_right (bit A j) (bit B j) e))

    pub gather-size : size c (bit (gather n S A)) ≡ size n (bit A)
    gather-size = sym (size-spread n S (gather n S A)) ∙ ap (λ (m : ℕ). size n (bit m)) back_a

    pub gather_candidate : Candidate c K r (gather n S A) (gather n S B)
    gather_candidate = record {
      below_a = gather-lt n S A;
      below_b = gather-lt n S B;
      apart = λ q l e. go q e (place n S q l);
      more = omega (arith, gather-size, k.more);
      most = omega (arith, gather-size, size_b, k.most);
    }
      where
        size_b : size c (bit (gather n S B)) ≡ size n (bit B)
        size_b = sym (size-spread n S (gather n S B)) ∙ ap (λ (m : ℕ). size n (bit m)) back_b

        go : (q : ℕ) → bit (gather n S B) q ≡ true → Place n S q → bit (gather n S A) q ≡ false
        go q e w = gather-place n S A q w ∙ k.apart w.at w.below (sym (gather-place n S B q w) ∙ e)

    pub gather_possible : Possible n F (bit A) (bit B) r → Possible c G (bit (gather n S A)) (bit (gather n S B)) r
    gather_possible = possible_over n F S sees (bit A) (bit B) (bit (gather n S A)) (bit (gather n S B))
        (λ j l e. sym (gather-bit n S A j l e))
        (λ j l e. sym (gather-bit n S B j l e)) r

  -- the order is kept
  spread_ahead : (A B A' B' : ℕ) → Candidate c K r A B → Candidate c K r A' B' → Ahead c A B A' B'
      → Ahead n (spread n S A) (spread n S B) (spread n S A') (spread n S B')
  spread_ahead A B A' B' k k' a = record {
    largest_a = omega (arith, size-spread n S A, size-spread n S A', a.largest_a);
    smallest_b = λ p. omega (arith, size-spread n S B, size-spread n S B', a.smallest_b (same A A' p));
    least_a = λ p q. spread_rises n S A A' k.below_a k'.below_a (a.least_a (same A A' p) (same B B' q));
    least_b = λ p q e. spread_rises n S B B' k.below_b k'.below_b
        (a.least_b (same A A' p) (same B B' q) (sym (gather-spread n S A' k'.below_a) ∙ ap (gather n S) e
        ∙ gather-spread n S A k.below_a));
  }
    where
      same : (X X' : ℕ) → size n (bit (spread n S X')) ≡ size n (bit (spread n S X)) → size c (bit X') ≡ size c (bit X)
      same X X' p = sym (size-spread n S X') ∙ p ∙ size-spread n S X

  -- so the best split over S, spread back, comes before every possible candidate inside S
  ahead_inside : (A B : ℕ) → Best c K r G A B → (A' B' : ℕ) → Candidate n K r A' B' → Inside A' B'
      → Possible n F (bit A') (bit B') r
      → Ahead n (spread n S A) (spread n S B) A' B'
  ahead_inside A B b A' B' k i P =
      subst₂ (Ahead n (spread n S A) (spread n S B)) (back_a A' B' k i) (back_b A' B' k i)
      (spread_ahead A B (gather n S A') (gather n S B') b.candidate (gather_candidate A' B' k i)
      (b.ahead (gather n S A') (gather n S B') (gather_candidate A' B' k i) (gather_possible A' B' k i P)))

-- ---- the inputs that count
module _ (n r : ℕ) (F : ℕ → Bool) (K : ℕ) where
  abbrev s : ℕ → Bool
  s = bit (support n F)

  abbrev m : ℕ
  m = size n (bit (support n F))

  abbrev H : ℕ → Bool
  H = bit (table_over n (bit (support n F)) F)

  within : (A B : ℕ) → Counting n F (reads_d (bit A) (bit B)) → Inside n F s (support_sees n F) K r A B
  within A B counting j l e = support_all n F j l (counting j l e)

  counting_best : (A B : ℕ) → Best m K r H A B → BestCounting n K r F (spread n s A) (spread n s B)
  counting_best A B b =
      let sees = support_sees n F in
      record {
        candidate = spread_candidate n F s sees K r A B b.candidate;
        counting = λ j l e. support_counting n F j l (spread_inside_both n F s sees K r A B b.candidate j l e);
        possible = spread_possible n F s sees K r A B b.candidate b.possible;
        ahead = λ A' B' k counting P. ahead_inside n F s sees K r A B b A' B' k (within A' B' counting) P;
      }

  -- what find answers is the best of all possible candidates whose members all count
  pub counting_split : (A B : ℕ) → best_counting n r F K ≡ split A B → BestCounting n K r F A B
  unfolding best_counting
  counting_split A B e = go (best m r H K) refl e
    where
      go : (a : Answer) → best m r H K ≡ a → spread_answer n s a ≡ split A B → BestCounting n K r F A B
      go none q e = let z : ◌≡◌ {A = ℕ} 0 1 = cc in absurd (omega arith)
      go (split A' B') q e =
          let p : spread n s A' ≡ A = cc in
          let t : spread n s B' ≡ B = cc in
          subst₂ (BestCounting n K r F) p t (counting_best A' B' (best_split m r H K A' B' q))

  -- and it answers none only where there is none
  pub counting_none : best_counting n r F K ≡ none → (A B : ℕ) → Candidate n K r A B
      → Counting n F (reads_d (bit A) (bit B)) → Possible n F (bit A) (bit B) r → ⊥
  unfolding best_counting
  counting_none e A B k counting P = go (best m r H K) refl e
    where
      go : (a : Answer) → best m r H K ≡ a → spread_answer n s a ≡ none → ⊥
      go none q e =
          let sees = support_sees n F in
          let i = within A B counting in
          best_none m r H K q (gather n s A) (gather n s B) (gather_candidate n F s sees K r A B k i)
          (gather_possible n F s sees K r A B k i P)
      go (split A' B') q e = let z : ◌≡◌ {A = ℕ} 0 1 = cc in omega arith

  -- a best split over the inputs that count is what find answers
  pub counting_answer : (A B : ℕ) → BestCounting n K r F A B → best_counting n r F K ≡ split A B
  counting_answer A B b = go (best_counting n r F K) refl
    where
      go : (a : Answer) → best_counting n r F K ≡ a → a ≡ split A B
      go none e = absurd (counting_none e A B b.candidate b.counting b.possible)
      go (split A' B') e =
          let b' = counting_split A' B' e in
          let same = ahead_antisym n A' B' A B (b'.ahead A B b.candidate b.counting b.possible)
          (b.ahead A' B' b'.candidate b'.counting b'.possible) in
          ap₂ split same.0 same.1

  -- where every input counts it is the best split of all
  pub counting_plain : AllCount n F → best_counting n r F K ≡ best n r F K
  counting_plain all = go (best n r F K) refl
    where
      go : (a : Answer) → best n r F K ≡ a → best_counting n r F K ≡ a
      go (split A B) e =
          let b = best_split n r F K A B e in
          counting_answer A B (record {
            candidate = b.candidate;
            counting = λ j l _. all j l;
            possible = b.possible;
            ahead = λ A' B' k _ P. b.ahead A' B' k P;
          })
      go none e = nothing (best_counting n r F K) refl
        where
          nothing : (a : Answer) → best_counting n r F K ≡ a → a ≡ none
          nothing none q = refl
          nothing (split A B) q = let b = counting_split A B q
              in absurd (best_none n r F K e A B b.candidate b.possible)

-- where the table over the inputs that count stands in front of a list of bytes, the search there finds it
pub counting_found : (n r K : ℕ) (F : ℕ → Bool) (c : CountingInputs) (work : List ℕ) → CountingIn n F c
    → number (2 ^ size n (bit c.mask)) (table_bit work) ≡ table_over n (bit c.mask) F
    → spread_answer n (bit c.mask) (best c.many r (table_bit work) K) ≡ best_counting n r F K
unfolding best_counting
counting_found n r K F c work w over =
    ap (spread_answer n (bit c.mask)) (best_ext c.many r K (table_bit work) T same
    ∙ ap (λ (k : ℕ). best k r T K) count)
    ∙ ap (λ (s : ℕ). spread_answer n (bit s) (best (size n (bit s)) r (bit (table_over n (bit s) F)) K)) w.is
  where
    T : ℕ → Bool
    T = bit (table_over n (bit c.mask) F)

    count : c.many ≡ size n (bit c.mask)
    count = w.count ∙ ap (λ (s : ℕ). size n (bit s)) (sym w.is)

    same : (x : ℕ) → x < 2 ^ c.many → table_bit work x ≡ T x
    same x h =
        sym (bit-number (2 ^ c.many) (table_bit work) x h)
        ∙ ap (λ (m : ℕ). bit m x) (ap (λ (k : ℕ). number (2 ^ k) (table_bit work)) count ∙ over)
