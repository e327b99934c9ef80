-- One and two cells, as the search tells them: one where at most K inputs count, and else two exactly where H of the
-- best split is left with at most K inputs; the chain then makes so many. Assumes nothing.
use mathlib.Core.Path.{◌≡◌, refl, sym, ap, subst}
use mathlib.Core.Bool.{Bool}
use mathlib.Core.List.{List, [], ◌∷◌}
use Prim.Native.Nat.{ℕ, ◌+◌, ◌^◌, ◌<◌, ◌≤◌}
use native.Mathlib.Omega.{arith}
use lib.ListN.{length}
use Rattle.bits.specs.Numbers.{bit, number}
use Rattle.bits.specs.Sets.{size, spread}
use Rattle.bits.proofs.Members.{size-spread}
use Rattle.tables.specs.Counting.{Counting, support, kept, table_over}
use Rattle.tables.proofs.Depending.{support_sees, support_counting}
use Rattle.tables.proofs.Keeping.{some_kept, kept_most}
use Rattle.splits.specs.Split.{reads_d, Possible}
use Rattle.best.specs.Best.{Candidate, Best}
use Rattle.best.specs.Search.{Answer, none, split, best}
use Rattle.best.specs.Counting.{spread_answer, best_counting}
use Rattle.best.proofs.Best.{best_split}
use Rattle.best.proofs.Counting.{counting_split, counting_none}
use Rattle.sheets.specs.Network.{Cell, Gives, Carries}
use Rattle.chains.specs.Chain.{pick, first_cell, next_signals, next_table, last_cell, made, inputs}
use Rattle.chains.specs.Aside.{sheet_aside}
use Rattle.chains.specs.Words.{Makes, ends, goes}
use Rattle.chains.proofs.Lists.{pick-length}
use Rattle.chains.proofs.One.{next-length}
use Rattle.chains.proofs.Aside.{sheet_made, table_gives}
use Rattle.fewest.proofs.Two as two
use Rattle.bounds.specs.Bound.{counted}

-- a best split that leaves H with at most K inputs
pub record Fits (n K : ℕ) (F : ℕ → Bool) : Type 0 where
  pub own : ℕ
  pub shared : ℕ
  pub best : best_counting n 1 F K ≡ split own shared
  pub large : counted n F + 1 ≤ K + size n (bit own)

module _ (n K : ℕ) (F : ℕ → Bool) (p : 1 ≤ n) (q : 1 ≤ K) where
  -- what the chain makes carries the table
  pub made_carries : (cs : List Cell) → sheet_aside n K (number (2 ^ n) F) ≡ made cs → Carries n K (length cs) F
  made_carries cs e = record { cells = cs; count = refl; network = table_gives n K F p q cs e }

  -- at most K inputs count: one cell
  pub few_made : counted n F ≤ K → (c : Cell) × (sheet_aside n K (number (2 ^ n) F) ≡ made (c ∷ []))
  few_made h =
      let l = pick n (bit (kept n F)) (inputs n) in
      let U = table_over n (bit (kept n F)) F in
      let few : length l ≤ K = omega (arith, pick-length n (bit (kept n F)) (inputs n), kept_most n F) in
      (last_cell l U, (sheet_made n K F p q (last_cell l U ∷ [])).1 (ends few))

  -- ---- more than K inputs count
  module _ (more : K < counted n F) where
    abbrev S : ℕ → Bool
    S = bit (support n F)

    -- two cells are a split with a large A, and the best one's is no smaller
    two_split : (c d : Cell) → Gives n K F (c ∷ d ∷ []) → Fits n K F
    two_split c d N = by (best_counting n 1 F K) refl
      where
        A : ℕ
        A = two.A n K F c d N S (support_sees n F)

        B : ℕ
        B = two.B n K F c d N S (support_sees n F)

        candidate : Candidate n K 1 A B
        candidate = two.two_candidate n K F c d N S (support_sees n F) (support_counting n F) more

        counting : Counting n F (reads_d (bit A) (bit B))
        counting j l e = support_counting n F j l (two.two_inside n K F c d N S (support_sees n F) j l e)

        possible : Possible n F (bit A) (bit B) 1
        possible = two.two_possible n K F c d N S (support_sees n F)

        by : (a : Answer) → best_counting n 1 F K ≡ a → Fits n K F
        by none e = absurd (counting_none n 1 F K e A B candidate counting possible)
        by (split A' B') e = record {
          own = A';
          shared = B';
          best = e;
          large = omega (
            arith,
            ((counting_split n 1 F K A' B' e).ahead A B candidate counting possible).largest_a,
            two.two_large n K F c d N S (support_sees n F) (support_counting n F) more,
          );
        }

    pub two_fits : Carries n K 2 F → Fits n K F
    two_fits C = go C.cells C.network C.count
      where
        go : (cs : List Cell) → Gives n K F cs → length cs ≡ 2 → Fits n K F
        go [] N e = absurd (omega arith)
        go (c ∷ []) N e = absurd (omega arith)
        go (c ∷ d ∷ []) N e = two_split c d N
        go (c ∷ d ∷ x ∷ cs) N e = absurd (omega arith)

    -- ---- and the other way: the chain makes two

    abbrev l : List ℕ
    l = pick n (bit (support n F)) (inputs n)

    abbrev U : ℕ
    U = table_over n (bit (support n F)) F

    length_is : length l ≡ size n S
    length_is = pick-length n S (inputs n)

    split_made : (A B : ℕ) → Best (length l) K 1 (bit U) A B → length l + 1 ≤ K + size (length l) (bit A)
        → (c : Cell) × (d : Cell) × (sheet_aside n K (number (2 ^ n) F) ≡ made (c ∷ d ∷ []))
    split_made A B b h =
        let c = first_cell l U A B in
        let d = last_cell (next_signals l A B n) (next_table l U A B) in
        let longer : K < length l = omega (arith, length_is) in
        let short : length (next_signals l A B n) ≤ K = omega (arith, next-length l n b) in (
          c,
          d,
          (sheet_made n K F p q (c ∷ d ∷ [])).1
              (subst (λ (s : ℕ). Makes K n (pick n (bit s) (inputs n)) (table_over n (bit s) F) (c ∷ d ∷ []))
              (sym (some_kept n F (omega arith))) (goes longer b (ends short))),
        )

    pub fits_made : Fits n K F → (c : Cell) × (d : Cell) × (sheet_aside n K (number (2 ^ n) F) ≡ made (c ∷ d ∷ []))
    unfolding best_counting
    fits_made w = go (best (size n S) 1 (bit U) K) refl w.best
      where
        go : (a : Answer) → best (size n S) 1 (bit U) K ≡ a → spread_answer n S a ≡ split w.own w.shared
            → (c : Cell) × (d : Cell) × (sheet_aside n K (number (2 ^ n) F) ≡ made (c ∷ d ∷ []))
        go none e r = let z : ◌≡◌ {A = ℕ} 0 1 = cc in absurd (omega arith)
        go (split A B) e r =
            let b : Best (length l) K 1 (bit U) A B =
            subst (λ (m : ℕ). Best m K 1 (bit U) A B) (sym length_is) (best_split (size n S) 1 (bit U) K A B e) in
            let same : spread n S A ≡ w.own = cc in
            split_made A B b (omega (
              arith,
              w.large,
              length_is,
              size-spread n S A,
              ap (λ (m : ℕ). size n (bit m)) same,
              ap (λ (m : ℕ). size m (bit A)) length_is,
            ))
