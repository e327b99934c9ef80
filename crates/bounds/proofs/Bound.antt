-- What is computed is the bound: by the chain with cells of two inputs, else by the best split. Assumes nothing.
use mathlib.Core.Path.{◌≡◌, refl, sym, ap, ap₂, ◌∙◌, subst}
use mathlib.Core.Bool.{Bool, true, false, cond}
use mathlib.Core.List.{[], ◌∷◌}
use Prim.Native.Nat.{ℕ, ◌+◌, ◌-◌, ◌^◌, ◌<◌, ◌≤◌, max}
use native.Mathlib.Decide.{dec_lt}
use native.Mathlib.Omega.{arith}
use lib.Dec.{leb, eqb}
use lib.ListN.{length}
use borrow.Author.Tests.{le-leb, lt-leb, leb-true, leb-false, eq-eqb, ne_eqb, eqb-true, eqb-false}
use Rattle.bits.specs.Numbers.{bit, number}
use Rattle.bits.specs.Sets.{size}
use Rattle.bits.proofs.Numbers.{bit-zero}
use Rattle.bits.proofs.Sizes.{size_ext}
use Rattle.bits.proofs.Counting.{size_none}
use Rattle.best.specs.Search.{Answer, none, split}
use Rattle.best.specs.Counting.{best_counting}
use Rattle.sheets.specs.Network.{Carries}
use Rattle.chains.specs.Chain.{Made, stuck, made}
use Rattle.chains.specs.Aside.{sheet_aside}
use Rattle.chains.proofs.Aside.{table_most}
use Rattle.trees.proofs.Trees.{made_tree, stuck_treeless}
use Rattle.finding.specs.FindBest.{own_of}
use Rattle.bounds.specs.Bound.{counted, Bound, one, two, treeless, more}
use Rattle.bounds.specs.Least.{reaching, by_split, by_chain, cell_bound}
use Rattle.bounds.proofs.Two.{made_carries, two_fits, fits_made}
use Rattle.bounds.proofs.Reaching.{reached, reaching-least}

-- ---- the three ways to compute it
module _ (n K : ℕ) (F : ℕ → Bool) where
  by : Bool → Bool → Made → Answer → ℕ
  by few pairs r a = elim few as (λ z. ℕ) [
    | true ↦ 1
    | false ↦ elim pairs as (λ z. ℕ)
        [ true ↦ by_chain (counted n F) r | false ↦ by_split n K (counted n F) a ]
  ]

  least_by : (few pairs : Bool) → leb (counted n F) K ≡ few → eqb K 2 ≡ pairs
      → cell_bound n K F ≡ by few pairs (sheet_aside n 2 (number (2 ^ n) F)) (best_counting n 1 F K)
  unfolding cell_bound by
  least_by few pairs e f = ap₂ (λ (s t : Bool). by s t (sheet_aside n 2 (number (2 ^ n) F)) (best_counting n 1 F K)) e f

  pub least_few : counted n F ≤ K → cell_bound n K F ≡ 1
  unfolding by
  least_few h = least_by true (eqb K 2) (le-leb (counted n F) K h) refl

  pub least-chain : K < counted n F → K ≡ 2 → cell_bound n K F
      ≡ by_chain (counted n F) (sheet_aside n 2 (number (2 ^ n) F))
  unfolding by
  least-chain h e = least_by false true (lt-leb (counted n F) K h) (eq-eqb K 2 e)

  pub least_split : K < counted n F → (K ≡ 2 → ⊥)
      → cell_bound n K F ≡ by_split n K (counted n F) (best_counting n 1 F K)
  unfolding by
  least_split h f = least_by false false (lt-leb (counted n F) K h) (ne_eqb K 2 f)

-- ---- what is computed is the bound
module _ (n K : ℕ) (F : ℕ → Bool) (p : 1 ≤ n) (q : 2 ≤ K) where
  abbrev c : ℕ
  c = counted n F

  some : 1 ≤ K
  some = omega arith

  pairs : (r : Made) → sheet_aside n 2 (number (2 ^ n) F) ≡ r → 2 < c → Bound n 2 F (by_chain c r)
  pairs stuck e h = treeless refl h (λ w. (stuck_treeless n F p).0 e w.0 w.1)
  pairs (made cs) e h =
      let C = made_carries n 2 F p (omega arith) cs e in
      let long : length cs ≡ c - 1 = omega (arith, reached n 2 (length cs) F C, table_most n 2 F p (omega arith) cs e)
      in
      elim (dec_lt 3 c) [
        | yes g ↦ let is : max 3 (c - 1) ≡ c - 1 = omega arith in
            subst (Bound n 2 F) is
            (more h (λ D. omega (arith, reached n 2 2 F D)) (λ _. made_tree n F p cs e)
            (record { enough = omega arith; least = λ k l. omega arith }))
        | no g ↦ let is : 2 ≡ c - 1 = omega arith in
            subst (Bound n 2 F) is (two h (subst (λ (m : ℕ). Carries n 2 m F) (long ∙ sym is) C))
      ]

  by_split_lem : K < c → (K ≡ 2 → ⊥) → (a : Answer) → best_counting n 1 F K ≡ a → Bound n K F (by_split n K c a)
  by_split_lem h f a e = go (leb (c + 1) (K + size n (bit (own_of a)))) refl
    where
      carried : (a : Answer) → best_counting n 1 F K ≡ a → c + 1 ≤ K + size n (bit (own_of a)) → Carries n K 2 F
      carried none e l = absurd (omega (arith, size_ext n (bit 0) (λ j. false) (λ j _. bit-zero j), size_none n))
      carried (split A B) e l =
          let w = fits_made n K F p some h (record { own = A; shared = B; best = e; large = l }) in
          made_carries n K F p some (w.0 ∷ w.1 ∷ []) w.2

      go : (t : Bool) → leb (c + 1) (K + size n (bit (own_of a))) ≡ t → Bound n K F (cond t 2 (max 3 (reaching c K)))
      go true r = two h (carried a e (leb-true (c + 1) (K + size n (bit (own_of a))) r))
      go false r =
          more h (λ C. let w = two_fits n K F p some h C in let same = ap own_of (sym e ∙ w.best) in
          omega (
            arith,
            w.large,
            leb-false (c + 1) (K + size n (bit (own_of a))) r,
            ap (λ (m : ℕ). size n (bit m))
                same,
          )) (λ t. absurd (f t)) (reaching-least c K q h)

  pub least_bound : Bound n K F (cell_bound n K F)
  least_bound = elim (dec_lt K c) [
    | no h ↦ let few : c ≤ K = omega arith in subst (Bound n K F) (sym (least_few n K F few)) (one few)
    | yes h ↦ go h (eqb K 2) refl
  ]
    where
      go : K < c → (t : Bool) → eqb K 2 ≡ t → Bound n K F (cell_bound n K F)
      go h true e =
          let k = eqb-true K 2 e in
          subst (Bound n K F) (sym (least-chain n K F h k))
          (subst (λ (m : ℕ). Bound n m F (by_chain c (sheet_aside n 2 (number (2 ^ n) F)))) (sym k)
          (pairs (sheet_aside n 2 (number (2 ^ n) F)) refl (omega arith)))
      go h false e = let f = eqb-false K 2 e in subst (Bound n K F) (sym (least_split n K F h f))
          (by_split_lem h f (best_counting n 1 F K) refl)
