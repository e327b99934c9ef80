-- Two cells that carry a table of which more than K inputs count are a split of it whose members all count: D is the
-- first cell, A what it alone reads, and H the second, both with the other inputs at 0. H reads the first cell and at
-- most K - 1 inputs; so A is as large as two cells need. Assumes nothing.
use mathlib.Core.Path.{◌≡◌, refl, sym, ap, ap₂, ◌∙◌}
use mathlib.Core.Bool.{Bool, true, false, cond, not, ◌&&◌, ◌||◌, or-false}
use mathlib.Core.List.{[], ◌∷◌}
use Prim.Native.Nat.{ℕ, suc, ◌+◌, ◌^◌, ◌<◌, ◌≤◌}
use native.Mathlib.Omega.{arith}
use lib.Dec.{eqb}
use borrow.Author.Tests.{eq-eqb, ne_eqb, eqb-false}
use Rattle.bits.specs.Numbers.{bit, val, number}
use Rattle.bits.specs.Sets.{Agree, size, gather, spread}
use Rattle.bits.proofs.Bools.{clash, and_right}
use Rattle.bits.proofs.Numbers.{number_lt, bit-number}
use Rattle.bits.proofs.Spreading.{gather-bit, bit-spread, spread-lt}
use Rattle.bits.proofs.Sizes.{size-sum}
use Rattle.bits.proofs.Counting.{size-part}
use Rattle.tables.specs.Counting.{Counting, Sees}
use Rattle.tables.proofs.Over.{cleared}
use Rattle.splits.specs.Split.{reads_d, reads_h, Possible}
use Rattle.splits.specs.Columns.{member}
use Rattle.splits.proofs.Respect.{possible_of}
use Rattle.best.specs.Best.{Candidate}
use Rattle.sheets.specs.Network.{Cell, output, run, Gives}
use Rattle.networks.proofs.Values.{member_below, size-member, output_ext}
use Rattle.fewest.proofs.Reach.{needed, counted-needed}

module _ (n K : ℕ) (F : ℕ → Bool) (c d : Cell) (N : Gives n K F (c ∷ d ∷ [])) (S : ℕ → Bool) (sees : Sees n F S) where
  -- what the first and the second cell read
  abbrev R₁ : ℕ → Bool
  R₁ s = member s c.signals

  abbrev R₂ : ℕ → Bool
  R₂ s = member s d.signals

  own : ℕ → Bool
  own j = S j && (R₁ j && not (R₂ j))

  shared : ℕ → Bool
  shared j = S j && (R₁ j && R₂ j)

  pub A : ℕ
  A = number n own

  pub B : ℕ
  B = number n shared

  bit_a : (j : ℕ) → j < n → bit A j ≡ (S j && (R₁ j && not (R₂ j)))
  unfolding A own
  bit_a j h = bit-number n own j h

  bit_b : (j : ℕ) → j < n → bit B j ≡ (S j && (R₁ j && R₂ j))
  unfolding B shared
  bit_b j h = bit-number n shared j h

  -- ---- the split is possible

  -- x with the inputs outside S at 0
  only : ℕ → ℕ
  only x = spread n S (gather n S x)

  -- where x and y agree on the members of a set, they then agree on it
  only_agree : (x y s : ℕ) → s < n → (S s ≡ true → bit x s ≡ bit y s) → bit (only x) s ≡ bit (only y) s
  unfolding only
  only_agree x y s l h = bit-spread n S (gather n S x) s l ∙ go (S s) refl ∙ sym (bit-spread n S (gather n S y) s l)
    where
      go : (t : Bool) → S s ≡ t → (t && bit (gather n S x) (size s S)) ≡ (t && bit (gather n S y) (size s S))
      go true q = gather-bit n S x s l q ∙ h q ∙ sym (gather-bit n S y s l q)
      go false q = refl

  -- the signals that the second cell sees, the first one's output being o
  see : ℕ → Bool → ℕ → Bool
  see x o s = cond (eqb s n) o (bit (only x) s)

  gives_two : (x : ℕ) → x < 2 ^ n → F x ≡ output d (see x (output c (bit (only x))))
  unfolding run see only
  gives_two x h = sym (cleared n F S sees x h) ∙ sym (N.gives (only x) (spread-lt n S (gather n S x)))

  first_sees : (x y : ℕ) → Agree n (reads_d (bit A) (bit B)) x y → output c (bit (only x)) ≡ output c (bit (only y))
  first_sees x y h = output_ext c (bit (only x)) (bit (only y)) (λ s m.
      let l = member_below n c.signals N.wired.1 s m in
      only_agree x y s l (λ e. h s l (ap₂ ◌||◌ (bit_a s l) (bit_b s l) ∙ read (S s) (R₁ s) (R₂ s) e m)))
    where
      read : (t p q : Bool) → t ≡ true → p ≡ true → ((t && (p && not q)) || (t && (p && q))) ≡ true
      read true true true e f = refl
      read true true false e f = refl
      read true false q e f = cc
      read false p q e f = cc

  second_sees : (o : Bool) (x y : ℕ) → Agree n (reads_h (bit A) (bit B)) x y → output d (see x o) ≡ output d (see y o)
  unfolding see
  second_sees o x y h = output_ext d (see x o) (see y o) (λ s m. go s m (eqb s n) refl)
    where
      read : (t p q : Bool) → t ≡ true → q ≡ true → ((t && (p && q)) || not ((t && (p && not q)) || (t && (p && q))))
          ≡ true
      read true true true e f = refl
      read true false q e f = refl
      read true true false e f = cc
      read false p q e f = cc

      go : (s : ℕ) → R₂ s ≡ true → (t : Bool) → eqb s n ≡ t → cond t o (bit (only x) s) ≡ cond t o (bit (only y) s)
      go s m true q = refl
      go s m false q =
          let ne : s ≡ n → ⊥ = eqb-false s n q in
          let l : s < n = omega (arith, member_below (suc n) d.signals N.wired.2.1 s m) in
          only_agree x y s l (λ e. h s l (ap₂ (λ (a b : Bool). b || not (a || b)) (bit_a s l) (bit_b s l)
          ∙ read (S s) (R₁ s) (R₂ s) e m))

  pub two_possible : Possible n F (bit A) (bit B) 1
  two_possible = possible_of n F (bit A) (bit B) 1 (λ t x. output c (bit (only x))) (λ k x. output d (see x (bit k 0)))
      (λ t x y h. first_sees x y h) (λ k x y h. second_sees (bit k 0) x y h)
      (λ x h. gives_two x h ∙ ap (λ (o : Bool). output d (see x o))
      (sym (bit-number 1 (λ t. output c (bit (only x))) 0 (omega arith))))

  -- all its members are members of S
  pub two_inside : (j : ℕ) → j < n → reads_d (bit A) (bit B) j ≡ true → S j ≡ true
  two_inside j l e = go (S j) (R₁ j) (R₂ j) (sym (ap₂ ◌||◌ (bit_a j l) (bit_b j l)) ∙ e)
    where
      go : (t p q : Bool) → ((t && (p && not q)) || (t && (p && q))) ≡ true → t ≡ true
      go true p q e = refl
      go false p q e = e

  -- ---- it is a candidate, with A as large as two cells need
  module _ (counting : Counting n F S) (more : K < size n S) where
    needed-one : (s : ℕ) → s < suc n → needed (suc n) (d ∷ []) s ≡ R₂ s
    unfolding needed
    needed-one s h = ap₂ (λ (t u : Bool). t || (u && R₂ s)) (ne_eqb (suc s) (suc (suc n)) (omega arith))
        (eq-eqb (suc (suc n)) (suc (suc n)) refl)

    all_read : (s : ℕ) → s < n → S s ≡ true → (R₂ s || (R₂ n && R₁ s)) ≡ true
    unfolding needed
    all_read s h e =
        sym (ap₂ (λ (t u : Bool). t || (u && R₁ s)) (needed-one s (omega arith)) (needed-one n (omega arith)))
        ∙ counted-needed n K F c (d ∷ []) N s h (counting s h e)

    -- the second cell reads the first, else it would read every member
    linked : R₂ n ≡ true
    linked = go (R₂ n) refl
      where
        go : (t : Bool) → R₂ n ≡ t → t ≡ true
        go true e = refl
        go false e =
            absurd (omega (
              arith,
              size-part n S R₂ (λ j l m. sym (or-false (R₂ j)) ∙ ap (λ (t : Bool). R₂ j || (t && R₁ j)) (sym e)
                  ∙ all_read j l m),
              size-member n d.signals,
              N.wired.2.0,
            ))

    size_a : size n S ≤ size n (bit A) + size n R₂
    size_a = omega (
      arith,
      size-sum n (bit A) (λ j. S j && R₂ j) S (λ j h.
          ap (λ (t : Bool). val t + val (S j && R₂ j)) (bit_a j h)
          ∙ go (S j) (R₁ j) (R₂ j) (λ e. ap (λ (t : Bool). R₂ j || (t && R₁ j)) (sym linked) ∙ all_read j h e)),
      size-part n (λ j. S j && R₂ j) R₂ (λ j h. and_right (S j) (R₂ j)),
    )
      where
        go : (t p q : Bool) → (t ≡ true → (q || p) ≡ true) → val (t && (p && not q)) + val (t && q) ≡ val t
        go true true true e = refl
        go true true false e = refl
        go true false true e = refl
        go true false false e = absurd (clash (e refl) refl)
        go false p q e = refl

    size_ab : size n (bit A) + size n (bit B) ≤ size n R₁
    size_ab = omega (
      arith,
      size-sum n (bit A) (bit B) (λ j. S j && R₁ j)
          (λ j h. ap₂ (λ (s t : Bool). val s + val t) (bit_a j h) (bit_b j h) ∙ go (S j) (R₁ j) (R₂ j)),
      size-part n (λ j. S j && R₁ j) R₁ (λ j h. and_right (S j) (R₁ j)),
    )
      where
        go : (t p q : Bool) → val (t && (p && not q)) + val (t && (p && q)) ≡ val (t && p)
        go true true true = refl
        go true true false = refl
        go true false q = refl
        go false p q = refl

    pub two_large : size n S + 1 ≤ K + size n (bit A)
    unfolding size
    two_large = omega (arith, size_a, size-member (suc n) d.signals, N.wired.2.0, ap val linked)

    pub two_candidate : Candidate n K 1 A B
    unfolding A B
    two_candidate = record {
      below_a = number_lt n own;
      below_b = number_lt n shared;
      apart = λ j l e. bit_a j l ∙ go (S j) (R₁ j) (R₂ j) (sym (bit_b j l) ∙ e);
      more = omega (arith, two_large);
      most = omega (arith, size_ab, size-member n c.signals, N.wired.0);
    }
      where
        go : (t p q : Bool) → (t && (p && q)) ≡ true → (t && (p && not q)) ≡ false
        go true true true e = refl
        go true true false e = cc
        go true false q e = refl
        go false p q e = refl
