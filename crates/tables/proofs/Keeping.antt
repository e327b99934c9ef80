-- The inputs that are kept are those that count, unless none does; the table sees them alone either way. Assumes
-- nothing.
use mathlib.Core.Path.{◌≡◌, refl, sym, ap, ◌∙◌, subst}
use mathlib.Core.Bool.{Bool, true, false, cond}
use Prim.Native.Nat.{ℕ, zero, suc, ◌^◌, ◌<◌, ◌≤◌, max}
use native.Mathlib.Omega.{arith}
use lib.Dec.{eqb, lit<}
use lib.Pow.{pow_mono}
use borrow.Author.Tests.{eqb-true, eqb-false, ne_eqb}
use Rattle.bits.specs.Numbers.{bit}
use Rattle.bits.specs.Sets.{size}
use Rattle.bits.proofs.Bools.{clash, false_of}
use Rattle.bits.proofs.Numbers.{number_lt, number_ext, number_bit, bit-zero, bit_high, none-zero}
use Rattle.bits.proofs.Sizes.{size_ext, size-lt}
use Rattle.bits.proofs.Counting.{size_none, size-one}
use Rattle.bits.proofs.Members.{size_full}
use Rattle.tables.specs.Counting.{AllCount, Sees, counts, support, kept}
use Rattle.tables.proofs.Depending.{support_sees, support_all, support_ext}

-- the mask 1 has input 0 alone, the mask 0 none, and any other some
one_bit : (j : ℕ) → bit 1 j ≡ eqb j 0
one_bit zero = refl
one_bit (suc j) = bit_high 1 1 (suc j) (lit< tt) (omega arith) ∙ sym (ne_eqb (suc j) 0 (omega arith))

no_bits : (n : ℕ) → size n (bit 0) ≡ 0
no_bits n = size_ext n (bit 0) (λ j. false) (λ j _. bit-zero j) ∙ size_none n

some_bits : (n m : ℕ) → m < 2 ^ n → (m ≡ 0 → ⊥) → 1 ≤ size n (bit m)
some_bits n m l ne = go (size n (bit m)) refl
  where
    go : (k : ℕ) → size n (bit m) ≡ k → 1 ≤ k
    go zero e =
        absurd (ne (sym (number_bit n m l)
        ∙ number_ext n (bit m) (λ j. false) (λ j h. false_of (bit m j) (λ q. omega (arith, size-lt n (bit m) j h q)))
        ∙ none-zero n))
    go (suc k) e = omega arith

module _ (n : ℕ) (F : ℕ → Bool) where
  abbrev s : ℕ
  s = support n F

  pub kept_by : (t : Bool) → eqb s 0 ≡ t → kept n F ≡ cond t 1 s
  unfolding kept
  kept_by t e = ap (λ (b : Bool). cond b 1 s) e

  -- the larger of the mask and 1
  pub kept_larger : max s 1 ≡ kept n F
  kept_larger = go (eqb s 0) refl
    where
      go : (t : Bool) → eqb s 0 ≡ t → max s 1 ≡ kept n F
      go true e = omega (arith, kept_by true e, eqb-true s 0 e)
      go false e = omega (arith, kept_by false e, eqb-false s 0 e)

  -- by whether some input counts
  by : (P : ℕ → Type 0) → (s ≡ 0 → P 1) → (1 ≤ size n (bit s) → P s) → P (kept n F)
  unfolding support
  by P none some = go (eqb s 0) refl
    where
      go : (t : Bool) → eqb s 0 ≡ t → P (kept n F)
      go true e = subst P (sym (kept_by true e)) (none (eqb-true s 0 e))
      go false e = subst P (sym (kept_by false e)) (some (some_bits n s (number_lt n (counts n F)) (eqb-false s 0 e)))

  pub kept_sees : Sees n F (bit (kept n F))
  kept_sees = by (λ m. Sees n F (bit m)) (λ e x y p q _. support_sees n F x y p q
      (λ j l on. absurd (clash on (ap (λ (m : ℕ). bit m j) e ∙ bit-zero j))))
      (λ _. support_sees n F)

  pub kept-lt : 1 ≤ n → kept n F < 2 ^ n
  unfolding support
  kept-lt h = by (λ m. m < 2 ^ n) (λ _. omega (arith, pow_mono {i = 1} {j = n} h)) (λ _. number_lt n (counts n F))

  -- one is kept at least
  pub kept_some : 1 ≤ n → 1 ≤ size n (bit (kept n F))
  kept_some h = by (λ m. 1 ≤ size n (bit m)) (λ _. omega (arith, size-lt n (bit 1) 0 h refl)) (λ g. g)

  pub kept_most : size n (bit (kept n F)) ≤ max 1 (size n (bit s))
  kept_most = by (λ m. size n (bit m) ≤ max 1 (size n (bit s))) (λ _. one) (λ _. omega arith)
    where
      one : size n (bit 1) ≤ max 1 (size n (bit s))
      one = omega (arith, size_ext n (bit 1) (λ j. eqb j 0) (λ j _. one_bit j), size-one n 0)

  -- where some input counts, those that are kept are those that count
  pub some_kept : 1 ≤ size n (bit s) → kept n F ≡ s
  some_kept h = by (λ m. m ≡ s) (λ e. absurd (omega (arith, ap (λ (m : ℕ). size n (bit m)) e, no_bits n))) (λ _. refl)

  pub two-kept : 2 ≤ size n (bit (kept n F)) → kept n F ≡ s
  two-kept h = some_kept (omega (arith, kept_most))

  -- where none does, input 0
  pub none_kept : size n (bit s) ≡ 0 → kept n F ≡ 1
  none_kept h = by (λ m. m ≡ 1) (λ _. refl) (λ g. absurd (omega arith))

  -- where all count, as many as there are
  pub all_counting : AllCount n F → size n (bit s) ≡ n
  all_counting all = size_full n (bit s) (λ j l. support_all n F j l (all j l))

  pub all_kept : AllCount n F → (j : ℕ) → j < n → bit (kept n F) j ≡ true
  all_kept all j l = let m = support_all n F j l (all j l)
      in ap (λ (k : ℕ). bit k j) (some_kept (omega (arith, size-lt n (bit s) j l m))) ∙ m

pub kept_ext : (n : ℕ) (F G : ℕ → Bool) → ((x : ℕ) → x < 2 ^ n → F x ≡ G x) → kept n F ≡ kept n G
unfolding kept
kept_ext n F G same = ap (λ (s : ℕ). cond (eqb s 0) 1 s) (support_ext n F G same)
