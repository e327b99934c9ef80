-- The numbers of columns: those of b are numbered in order of first appearance over a. Assumes nothing.
use mathlib.Core.Path.{◌≡◌, refl, sym, ap, ◌∙◌}
use mathlib.Core.Bool.{Bool, true, false, cond, ◌||◌}
use mathlib.Core.List.{List, [], ◌∷◌, ◌++◌}
use Prim.Native.Nat.{ℕ, zero, suc, ◌+◌, ◌-◌, ◌^◌, ◌<◌}
use native.Mathlib.Nat.{zero-add, suc-add}
use native.Mathlib.Omega.{arith}
use lib.Dec.{eqb}
use lib.ListN.{length}
use borrow.Author.Tests.{eq-eqb}
use Rattle.bits.specs.Sets.{size}
use Rattle.bits.proofs.Bools.{clash, false_of}
use Rattle.splits.specs.Columns.{index, member, firsts, column, columns}
use Rattle.splits.specs.Pair.{code}
use Rattle.splits.proofs.Firsts.{firsts_has, firsts_from, firsts_new}

-- ---- the place of a member in a longer list, and of a new last one

index_old : (x : ℕ) (l m : List ℕ) → member x l ≡ true → index x (l ++ m) ≡ index x l
index_old x [] m e = absurd (clash e refl)
index_old x (y ∷ l) m e = go (eqb x y) e (index_old x l m)
  where
    go : (t : Bool) → (t || member x l) ≡ true → (member x l ≡ true → index x (l ++ m) ≡ index x l)
        → cond t 0 (suc (index x (l ++ m))) ≡ cond t 0 (suc (index x l))
    go true e ih = refl
    go false e ih = ap suc (ih e)

index_last : (x : ℕ) (l : List ℕ) → member x l ≡ false → index x (l ++ (x ∷ [])) ≡ length l
index_last x [] e = ap (λ (t : Bool). cond t 0 1) (eq-eqb x x refl)
index_last x (y ∷ l) e = go (eqb x y) e (index_last x l)
  where
    go : (t : Bool) → (t || member x l) ≡ false → (member x l ≡ false → index x (l ++ (x ∷ [])) ≡ length l)
        → cond t 0 (suc (index x (l ++ (x ∷ [])))) ≡ suc (length l)
    go true e ih = absurd (clash refl e)
    go false e ih = ap suc (ih e)

-- ---- of values in order of first appearance

module _ (f : ℕ → ℕ) (a : ℕ) where
  -- later values leave it its place
  stays : (n k : ℕ) → a < n → index (f a) (firsts f (k + n)) ≡ index (f a) (firsts f n)
  unfolding firsts
  stays n zero h = ap (λ (m : ℕ). index (f a) (firsts f m)) (zero-add n)
  stays n (suc k) h = ap (λ (m : ℕ). index (f a) (firsts f m)) (suc-add k n)
      ∙ go (member (f (k + n)) (firsts f (k + n))) ∙ stays n k h
    where
      go : (t : Bool) → index (f a) (cond t (firsts f (k + n)) (firsts f (k + n) ++ (f (k + n) ∷ [])))
          ≡ index (f a) (firsts f (k + n))
      go true = refl
      go false = index_old (f a) (firsts f (k + n)) (f (k + n) ∷ []) (firsts_has f (k + n) a (omega arith))

  -- a value that appears first at a comes after the different values before it
  appears : (n : ℕ) → a < n → ((j : ℕ) → j < a → f j ≡ f a → ⊥) → index (f a) (firsts f n) ≡ length (firsts f a)
  appears n h new =
      let e : (n - (a + 1)) + (a + 1) ≡ n = omega arith in
      sym (ap (λ (m : ℕ). index (f a) (firsts f m)) e) ∙ stays (a + 1) (n - (a + 1)) (omega arith)
      ∙ ap (index (f a)) (firsts_new f a fresh) ∙ index_last (f a) (firsts f a) fresh
    where
      fresh : member (f a) (firsts f a) ≡ false
      fresh = false_of (member (f a) (firsts f a)) (λ m. let w = firsts_from f a (f a) m in new w.0 w.1 w.2)

-- ---- of columns

module _ (n : ℕ) (F : ℕ → Bool) (A B : ℕ → Bool) (b a : ℕ) (h : a < 2 ^ size n A) where
  -- a column that appears first at a has as its number how many different ones come before it
  pub code_first : ((a' : ℕ) → a' < a → column n F A B b a' ≡ column n F A B b a → ⊥) → code n F A B b a
      ≡ length (firsts (column n F A B b) a)
  unfolding code columns
  code_first new = appears (column n F A B b) a (2 ^ size n A) h new

  -- and equal columns have one number
  pub code_same : (a' : ℕ) → column n F A B b a ≡ column n F A B b a' → code n F A B b a ≡ code n F A B b a'
  unfolding code
  code_same a' e = ap (λ (x : ℕ). index x (columns n F A B b)) e
