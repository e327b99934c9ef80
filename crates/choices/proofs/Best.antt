-- The best over r, alone and over the inputs that count: both are the first over r of what works. Assumes nothing.
use mathlib.Core.Path.{◌≡◌, refl, ap, fun_ext}
use mathlib.Core.Logic.{◌↔◌}
use mathlib.Core.Bool.{Bool}
use Prim.Native.Nat.{ℕ, ◌^◌, ◌<◌}
use Rattle.bits.specs.Numbers.{bit}
use Rattle.tables.specs.Counting.{Counting}
use Rattle.splits.specs.Split.{reads_d, Possible}
use Rattle.best.specs.Best.{Candidate, Best}
use Rattle.best.specs.Search.{Answer, none, split, best}
use Rattle.best.specs.Counting.{best_counting}
use Rattle.best.proofs.Best.{best_split, best_none, best_ext}
use Rattle.best.proofs.Counting.{counting_none, counting_split, counting_answer}
use Rattle.choices.specs.Best.{Splits, Works, BestUpTo, BestOver}
use Rattle.choices.specs.Search.{nothing, choice, first_over, best_up_to, best_over}
use Rattle.choices.proofs.First.{Says, Up, first_unique, first_best, first-none, first_own}

-- ---- alone
module _ (n K : ℕ) (F : ℕ → Bool) where
  abbrev Right : ℕ → ℕ → ℕ → Type 0
  Right r A B = Candidate n K r A B × Possible n F (bit A) (bit B) r

  up : Up (λ m. Splits n K m F) Right
  up = record {
    some = λ k. k.some;
    most = λ k. k.most;
    right = λ k. (k.candidate, k.possible);
    work = λ p q k. record { some = p; most = q; candidate = k.0; possible = k.1 };
  }

  says : (r : ℕ) → Says n Right r (best n r F K)
  says r = go (best n r F K) refl
    where
      go : (a : Answer) → best n r F K ≡ a → Says n Right r a
      go none e = λ A B k. best_none n r F K e A B k.0 k.1
      go (split A B) e = let b = best_split n r F K A B e
          in ((b.candidate, b.possible), λ A' B' k. b.ahead A' B' k.0 k.1)

  -- the answer is the best with up to m first cells, and that is the answer
  pub upto_best : (m r A B : ℕ) → (best_up_to n F K m ≡ choice r A B) ↔ BestUpTo n K m F r A B
  upto_best = first_best n (λ m. Splits n K m F) Right up (λ r. best n r F K) says

  -- there is none exactly where none is possible, for any r
  pub upto_none : (m : ℕ) → (best_up_to n F K m ≡ nothing) ↔ ((r A B : ℕ) → Splits n K m F r A B → ⊥)
  upto_none = first-none n (λ m. Splits n K m F) Right up (λ r. best n r F K) says

  -- it is the best of its own r
  pub upto_own : (m r A B : ℕ) → BestUpTo n K m F r A B → Best n K r F A B
  upto_own m r A B b = record {
    candidate = b.works.candidate;
    possible = b.works.possible;
    ahead = λ A' B' k P. first_own n (λ m. Splits n K m F) Right up (λ r. best n r F K) says m r A B b A' B' (k, P);
  }

-- it asks for the bits at the assignments alone
pub upto_ext : (n K m : ℕ) (F G : ℕ → Bool) → ((x : ℕ) → x < 2 ^ n → F x ≡ G x) → best_up_to n F K m ≡ best_up_to n G K m
upto_ext n K m F G same = ap (λ (f : ℕ → Answer). first_over n f m) (fun_ext (λ r. best_ext n r K F G same))

-- ---- over the inputs that count
module _ (n K : ℕ) (F : ℕ → Bool) where
  abbrev Counted : ℕ → ℕ → ℕ → Type 0
  Counted r A B = Candidate n K r A B × Counting n F (reads_d (bit A) (bit B)) × Possible n F (bit A) (bit B) r

  up_counted : Up (λ m. Works n K m F) Counted
  up_counted = record {
    some = λ k. k.some;
    most = λ k. k.most;
    right = λ k. (k.candidate, k.counting, k.possible);
    work = λ p q k. record { some = p; most = q; candidate = k.0; counting = k.1; possible = k.2 };
  }

  says_counted : (r : ℕ) → Says n Counted r (best_counting n r F K)
  says_counted r = go (best_counting n r F K) refl
    where
      go : (a : Answer) → best_counting n r F K ≡ a → Says n Counted r a
      go none e = λ A B k. counting_none n r F K e A B k.0 k.1 k.2
      go (split A B) e =
          let b = counting_split n r F K A B e in
          ((b.candidate, b.counting, b.possible), λ A' B' k. b.ahead A' B' k.0 k.1 k.2)

  -- the answer is the best over r, and the best over r is the answer
  pub over_best : (m r A B : ℕ) → (best_over n F K m ≡ choice r A B) ↔ BestOver n K m F r A B
  over_best = first_best n (λ m. Works n K m F) Counted up_counted (λ r. best_counting n r F K) says_counted

  -- there is none exactly where nothing works, for any r
  pub over_none : (m : ℕ) → (best_over n F K m ≡ nothing) ↔ ((r A B : ℕ) → Works n K m F r A B → ⊥)
  over_none = first-none n (λ m. Works n K m F) Counted up_counted (λ r. best_counting n r F K) says_counted

  -- only one is best
  pub over_unique : (m r A B r' A' B' : ℕ) → BestOver n K m F r A B → BestOver n K m F r' A' B' → (r ≡ r') × (A ≡ A')
      × (B ≡ B')
  over_unique m = first_unique n (Works n K m F)

  -- the best over r is the best of its own r
  pub over_own : (m r A B : ℕ) → BestOver n K m F r A B → best_counting n r F K ≡ split A B
  over_own m r A B b = counting_answer n r F K A B (record {
    candidate = b.works.candidate;
    counting = b.works.counting;
    possible = b.works.possible;
    ahead = λ A' B' k z P.
        first_own n (λ m. Works n K m F) Counted up_counted (λ r. best_counting n r F K) says_counted m r A B b A' B'
        (k, z, P);
  })
