-- The first over r, of whatever works: each r's own best comes before all of that r, and of these the answer keeps the
-- one that comes first; it is nothing exactly where none of any r works. Assumes nothing.
use mathlib.Core.Path.{◌≡◌, refl, sym, subst}
use mathlib.Core.Logic.{◌↔◌, ⊎_elim}
use mathlib.Core.Bool.{Bool, true, false, cond}
use Prim.Native.Nat.{ℕ, zero, suc, ◌+◌, ◌<◌, ◌≤◌}
use native.Mathlib.Omega.{arith}
use lib.Dec.{ltb}
use borrow.Author.Tests.{ltb-true, ltb-false}
use Rattle.bits.specs.Numbers.{bit}
use Rattle.bits.specs.Sets.{size}
use Rattle.bits.proofs.Below.{below_suc}
use Rattle.best.specs.Best.{Ahead}
use Rattle.best.specs.Search.{Answer, none, split}
use Rattle.best.proofs.Order.{ahead_antisym}
use Rattle.choices.specs.Best.{AheadOver, FirstOf}
use Rattle.choices.specs.Search.{Choice, nothing, choice, better, first_over}

-- ---- the order

over_antisym : (n r A B r' A' B' : ℕ) → AheadOver n r A B r' A' B' → AheadOver n r' A' B' r A B → (r ≡ r') × (A ≡ A')
    × (B ≡ B')
over_antisym n r A B r' A' B' p q =
    let a : size n (bit A') + r ≡ size n (bit A) + r' = omega (arith, p.largest, q.largest) in
    let e : r ≡ r' = omega (arith, p.least a, q.least (sym a)) in
    let w = ahead_antisym n A B A' B' (p.in_order a (sym e)) (q.in_order (sym a) e) in
    (e, w.0, w.1)

-- what has the larger |A| - r comes before
pub smaller : (n : ℕ) {r A B r' A' B' : ℕ} → size n (bit A') + r < size n (bit A) + r' → AheadOver n r A B r' A' B'
smaller n h = record { largest = omega arith; least = λ e. absurd (omega arith); in_order = λ e q. absurd (omega arith) }

-- only one is first
pub first_unique : (n : ℕ) (Work : ℕ → ℕ → ℕ → Type 0) (r A B r' A' B' : ℕ) → FirstOf n Work r A B
    → FirstOf n Work r' A' B'
    → (r ≡ r') × (A ≡ A') × (B ≡ B')
first_unique n Work r A B r' A' B' p q = over_antisym n r A B r' A' B' (p.ahead r' A' B' q.works)
    (q.ahead r A B p.works)

-- what an answer of one r says of those that are right for it
abbrev pub Says : ℕ → (ℕ → ℕ → ℕ → Type 0) → ℕ → Answer → Type 0
Says n Right r none = (A B : ℕ) → Right r A B → ⊥
Says n Right r (split A B) = Right r A B × ((A' B' : ℕ) → Right r A' B' → Ahead n A B A' B')

-- what works with up to m first cells: what is right for one of these r
pub record Up (Work : ℕ → ℕ → ℕ → ℕ → Type 0) (Right : ℕ → ℕ → ℕ → Type 0) : Type 0 where
  pub some : {m r A B : ℕ} → Work m r A B → 1 ≤ r
  pub most : {m r A B : ℕ} → Work m r A B → r ≤ m
  pub right : {m r A B : ℕ} → Work m r A B → Right r A B
  pub work : {m r A B : ℕ} → 1 ≤ r → r ≤ m → Right r A B → Work m r A B

module _ (n : ℕ) (Work : ℕ → ℕ → ℕ → ℕ → Type 0) (Right : ℕ → ℕ → ℕ → Type 0) (up : Up Work Right) (f : ℕ → Answer)
    (says : (r : ℕ) → Says n Right r (f r)) where
  -- what an answer says, of the r up to m
  abbrev Tells : ℕ → Choice → Type 0
  Tells m nothing = (r A B : ℕ) → Work m r A B → ⊥
  Tells m (choice r A B) = FirstOf n (Work m) r A B

  -- what works with up to m + 1 first cells works with up to m, or with m + 1
  module _ (m : ℕ) where
    lift : {r A B : ℕ} → Work m r A B → Work (suc m) r A B
    lift k = up.work (up.some k) (omega (arith, up.most k)) (up.right k)

    by : (P : ℕ → ℕ → ℕ → Type 0) → ((r A B : ℕ) → Work m r A B → P r A B)
        → ((A B : ℕ) → Right (suc m) A B → P (suc m) A B)
        → (r A B : ℕ) → Work (suc m) r A B → P r A B
    by P old new r A B k =
        ⊎_elim (λ h. old r A B (up.work (up.some k) (omega arith) (up.right k)))
        (λ h. subst (λ (q : ℕ). P q A B) (sym h) (new A B (subst (λ (q : ℕ). Right q A B) h (up.right k))))
        (below_suc {j = r} {n = suc m} (omega (arith, up.most k)))

    own : {A B : ℕ} → Right (suc m) A B → Work (suc m) (suc m) A B
    own k = up.work (omega arith) (omega arith) k

    -- r's own best comes before all of its r
    same_r : {A B A' B' : ℕ} → Ahead n A B A' B' → AheadOver n (suc m) A B (suc m) A' B'
    same_r h = record { largest = omega (arith, h.largest_a); least = λ e. omega arith; in_order = λ e q. h }

    next : (c : Choice) (a : Answer) → Tells m c → Says n Right (suc m) a → Tells (suc m) (better n (suc m) c a)
    next nothing none t s = by (λ r A B. ⊥) t s
    next (choice r A B) none t s = record {
      works = lift t.works;
      ahead = by (AheadOver n r A B) t.ahead (λ A' B' k. absurd (s A' B' k));
    }
    next nothing (split A B) t s = record {
      works = own s.0;
      ahead = by (AheadOver n (suc m) A B) (λ r' A' B' k. absurd (t r' A' B' k)) (λ A' B' k. same_r (s.1 A' B' k));
    }
    next (choice r C D) (split A B) t s = go (ltb (size n (bit C) + suc m) (size n (bit A) + r)) refl
      where
        go : (u : Bool) → ltb (size n (bit C) + suc m) (size n (bit A) + r) ≡ u
            → Tells (suc m) (cond u (choice (suc m) A B) (choice r C D))
        go true e =
            let l : size n (bit C) + suc m < size n (bit A)
            + r = ltb-true (size n (bit C) + suc m) (size n (bit A) + r) e in
            record {
              works = own s.0;
              ahead = by (AheadOver n (suc m) A B)
                  (λ r' A' B' k. smaller n (omega (arith, (t.ahead r' A' B' k).largest)))
                  (λ A' B' k. same_r (s.1 A' B' k));
            }
        go false e =
            let l : size n (bit A) + r ≤ size n (bit C) + suc m = ltb-false (size n (bit C) + suc m)
            (size n (bit A) + r) e in
            record {
              works = lift t.works;
              ahead = by (AheadOver n r C D) t.ahead (λ A' B' k. record {
                largest = omega (arith, (s.1 A' B' k).largest_a);
                least = λ q. omega (arith, up.most t.works);
                in_order = λ q h. absurd (omega (arith, up.most t.works));
              });
            }

  tells : (m : ℕ) → Tells m (first_over n f m)
  unfolding first_over
  tells zero = λ r A B k. omega (arith, up.some k, up.most k)
  tells (suc m) = next m (first_over n f m) (f (suc m)) (tells m) (says (suc m))

  -- the answer is the first, and the first is the answer
  pub first_best : (m r A B : ℕ) → (first_over n f m ≡ choice r A B) ↔ FirstOf n (Work m) r A B
  first_best m r A B = (λ e. subst (Tells m) e (tells m), λ b. go (first_over n f m) (tells m) b)
    where
      go : (c : Choice) → Tells m c → FirstOf n (Work m) r A B → c ≡ choice r A B
      go nothing t b = absurd (t r A B b.works)
      go (choice r' A' B') t b = let w = first_unique n (Work m) r' A' B' r A B t b in let x = w.0 in let y = w.1
          in let z = w.2 in cc

  -- there is none exactly where nothing works, for any r
  pub first-none : (m : ℕ) → (first_over n f m ≡ nothing) ↔ ((r A B : ℕ) → Work m r A B → ⊥)
  first-none m = (λ e. subst (Tells m) e (tells m), λ never. go (first_over n f m) (tells m) never)
    where
      go : (c : Choice) → Tells m c → ((r A B : ℕ) → Work m r A B → ⊥) → c ≡ nothing
      go nothing t never = refl
      go (choice r A B) t never = absurd (never r A B t.works)

  -- the first comes before all of its own r
  pub first_own : (m r A B : ℕ) → FirstOf n (Work m) r A B → (A' B' : ℕ) → Right r A' B' → Ahead n A B A' B'
  first_own m r A B b A' B' k = record {
    largest_a = omega (arith, o.largest);
    smallest_b = λ a. (same a).smallest_b a;
    least_a = λ a. (same a).least_a a;
    least_b = λ a. (same a).least_b a;
  }
    where
      o : AheadOver n r A B r A' B'
      o = b.ahead r A' B' (up.work (up.some b.works) (up.most b.works) k)

      same : size n (bit A') ≡ size n (bit A) → Ahead n A B A' B'
      same a = o.in_order (omega arith) refl
