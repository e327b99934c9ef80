-- The ways in which a reading goes. Assumes nothing.
use mathlib.Core.Path.{◌≡◌, refl}
use mathlib.Core.Bool.{Bool, true, false, cond}
use Prim.Native.Nat.{ℕ, zero, suc}
use lib.Dec.{eqb}
use borrow.Author.Tests.{eq-eqb, ne_eqb, eqb-true, eqb-false}
use Rattle.values.specs.Formula.{Formula, letter, constant, negated, joined}
use Rattle.formulas.specs.Text.{mark}
use Rattle.formulas.specs.Reading.{Kind, bang, opening, digit, input, other, kind, Reading, up_to, stuck, after}
use Rattle.formulas.specs.Reading.{deeper, closed, begun, continued, reader}

-- `Run c n m k d p g`: the reading from p gives g, step by step
pub data Run (c : ℕ → ℕ) (n : ℕ) : ℕ → ℕ → ℕ → ℕ → Reading → Type 0 where
  r_tired : {k d p : ℕ} → Run c n zero k d p (stuck p)
  r_other : {m d p : ℕ} → kind n (c p) ≡ other → Run c n (suc m) 0 d p (stuck p)
  r_digit : {m d p : ℕ} (t : Bool) → kind n (c p) ≡ digit t → Run c n (suc m) 0 d p (up_to (constant t) (suc p))
  r_input : {m d p : ℕ} (j : ℕ) → kind n (c p) ≡ input j → Run c n (suc m) 0 d p (up_to (letter j) (suc p))
  r_deep_not : {m p : ℕ} → kind n (c p) ≡ bang → Run c n (suc m) 0 zero p (stuck p)
  r_deep_open : {m p : ℕ} → kind n (c p) ≡ opening → Run c n (suc m) 0 zero p (stuck p)
  r_not-bad : {m d p q : ℕ} → kind n (c p) ≡ bang → Run c n m 0 d (suc p) (stuck q)
      → Run c n (suc m) 0 (suc d) p (stuck q)
  r_not : {m d p q : ℕ} {F : Formula} → kind n (c p) ≡ bang → Run c n m 0 d (suc p) (up_to F q)
      → Run c n (suc m) 0 (suc d) p (up_to (negated F) q)
  r_open_bad : {m d p q : ℕ} → kind n (c p) ≡ opening → Run c n m 3 d (suc p) (stuck q)
      → Run c n (suc m) 0 (suc d) p (stuck q)
  r_open_left : {m d p q : ℕ} (F : Formula) → kind n (c p) ≡ opening → Run c n m 3 d (suc p) (up_to F q) → (c q ≡ 41 → ⊥)
      → Run c n (suc m) 0 (suc d) p (stuck q)
  r_open : {m d p q : ℕ} {F : Formula} → kind n (c p) ≡ opening → Run c n m 3 d (suc p) (up_to F q) → c q ≡ 41
      → Run c n (suc m) 0 (suc d) p (up_to F (suc q))
  r_first-bad : {m k d p q : ℕ} → Run c n m k d p (stuck q) → Run c n (suc m) (suc k) d p (stuck q)
  r_last : {m k d p q : ℕ} {F : Formula} → Run c n m k d p (up_to F q) → (c q ≡ mark k → ⊥)
      → Run c n (suc m) (suc k) d p (up_to F q)
  r_next-bad : {m k d p q r : ℕ} (F : Formula) → Run c n m k d p (up_to F q) → c q ≡ mark k
      → Run c n m (suc k) d (suc q) (stuck r) → Run c n (suc m) (suc k) d p (stuck r)
  r_next : {m k d p q r : ℕ} {F G : Formula} → Run c n m k d p (up_to F q) → c q ≡ mark k
      → Run c n m (suc k) d (suc q) (up_to G r)
      → Run c n (suc m) (suc k) d p (up_to (joined k F G) r)

module _ (c : ℕ → ℕ) (n : ℕ) where
  -- each step of the reader is one of them
  join-run : (m k d p : ℕ) (g : Reading) → Run c n m k d p g
      → ((r : ℕ) → Run c n m (suc k) d r (reader c n m (suc k) d r))
      → Run c n (suc m) (suc k) d p (after g (λ F q. continued k (eqb (c q) (mark k)) F q
      (λ r. reader c n m (suc k) d r)))
  join-run m k d p (stuck q) h f = r_first-bad h
  join-run m k d p (up_to F q) h f = go (eqb (c q) (mark k)) refl
    where
      then : c q ≡ mark k → (g : Reading) → Run c n m (suc k) d (suc q) g
          → Run c n (suc m) (suc k) d p (after g (λ G r. up_to (joined k F G) r))
      then e (up_to G r) i = r_next h e i
      then e (stuck r) i = r_next-bad F h e i

      go : (t : Bool) → eqb (c q) (mark k) ≡ t → Run c n (suc m) (suc k) d p
          (continued k t F q (λ r. reader c n m (suc k) d r))
      go true e = then (eqb-true (c q) (mark k) e) (reader c n m (suc k) d (suc q)) (f (suc q))
      go false e = r_last h (eqb-false (c q) (mark k) e)

  not-run : (m d p : ℕ) → kind n (c p) ≡ bang → ((e : ℕ) → Run c n m 0 e (suc p) (reader c n m 0 e (suc p)))
      → Run c n (suc m) 0 d p (deeper d p (λ e. after (reader c n m 0 e (suc p)) (λ F q. up_to (negated F) q)))
  not-run m zero p h f = r_deep_not h
  not-run m (suc d) p h f = go (reader c n m 0 d (suc p)) (f d)
    where
      go : (g : Reading) → Run c n m 0 d (suc p) g → Run c n (suc m) 0 (suc d) p (after g (λ F q. up_to (negated F) q))
      go (up_to F q) i = r_not h i
      go (stuck q) i = r_not-bad h i

  open_run : (m d p : ℕ) → kind n (c p) ≡ opening → ((e : ℕ) → Run c n m 3 e (suc p) (reader c n m 3 e (suc p)))
      → Run c n (suc m) 0 d p (deeper d p (λ e. after (reader c n m 3 e (suc p)) (closed c)))
  open_run m zero p h f = r_deep_open h
  open_run m (suc d) p h f = go (reader c n m 3 d (suc p)) (f d)
    where
      end : (F : Formula) (q : ℕ) → Run c n m 3 d (suc p) (up_to F q) → (t : Bool) → eqb (c q) 41 ≡ t
          → Run c n (suc m) 0 (suc d) p (cond t (up_to F (suc q)) (stuck q))
      end F q i true e = r_open h i (eqb-true (c q) 41 e)
      end F q i false e = r_open_left F h i (eqb-false (c q) 41 e)

      go : (g : Reading) → Run c n m 3 d (suc p) g → Run c n (suc m) 0 (suc d) p (after g (closed c))
      go (up_to F q) i = end F q i (eqb (c q) 41) refl
      go (stuck q) i = r_open_bad h i

  factor-run : (m d p : ℕ) → (t : Kind) → kind n (c p) ≡ t
      → ((e : ℕ) → Run c n m 0 e (suc p) (reader c n m 0 e (suc p)))
      → ((e : ℕ) → Run c n m 3 e (suc p) (reader c n m 3 e (suc p)))
      → Run c n (suc m) 0 d p (begun t d p (λ e. reader c n m 0 e (suc p)) (λ e. reader c n m 3 e (suc p)) c)
  factor-run m d p bang h f g = not-run m d p h f
  factor-run m d p opening h f g = open_run m d p h g
  factor-run m d p (digit t) h f g = r_digit t h
  factor-run m d p (input j) h f g = r_input j h
  factor-run m d p other h f g = r_other h

  pub run : (m k d p : ℕ) → Run c n m k d p (reader c n m k d p)
  unfolding reader
  run zero k d p = r_tired
  run (suc m) zero d p = factor-run m d p (kind n (c p)) refl (λ e. run m 0 e (suc p)) (λ e. run m 3 e (suc p))
  run (suc m) (suc k) d p = join-run m k d p (reader c n m k d p) (run m k d p) (λ r. run m (suc k) d r)

  -- and what goes step by step is the reader's
  pub runs : {m k d p : ℕ} {g : Reading} → Run c n m k d p g → reader c n m k d p ≡ g
  unfolding reader
  runs r_tired = refl
  runs (r_other h) = rw (h, begun)
  runs (r_digit t h) = rw h
  runs (r_input j h) = rw h
  runs (r_deep_not h) = rw h
  runs (r_deep_open h) = rw h
  runs (r_not-bad h i) = rw (h, runs i)
  runs (r_not h i) = rw (h, runs i)
  runs (r_open_bad h i) = rw (h, runs i)
  runs (r_open_left F h i l) = rw (h, runs i, ne_eqb _ _ l)
  runs (r_open h i l) = rw (h, runs i, eq-eqb _ _ l)
  runs (r_first-bad i) = rw (runs i)
  runs (r_last i l) = rw (runs i, ne_eqb _ _ l)
  runs (r_next-bad F i l j) = rw (runs i, eq-eqb _ _ l, runs j)
  runs (r_next i l j) = rw (runs i, eq-eqb _ _ l, runs j)
