-- The inputs that count: the test agrees with `DependsOn`, and a table sees those inputs alone, since the others can be
-- changed one by one. Assumes nothing.
use mathlib.Core.Path.{◌≡◌, refl, sym, ap, ap₂, ◌∙◌}
use mathlib.Core.Logic.{◌⊎◌, inl, inr}
use mathlib.Core.Bool.{Bool, true, false, cond, not, ◌||◌, or-true, or-false, beq}
use Prim.Native.Nat.{ℕ, zero, suc, ◌+◌, ◌^◌, ◌<◌, ◌≤◌}
use native.Mathlib.Decide.{dec_lt}
use native.Mathlib.Omega.{arith}
use lib.Dec.{eqb, ltb}
use borrow.Author.Tests.{ne_eqb, eqb-true, eqb-false, lt-ltb, le-ltb, not-true, not-false}
use Rattle.bits.specs.Numbers.{bit, number}
use Rattle.bits.specs.Below.{every}
use Rattle.bits.proofs.Bools.{clash, beq_same, same-beq}
use Rattle.bits.proofs.Below.{every_at, every_all, every_ext}
use Rattle.bits.proofs.Numbers.{number_lt, number_ext, bit-number}
use Rattle.bits.proofs.Members.{same_bits}
use Rattle.bits.proofs.Single.{plus_bit, plus_lt}
use Rattle.tables.specs.Depends.{DependsOn}
use Rattle.tables.specs.Counting.{Counting, AllCount, AlikeBut, Ignores, Sees, counts, support}
use Rattle.tables.specs.Words.{Steady}

-- a test that does not hold everywhere fails somewhere
every_fails : (n : ℕ) (p : ℕ → Bool) → every n p ≡ false → (j : ℕ) × (j < n) × (p j ≡ false)
every_fails zero p e = absurd (clash refl e)
every_fails (suc n) p e = go (p n) refl e (every_fails n p)
  where
    go : (t : Bool) → p n ≡ t → cond t (every n p) false ≡ false
        → (every n p ≡ false → (j : ℕ) × (j < n) × (p j ≡ false))
        → (j : ℕ) × (j < suc n) × (p j ≡ false)
    go true q e ih = let w = ih e in (w.0, omega arith, w.2)
    go false q e ih = (n, omega arith, q)

-- ---- one input
module _ (n : ℕ) (F : ℕ → Bool) (j : ℕ) (l : j < n) where
  test : ℕ → Bool
  test x = bit x j || beq (F x) (F (x + 2 ^ j))

  -- where the bit changes as input j is set, the table depends on it
  set_depends : (x : ℕ) → x < 2 ^ n → bit x j ≡ false → (F x ≡ F (x + 2 ^ j) → ⊥) → DependsOn n F j
  set_depends x h off differ = record {
    x = x;
    y = x + 2 ^ j;
    below_x = h;
    below_y = plus_lt n x j h l off;
    alike = λ i g ne. sym (plus_bit n x j h l off i g ∙ ap (λ (t : Bool). bit x i || t) (ne_eqb i j ne)
        ∙ or-false (bit x i));
    differ = differ;
  }

  -- where it never does, the table ignores the input
  unset_ignores : ((x : ℕ) → Steady n F j x) → Ignores n F j
  unset_ignores alike x y p q but = go (bit x j) (bit y j) refl refl
    where
      same : bit x j ≡ bit y j → F x ≡ F y
      same e = ap F (same_bits n x y p q (λ i g. at i g (eqb i j) refl))
        where
          at : (i : ℕ) → i < n → (t : Bool) → eqb i j ≡ t → bit x i ≡ bit y i
          at i g true r = ap (bit x) (eqb-true i j r) ∙ e ∙ ap (bit y) (sym (eqb-true i j r))
          at i g false r = but i g (eqb-false i j r)

      -- y is x with input j set
      up : (x y : ℕ) → x < 2 ^ n → y < 2 ^ n → AlikeBut n j x y → bit x j ≡ false → bit y j ≡ true → F x ≡ F y
      up x y p q but off on =
          alike x p off ∙ ap F (same_bits n (x + 2 ^ j) y (plus_lt n x j p l off) q
          (λ i g. plus_bit n x j p l off i g ∙ at i g (eqb i j) refl))
        where
          at : (i : ℕ) → i < n → (t : Bool) → eqb i j ≡ t → (bit x i || t) ≡ bit y i
          at i g true r = or-true (bit x i) ∙ sym (ap (bit y) (eqb-true i j r) ∙ on)
          at i g false r = or-false (bit x i) ∙ but i g (eqb-false i j r)

      go : (s t : Bool) → bit x j ≡ s → bit y j ≡ t → F x ≡ F y
      go true true a b = same (a ∙ sym b)
      go false false a b = same (a ∙ sym b)
      go false true a b = up x y p q but a b
      go true false a b = sym (up y x q p (λ i g ne. sym (but i g ne)) b a)

  -- the test says which
  pub counts_depends : counts n F j ≡ true → DependsOn n F j
  unfolding counts test
  counts_depends e = go (every_fails (2 ^ n) test (not-true (every (2 ^ n) test) e))
    where
      go : (x : ℕ) × (x < 2 ^ n) × (test x ≡ false) → DependsOn n F j
      go w = from (bit w.0 j) refl w.2
        where
          from : (t : Bool) → bit w.0 j ≡ t → (t || beq (F w.0) (F (w.0 + 2 ^ j))) ≡ false → DependsOn n F j
          from true q e = absurd (clash refl e)
          from false q e = set_depends w.0 w.1 q (λ same. clash (same-beq (F w.0) (F (w.0 + 2 ^ j)) same) e)

  pub idle_steady : counts n F j ≡ false → (x : ℕ) → Steady n F j x
  unfolding counts test
  idle_steady e x h off =
      beq_same (F x) (F (x + 2 ^ j)) (ap (λ (t : Bool). t || beq (F x) (F (x + 2 ^ j))) (sym off)
      ∙ every_at (2 ^ n) test (not-false (every (2 ^ n) test) e) x h)

  pub idle_ignores : counts n F j ≡ false → Ignores n F j
  idle_ignores e = unset_ignores (idle_steady e)

  -- so by whether a bit changes as the input is set
  pub steady_idle : ((x : ℕ) → Steady n F j x) → counts n F j ≡ false
  unfolding counts test
  steady_idle steady = ap not (every_all (2 ^ n) test (λ x h. go x h (bit x j) refl))
    where
      go : (x : ℕ) → x < 2 ^ n → (t : Bool) → bit x j ≡ t → (t || beq (F x) (F (x + 2 ^ j))) ≡ true
      go x h true e = refl
      go x h false e = same-beq (F x) (F (x + 2 ^ j)) (steady x h e)

  pub depends_or : DependsOn n F j ⊎ Ignores n F j
  depends_or = go (counts n F j) refl
    where
      go : (t : Bool) → counts n F j ≡ t → DependsOn n F j ⊎ Ignores n F j
      go true e = inl (counts_depends e)
      go false e = inr (idle_ignores e)

  pub depends_counts : DependsOn n F j → counts n F j ≡ true
  depends_counts d = go (counts n F j) refl
    where
      go : (t : Bool) → counts n F j ≡ t → t ≡ true
      go true e = refl
      go false e = absurd (d.differ (idle_ignores e d.x d.y d.below_x d.below_y d.alike))

-- ---- all inputs
module _ (n : ℕ) (F : ℕ → Bool) where
  pub sees_counts : Sees n F (counts n F)
  sees_counts x y p q agree = upto n (omega arith)
      ∙ ap F (same_bits n (mixed n) y (number_lt n (mix n)) q (λ i l. at n i l ∙ low n i l))
    where
      -- y's bits below m, and x's from m up
      mix : ℕ → ℕ → Bool
      mix m i = cond (ltb i m) (bit y i) (bit x i)

      mixed : ℕ → ℕ
      mixed m = number n (mix m)

      at : (m i : ℕ) → i < n → bit (mixed m) i ≡ mix m i
      at m i l = bit-number n (mix m) i l

      low : (m i : ℕ) → i < m → mix m i ≡ bit y i
      low m i h = ap (λ (t : Bool). cond t (bit y i) (bit x i)) (lt-ltb i m h)

      high : (m i : ℕ) → m ≤ i → mix m i ≡ bit x i
      high m i h = ap (λ (t : Bool). cond t (bit y i) (bit x i)) (le-ltb i m h)

      step : (m : ℕ) → m < n → F (mixed m) ≡ F (mixed (suc m))
      step m h = go (counts n F m) refl
        where
          other : AlikeBut n m (mixed m) (mixed (suc m))
          other i l ne = at m i l ∙ elim (dec_lt i m) [
            | yes g ↦ low m i g ∙ sym (low (suc m) i (omega arith))
            | no g ↦ high m i (omega arith) ∙ sym (high (suc m) i (omega arith))
          ] ∙ sym (at (suc m) i l)

          go : (t : Bool) → counts n F m ≡ t → F (mixed m) ≡ F (mixed (suc m))
          go false c = idle_ignores n F m h c (mixed m) (mixed (suc m)) (number_lt n (mix m))
              (number_lt n (mix (suc m))) other
          go true c = ap F (same_bits n (mixed m) (mixed (suc m)) (number_lt n (mix m)) (number_lt n (mix (suc m)))
              (λ i l. both i l (eqb i m) refl))
            where
              both : (i : ℕ) → i < n → (t : Bool) → eqb i m ≡ t → bit (mixed m) i ≡ bit (mixed (suc m)) i
              both i l true r =
                  let e = eqb-true i m r in
                  ap (bit (mixed m)) e ∙ at m m h ∙ high m m (omega arith) ∙ agree m h c
                  ∙ sym (ap (bit (mixed (suc m))) e ∙ at (suc m) m h ∙ low (suc m) m (omega arith))
              both i l false r = other i l (eqb-false i m r)

      upto : (m : ℕ) → m ≤ n → F x ≡ F (mixed m)
      upto zero h = ap F (same_bits n x (mixed 0) p (number_lt n (mix 0))
          (λ i l. sym (at 0 i l ∙ high 0 i (omega arith))))
      upto (suc m) h = upto m (omega arith) ∙ step m (omega arith)

  support-bit : (j : ℕ) → j < n → bit (support n F) j ≡ counts n F j
  unfolding support
  support-bit j h = bit-number n (counts n F) j h

  -- the table sees the inputs that count, and no other
  pub support_sees : Sees n F (bit (support n F))
  support_sees x y p q agree = sees_counts x y p q (λ j l e. agree j l (support-bit j l ∙ e))

  -- they are those that it depends on
  pub support_counting : Counting n F (bit (support n F))
  support_counting j l e = counts_depends n F j l (sym (support-bit j l) ∙ e)

  pub support_all : (j : ℕ) → j < n → DependsOn n F j → bit (support n F) j ≡ true
  support_all j l d = support-bit j l ∙ depends_counts n F j l d

-- ---- tables that agree at every assignment

pub count_ext : (n : ℕ) (F G : ℕ → Bool) → ((x : ℕ) → x < 2 ^ n → F x ≡ G x) → AllCount n F → AllCount n G
count_ext n F G same all j l = let p = all j l in record {
  x = p.x;
  y = p.y;
  below_x = p.below_x;
  below_y = p.below_y;
  alike = p.alike;
  differ = λ q. p.differ (same p.x p.below_x ∙ q ∙ sym (same p.y p.below_y));
}

pub support_ext : (n : ℕ) (F G : ℕ → Bool) → ((x : ℕ) → x < 2 ^ n → F x ≡ G x) → support n F ≡ support n G
unfolding support counts
support_ext n F G same = number_ext n (counts n F) (counts n G)
    (λ j l. ap not (every_ext (2 ^ n) (at F j) (at G j) (λ x h. go j l x h (bit x j) refl)))
  where
    at : (ℕ → Bool) → ℕ → ℕ → Bool
    at F j x = bit x j || beq (F x) (F (x + 2 ^ j))

    go : (j : ℕ) → j < n → (x : ℕ) → x < 2 ^ n → (t : Bool) → bit x j ≡ t → (t || beq (F x) (F (x + 2 ^ j)))
        ≡ (t || beq (G x) (G (x + 2 ^ j)))
    go j l x h true e = refl
    go j l x h false e = ap₂ beq (same x h) (same (x + 2 ^ j) (plus_lt n x j h l e))
