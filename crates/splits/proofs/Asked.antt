-- What H of a possible split depends on, for any number r of first cells: on each free input that F depends on, since D
-- does not see it; and a shared input that H ignores can be own. With one first cell, on D's output, where F depends on
-- an own input. Assumes nothing.
use mathlib.Core.Path.{◌≡◌, refl, sym, ap, ap₂, ◌∙◌}
use mathlib.Core.Bool.{Bool, true, false, not, ◌&&◌, ◌||◌, and-true, and-false}
use Prim.Native.Nat.{ℕ, ◌+◌, ◌-◌, ◌*◌, ◌/◌, ◌^◌, ◌<◌}
use native.Mathlib.Nat.{add_comm, suc-mul, mul_comm, mul-le-mul_right}
use native.Mathlib.Decide.{dec_lt}
use native.Mathlib.Omega.{arith}
use lib.Dec.{eqb}
use lib.Pow.{pow-add, high}
use borrow.Author.Tests.{ne_eqb}
use Rattle.bits.specs.Numbers.{bit, number}
use Rattle.bits.specs.Sets.{Apart, Agree, size, gather}
use Rattle.bits.proofs.Bools.{clash}
use Rattle.bits.proofs.Numbers.{bit_below, bit-shr, bit-number, number_bit}
use Rattle.bits.proofs.Spreading.{gather-lt, gather_ext}
use Rattle.bits.proofs.Members.{Place, place, gather-place}
use Rattle.tables.specs.Depends.{DependsOn}
use Rattle.tables.specs.Counting.{AlikeBut, Ignores}
use Rattle.splits.specs.Split.{reads_d, reads_h, input_h, Possible}
use Rattle.splits.specs.Pair.{code_at, bit_h}
use Rattle.splits.proofs.Few.{column_there, code_at_gather, pair_gives}
use Rattle.splits.proofs.Possible.{possible_few}
use Rattle.splits.proofs.Respect.{possible_of}

module _ (n : ℕ) (F : ℕ → Bool) (A B : ℕ → Bool) (apart : Apart n A B) (r : ℕ) (P : Possible n F A B r) where
  abbrev k : ℕ
  k = size n (reads_h A B)

  abbrev H : ℕ → Bool
  H = bit_h n F A B

  -- what the first cells give at x
  pub code : ℕ → ℕ
  code x = code_at n F A B (gather n (reads_d A B) x)

  pub code_small : (x : ℕ) → code x < 2 ^ r
  unfolding code
  code_small x =
      omega (
        arith,
        code_at_gather n F A B x,
        column_there n F A B (gather n B x) (gather n A x) (gather-lt n A x),
        possible_few n F A B apart r P (gather n B x),
      )

  pub code_sees : (x y : ℕ) → Agree n (reads_d A B) x y → code x ≡ code y
  unfolding code
  code_sees x y h = ap (code_at n F A B) (gather_ext n (reads_d A B) x y h)

  pub gives : (x : ℕ) → x < 2 ^ n → F x ≡ H (input_h n A B x (code x))
  unfolding code
  gives x h = pair_gives n F A B x h

  -- ---- H's input: a shared or free input at its place, and behind them the code
  pub input_lt : (x d : ℕ) → d < 2 ^ r → input_h n A B x d < 2 ^ (k + r)
  input_lt x d h = omega (
    arith,
    gather-lt n (reads_h A B) x,
    mul-le-mul_right (2 ^ k) h,
    suc-mul d (2 ^ k),
    pow-add 2 k
        r,
    mul_comm (2 ^ k) (2 ^ r),
  )

  pub input_low : (x d q : ℕ) → q < k → (w : Place n (reads_h A B) q) → bit (input_h n A B x d) q ≡ bit x w.at
  input_low x d q g w = bit_below (gather n (reads_h A B) x) d k q g ∙ gather-place n (reads_h A B) x q w

  pub input_high : (x d t : ℕ) → bit (input_h n A B x d) (k + t) ≡ bit d t
  input_high x d t =
      sym (bit-shr (input_h n A B x d) k t)
      ∙ ap (λ (m : ℕ). bit m t) (ap (λ (m : ℕ). m / 2 ^ k) (add_comm (gather n (reads_h A B) x) (d * 2 ^ k))
      ∙ high d k (gather-lt n (reads_h A B) x))

  input_alike : (x y d j : ℕ) → AlikeBut n j x y
      → AlikeBut (k + r) (size j (reads_h A B)) (input_h n A B x d) (input_h n A B y d)
  input_alike x y d j alike i l ne = elim (dec_lt i k) [
    | yes g ↦ low g (place n (reads_h A B) i g)
    | no g ↦ let e : i ≡ k + (i - k) = omega arith in
        ap (bit (input_h n A B x d)) e ∙ input_high x d (i - k)
        ∙ sym (ap (bit (input_h n A B y d)) e ∙ input_high y d (i - k))
  ]
    where
      low : i < k → Place n (reads_h A B) i → bit (input_h n A B x d) i ≡ bit (input_h n A B y d) i
      low g w =
          input_low x d i g w
          ∙ alike w.at w.below (λ e. ne (sym w.rank ∙ ap (λ (p : ℕ). size p (reads_h A B)) e))
          ∙ sym (input_low y d i g w)

  -- ---- a free input
  pub free_counts : (j : ℕ) → reads_d A B j ≡ false → DependsOn n F j → DependsOn (k + r) H (size j (reads_h A B))
  free_counts j out p = record {
    x = input_h n A B p.x (code p.x);
    y = input_h n A B p.y (code p.x);
    below_x = input_lt p.x (code p.x) (code_small p.x);
    below_y = input_lt p.y (code p.x) (code_small p.x);
    alike = input_alike p.x p.y (code p.x) j p.alike;
    differ = λ e. p.differ (
        gives p.x p.below_x ∙ e
        ∙ ap (λ (d : ℕ). H (input_h n A B p.y d)) (code_sees p.x p.y
        (λ i h m. p.alike i h (λ z. clash m (ap (reads_d A B) z ∙ out))))
        ∙ sym (gives p.y p.below_y));
  }

  -- ---- a shared input
  module _ (j : ℕ) (A' B' : ℕ → Bool) (own : (i : ℕ) → i < n → A' i ≡ (A i || eqb i j))
      (shared : (i : ℕ) → i < n → B' i ≡ (B i && not (eqb i j))) where
    -- x without input j
    clear : ℕ → ℕ
    clear x = number n (λ i. bit x i && not (eqb i j))

    clear-bit : (x i : ℕ) → i < n → (t : Bool) → eqb i j ≡ t → bit (clear x) i ≡ (bit x i && not t)
    unfolding clear
    clear-bit x i h t e = bit-number n (λ i. bit x i && not (eqb i j)) i h ∙ ap (λ (t : Bool). bit x i && not t) e

    clear-alike : (x : ℕ) → AlikeBut n j x (clear x)
    clear-alike x i h ne = sym (clear-bit x i h false (ne_eqb i j ne) ∙ and-true (bit x i))

    reads_d_more : (i : ℕ) → i < n → reads_d A B i ≡ true → reads_d A' B' i ≡ true
    reads_d_more i h e = ap₂ ◌||◌ (own i h) (shared i h) ∙ go (A i) (B i) (eqb i j) e
      where
        go : (s t u : Bool) → (s || t) ≡ true → ((s || u) || (t && not u)) ≡ true
        go true t u e = refl
        go false true true e = refl
        go false true false e = refl
        go false false u e = absurd (clash e refl)

    reads_h_other : (i : ℕ) → i < n → eqb i j ≡ false → reads_h A B i ≡ true → reads_h A' B' i ≡ true
    reads_h_other i h ne e = ap₂ (λ (s t : Bool). t || not (s || t)) (own i h) (shared i h)
        ∙ go (A i) (B i) (eqb i j) ne e
      where
        go : (s t u : Bool) → u ≡ false → (t || not (s || t)) ≡ true → ((t && not u) || not ((s || u) || (t && not u)))
            ≡ true
        go s t true q e = absurd (clash refl q)
        go s true false q e = refl
        go true false false q e = e
        go false false false q e = refl

    pub shared_to_own : Ignores (k + r) H (size j (reads_h A B)) → Possible n F A' B' r
    shared_to_own idle =
        possible_of n F A' B' r (λ t x. bit (code x) t) (λ d x. H (input_h n A B (clear x) d))
        (λ t x y h. ap (λ (d : ℕ). bit d t) (code_sees x y (λ i l m. h i l (reads_d_more i l m))))
        (λ d x y h. ap (λ (g : ℕ). H (g + d * 2 ^ k))
        (gather_ext n (reads_h A B) (clear x) (clear y) (λ i l m. same x y h i l m (eqb i j) refl)))
        (λ x h. gives x h
        ∙ idle (input_h n A B x (code x)) (input_h n A B (clear x) (code x)) (input_lt x (code x) (code_small x))
        (input_lt (clear x) (code x) (code_small x))
        (input_alike x (clear x) (code x) j (clear-alike x))
        ∙ ap (λ (d : ℕ). H (input_h n A B (clear x) d)) (sym (number_bit r (code x) (code_small x))))
      where
        same : (x y : ℕ) → Agree n (reads_h A' B') x y → (i : ℕ) → i < n → reads_h A B i ≡ true → (t : Bool) → eqb i j ≡ t
            → bit (clear x) i ≡ bit (clear y) i
        same x y h i l m t e = clear-bit x i l t e ∙ go t e ∙ sym (clear-bit y i l t e)
          where
            go : (t : Bool) → eqb i j ≡ t → (bit x i && not t) ≡ (bit y i && not t)
            go true e = and-false (bit x i) ∙ sym (and-false (bit y i))
            go false e = ap (λ (s : Bool). s && true) (h i l (reads_h_other i l e m))

-- ---- D's output, with one first cell
pub output-counts : (n : ℕ) (F : ℕ → Bool) (A B : ℕ → Bool) → Apart n A B → Possible n F A B 1 → (j : ℕ) → j < n → A j
    ≡ true → DependsOn n F j
    → DependsOn (size n (reads_h A B) + 1) (bit_h n F A B) (size n (reads_h A B))
output-counts n F A B apart P j l own p =
    let d = code n F A B apart 1 P in
    let k = size n (reads_h A B) in
    record {
      x = input_h n A B p.x (d p.x);
      y = input_h n A B p.y (d p.y);
      below_x = input_lt n F A B apart 1 P p.x (d p.x) (code_small n F A B apart 1 P p.x);
      below_y = input_lt n F A B apart 1 P p.y (d p.y) (code_small n F A B apart 1 P p.y);
      alike = λ i h ne. let g : i < k = omega arith in
          bit_below (gather n (reads_h A B) p.x) (d p.x) k i g ∙ ap (λ (v : ℕ). bit v i) same
          ∙ sym (bit_below (gather n (reads_h A B) p.y) (d p.y) k i g);
      differ = λ e. p.differ (gives n F A B apart 1 P p.x p.below_x ∙ e
          ∙ sym (gives n F A B apart 1 P p.y p.below_y));
    }
  where
    not_read : (s t : Bool) → (t ≡ true → s ≡ false) → s ≡ true → (t || not (s || t)) ≡ false
    not_read s true f e = sym e ∙ f refl
    not_read true false f e = refl
    not_read false false f e = sym e

    same : gather n (reads_h A B) p.x ≡ gather n (reads_h A B) p.y
    same = gather_ext n (reads_h A B) p.x p.y
        (λ i h m. p.alike i h (λ z. clash m (ap (reads_h A B) z ∙ not_read (A j) (B j) (apart j l) own)))
