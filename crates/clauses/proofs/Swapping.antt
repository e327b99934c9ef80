-- Two inputs can be swapped if two columns of the split that has them as own inputs are equal. Assumes nothing.
use mathlib.Core.Path.{◌≡◌, refl, sym, ap, ap₂, subst, ◌∙◌}
use mathlib.Core.Bool.{Bool, true, false, cond, not, ◌||◌, beq, or-false}
use Prim.Native.Nat.{ℕ, ◌+◌, ◌*◌, ◌%◌, ◌^◌, ◌<◌, ◌≤◌}
use native.Mathlib.Omega.{arith}
use lib.Dec.{eqb}
use lib.Pow.{pow_pos}
use borrow.Author.Tests.{eq-eqb, ne_eqb, eqb-true}
use Rattle.bits.specs.Numbers.{bit, number, flipped}
use Rattle.bits.specs.Sets.{Apart, rest, size, gather, spread}
use Rattle.bits.proofs.Bools.{clash, iff, beq_same, same-beq}
use Rattle.bits.proofs.Below.{every_at, every_all}
use Rattle.bits.proofs.Numbers.{number_lt, bit-number, number_ext, bit-zero}
use Rattle.bits.proofs.Members.{same_bits}
use Rattle.bits.proofs.Spreading.{gather-lt, spread-gather, bit-spread, spread-lt}
use Rattle.bits.proofs.Single.{single, plus_bit, plus_lt}
use Rattle.bits.proofs.Sums.{sum_mask}
use Rattle.columns.specs.declared.split.Split.{Split}
use Rattle.columns.specs.Reading.{Held, Without, alike}
use Rattle.clauses.specs.Swapping.{swapped, unchanged, swappable}
use Rattle.bits.proofs.Machine.{shl_one}

-- the bit of the lower input, and of the higher, as the machine shifts them
pub low_bit : {n p q : ℕ} → n ≤ 16 → p < q → q < n → 1 * 2 ^ p % 2 ^ 32 ≡ 2 ^ p
low_bit {n} {p} {q} h k l = shl_one 32 p (omega arith)

pub high_bit : {n q : ℕ} → n ≤ 16 → q < n → 1 * 2 ^ q % 2 ^ 32 ≡ 2 ^ q
high_bit {n} {q} h l = shl_one 32 q (omega arith)

module _ (n p q : ℕ) (pq : p < q) (qn : q < n) where
  -- the assignment with u at p, v at q, and else as r has it
  abbrev pub with : Bool → Bool → ℕ → ℕ → Bool
  with u v r j = cond (eqb j p) u (cond (eqb j q) v (bit r j))

  pub at : Bool → Bool → ℕ → ℕ
  at u v r = number n (with u v r)

  at_lt : (u v : Bool) (r : ℕ) → at u v r < 2 ^ n
  unfolding at
  at_lt u v r = number_lt n (with u v r)

  bit_at : (u v : Bool) (r j : ℕ) → j < n → bit (at u v r) j ≡ with u v r j
  unfolding at
  bit_at u v r j l = bit-number n (with u v r) j l

  at_p : (u v : Bool) (r : ℕ) → bit (at u v r) p ≡ u
  at_p u v r = bit_at u v r p (omega arith) ∙ simp (eq-eqb p p refl)

  at_q_lem : (u v : Bool) (r : ℕ) → bit (at u v r) q ≡ v
  at_q_lem u v r =
      bit_at u v r q qn ∙ simp (ne_eqb q p (λ e. omega arith), eq-eqb q q refl)

  -- swapped, it has the two the other way round
  swap_at : (f u v : Bool) (r : ℕ) → swapped n f p q (at u v r) ≡ at (flipped f v) (flipped f u) r
  unfolding swapped at
  swap_at f u v r =
      number_ext n (λ j. cond (eqb j p) (flipped f (bit (at u v r) q)) (cond (eqb j q) (flipped f (bit (at u v r) p))
      (bit (at u v r) j))) (with (flipped f v) (flipped f u) r) (λ j l. go j l (eqb j p) (eqb j q) refl refl)
    where
      go : (j : ℕ) → j < n → (s t : Bool) → eqb j p ≡ s → eqb j q ≡ t
          → cond s (flipped f (bit (at u v r) q)) (cond t (flipped f (bit (at u v r) p)) (bit (at u v r) j))
          ≡ cond s (flipped f v) (cond t (flipped f u) (bit r j))
      go j l true t e d = ap (flipped f) (at_q_lem u v r)
      go j l false true e d = ap (flipped f) (at_p u v r)
      go j l false false e d = bit_at u v r j l ∙ simp (e, d)

  module _ (L : ℕ) (off : (j : ℕ) → j < n → bit L j ≡ not (eqb j p || eqb j q)) where
    -- what an assignment has beside the two
    abbrev beside : ℕ → ℕ
    beside x = spread n (bit L) (gather n (bit L) x)

    whole : (x : ℕ) → x < 2 ^ n → x ≡ at (bit x p) (bit x q) (beside x)
    whole x l =
        same_bits n x (at (bit x p) (bit x q) (beside x)) l (at_lt (bit x p) (bit x q) (beside x)) (λ j k.
        sym (bit_at (bit x p) (bit x q) (beside x) j k ∙ go j k (eqb j p) (eqb j q) refl refl))
      where
        go : (j : ℕ) → j < n → (s t : Bool) → eqb j p ≡ s → eqb j q ≡ t
            → cond s (bit x p) (cond t (bit x q) (bit (beside x) j)) ≡ bit x j
        go j k true t e d = ap (bit x) (sym (eqb-true j p e))
        go j k false true e d = ap (bit x) (sym (eqb-true j q d))
        go j k false false e d = spread-gather n (bit L) x j k (off j k ∙ simp (e, d))

    -- a start that has u at p, v at q and nothing else, with what is beside
    module _ (m : ℕ) (u v : Bool) (ml : m < 2 ^ n)
        (mb : (j : ℕ) → j < n → bit m j ≡ cond (eqb j p) u (cond (eqb j q) v false)) where
      start_at : (k : ℕ) → m + spread n (bit L) k ≡ at u v (spread n (bit L) k)
      unfolding at
      start_at k =
          sum_mask n m r ml (spread-lt n (bit L) k) (λ j l e. apart j l e (eqb j p) (eqb j q) refl refl)
          ∙ number_ext n (λ j. bit m j || bit r j) (with u v r) (λ j l. ap (λ (t : Bool). t || bit r j) (mb j l)
          ∙ go j l (eqb j p) (eqb j q) refl refl)
        where
          r : ℕ
          r = spread n (bit L) k

          inside : (j : ℕ) → j < n → (s t : Bool) → eqb j p ≡ s → eqb j q ≡ t → (s || t) ≡ true → bit r j ≡ false
          inside j l s t e d h = bit-spread n (bit L) k j l ∙ simp (off j l, e, d, h)

          apart : (j : ℕ) → j < n → bit r j ≡ true → (s t : Bool) → eqb j p ≡ s → eqb j q ≡ t → bit m j ≡ false
          apart j l h true t e d = absurd (clash h (inside j l true t e d refl))
          apart j l h false true e d = absurd (clash h (inside j l false true e d refl))
          apart j l h false false e d = mb j l ∙ simp (e, d)

          go : (j : ℕ) → j < n → (s t : Bool) → eqb j p ≡ s → eqb j q ≡ t
              → (cond s u (cond t v false) || bit r j) ≡ cond s u (cond t v (bit r j))
          go j l true t e d = simp (inside j l true t e d refl, or-false u)
          go j l false true e d = simp (inside j l false true e d refl, or-false v)
          go j l false false e d = refl

    -- the two columns, by whether the two are flipped
    module _ (F : ℕ → Bool) (f : Bool) (x y : ℕ) (first : (k : ℕ) → x + spread n (bit L) k ≡ at (not f) false (spread n (bit L) k))
        (second : (k : ℕ) → y + spread n (bit L) k ≡ at f true (spread n (bit L) k)) where
      turn : (g a b : Bool) (r : ℕ) → F (at (not g) false r) ≡ F (at g true r)
          → F (at (flipped g b) (flipped g a) r) ≡ F (at a b r)
      turn false true true r e = refl
      turn false true false r e = sym e
      turn false false true r e = e
      turn false false false r e = refl
      turn true true true r e = e
      turn true true false r e = refl
      turn true false true r e = refl
      turn true false false r e = sym e

      there : (g : Bool) (r : ℕ) → swapped n g p q (at (not g) false r) ≡ at g true r
      there true r = swap_at true false false r
      there false r = swap_at false true false r

      pub columns_tell : alike n F L x y ≡ unchanged n F f p q
      unfolding alike unchanged
      columns_tell = iff (alike n F L x y) (unchanged n F f p q) to from
        where
          to : alike n F L x y ≡ true → unchanged n F f p q ≡ true
          to h = every_all (2 ^ n) (λ w. beq (F (swapped n f p q w)) (F w)) (λ w l.
              let k = gather n (bit L) w in
              let e = beq_same (F (x + spread n (bit L) k)) (F (y + spread n (bit L) k)) (every_at (2 ^ size n (bit L))
              (λ c. beq (F (x + spread n (bit L) c)) (F (y + spread n (bit L) c))) h k (gather-lt n (bit L) w)) in
              same-beq (F (swapped n f p q w)) (F w) (
              ap (λ (z : ℕ). F (swapped n f p q z)) (whole w l) ∙ ap F (swap_at f (bit w p) (bit w q) (beside w))
              ∙ turn f (bit w p) (bit w q) (beside w) (sym (ap F (first k)) ∙ e ∙ ap F (second k))
              ∙ sym (ap F (whole w l))))

          from : unchanged n F f p q ≡ true → alike n F L x y ≡ true
          from h = every_all (2 ^ size n (bit L)) (λ c. beq (F (x + spread n (bit L) c)) (F (y + spread n (bit L) c)))
              (λ k l.
              let r = spread n (bit L) k in
              let e = beq_same (F (swapped n f p q (at (not f) false r))) (F (at (not f) false r)) (every_at (2 ^ n)
              (λ w. beq (F (swapped n f p q w)) (F w)) h (at (not f) false r) (at_lt (not f) false r)) in
              same-beq (F (x + r)) (F (y + r)) (
              ap F (first k) ∙ sym e ∙ ap F (there f r) ∙ sym (ap F (second k))))

-- ---- the same of the split as the code makes it, the two inputs' masks being x and y
module _ (n p q x y : ℕ) (pq : p < q) (qn : q < n) (ex : x ≡ 2 ^ p) (ey : y ≡ 2 ^ q) where
  single-bit : (i : ℕ) → i < n → (j : ℕ) → j < n → bit (2 ^ i) j ≡ eqb j i
  single-bit i li j l = ap (λ (m : ℕ). bit m j) (sym (single n i li)) ∙ bit-number n (λ k. eqb k i) j l

  x_bit : (j : ℕ) → j < n → bit x j ≡ eqb j p
  x_bit j l = ap (λ (m : ℕ). bit m j) ex ∙ single-bit p (omega arith) j l

  x_lt : x < 2 ^ n
  x_lt = omega (arith, ex, single n p (omega arith), number_lt n (λ k. eqb k p))

  y_bit : (j : ℕ) → j < n → bit y j ≡ eqb j q
  y_bit j l = ap (λ (m : ℕ). bit m j) ey ∙ single-bit q qn j l

  y_lt : y < 2 ^ n
  y_lt = omega (arith, ey, single n q qn, number_lt n (λ k. eqb k q))

  x_off : bit x q ≡ false
  x_off = x_bit q qn ∙ ne_eqb q p (λ e. omega arith)

  pub both-lt : x + y < 2 ^ n
  both-lt = omega (arith, ey, plus_lt n x q x_lt qn x_off)

  both-bit : (j : ℕ) → j < n → bit (x + y) j ≡ (eqb j p || eqb j q)
  both-bit j l =
      ap (λ (m : ℕ). bit (x + m) j) ey ∙ plus_bit n x q x_lt qn x_off j l ∙ ap (λ (t : Bool). t || eqb j q) (x_bit j l)

  pub none_shared : Apart n (bit (x + y)) (bit 0)
  none_shared j l e = absurd (clash e (bit-zero j))

  module _ (s : Split) (h : Held s) (en : s.n ≡ n) (eo : s.own ≡ x + y) (es : s.shared ≡ 0) where
    off : (j : ℕ) → j < n → bit s.free j ≡ not (eqb j p || eqb j q)
    off j l =
        ap (λ (m : ℕ). bit m j) h.free ∙ bit-number s.n (rest (bit s.own) (bit s.shared)) j (omega (arith, en))
        ∙ ap₂ (λ (a b : Bool). not (a || b)) (ap (λ (m : ℕ). bit m j) eo ∙ both-bit j l)
        (ap (λ (m : ℕ). bit m j) es ∙ bit-zero j)
        ∙ ap not (or-false (eqb j p || eqb j q))

    -- a number with bits at the two alone
    module _ (m : ℕ) (u v : Bool) (ml : m < 2 ^ n)
        (mb : (j : ℕ) → j < n → bit m j ≡ cond (eqb j p) u (cond (eqb j q) v false)) where
      apart : Without s.n s.free m
      apart = record {
        below = subst (λ (k : ℕ). m < 2 ^ k) (sym en) ml;
        clear = λ j l e. go j (omega (arith, en)) e (eqb j p) (eqb j q) refl refl;
      }
        where
          go : (j : ℕ) → j < n → bit s.free j ≡ true → (a b : Bool) → eqb j p ≡ a → eqb j q ≡ b → bit m j ≡ false
          go j l e true b d f = absurd (clash e (off j l ∙ simp (d)))
          go j l e false true d f = absurd (clash e (off j l ∙ simp (d, f)))
          go j l e false false d f = mb j l ∙ simp (d, f)

    bits_x : (j : ℕ) → j < n → bit x j ≡ cond (eqb j p) true (cond (eqb j q) false false)
    bits_x j l = x_bit j l ∙ go (eqb j p) (eqb j q)
      where
        go : (a b : Bool) → a ≡ cond a true (cond b false false)
        go true b = refl
        go false true = refl
        go false false = refl

    bits_y : (j : ℕ) → j < n → bit y j ≡ cond (eqb j p) false (cond (eqb j q) true false)
    bits_y j l = y_bit j l ∙ go (eqb j p) (eqb j q) refl refl
      where
        go : (a b : Bool) → eqb j p ≡ a → eqb j q ≡ b → b ≡ cond a false (cond b true false)
        go true true e f = let z : p ≡ q = sym (eqb-true j p e) ∙ eqb-true j q f in absurd (omega arith)
        go true false e f = refl
        go false true e f = refl
        go false false e f = refl

    bits_none : (j : ℕ) → j < n → bit 0 j ≡ cond (eqb j p) false (cond (eqb j q) false false)
    bits_none j l = bit-zero j ∙ go (eqb j p) (eqb j q)
      where
        go : (a b : Bool) → false ≡ cond a false (cond b false false)
        go true b = refl
        go false true = refl
        go false false = refl

    bits-both : (j : ℕ) → j < n → bit (x + y) j ≡ cond (eqb j p) true (cond (eqb j q) true false)
    bits-both j l = both-bit j l ∙ go (eqb j p) (eqb j q)
      where
        go : (a b : Bool) → (a || b) ≡ cond a true (cond b true false)
        go true b = refl
        go false true = refl
        go false false = refl

    pub apart_x : Without s.n s.free x
    apart_x = apart x true false x_lt bits_x

    pub apart_y : Without s.n s.free y
    apart_y = apart y false true y_lt bits_y

    pub apart_none : Without s.n s.free 0
    apart_none = apart 0 false false (pow_pos n) bits_none

    pub apart-both : Without s.n s.free (x + y)
    apart-both = apart (x + y) true true both-lt bits-both

    -- where they differ the columns are equal, or where they agree
    pub swaps : (F : ℕ → Bool) → alike s.n F s.free x y ≡ unchanged n F false p q
    swaps F =
        ap (λ (k : ℕ). alike k F s.free x y) en
        ∙ columns_tell n p q pq qn s.free off F false x y (start_at n p q pq qn s.free off x true false x_lt bits_x)
        (start_at n p q pq qn s.free off y false true y_lt bits_y)

    pub flips : (F : ℕ → Bool) → alike s.n F s.free 0 (x + y) ≡ unchanged n F true p q
    flips F =
        ap (λ (k : ℕ). alike k F s.free 0 (x + y)) en
        ∙ columns_tell n p q pq qn s.free off F true 0 (x + y)
        (start_at n p q pq qn s.free off 0 false false (pow_pos n) bits_none)
        (start_at n p q pq qn s.free off (x + y) true true both-lt bits-both)

    pub told_yes : (F : ℕ → Bool) {r : Bool} → r ≡ alike s.n F s.free x y → r ≡ true → true ≡ swappable n F p q
    told_yes F {r} e t = sym (ap (λ (b : Bool). b || unchanged n F true p q) (sym (swaps F) ∙ sym e ∙ t))

    pub told_no : (F : ℕ → Bool) {r w : Bool} → r ≡ alike s.n F s.free x y → r ≡ false
        → w ≡ alike s.n F s.free 0 (x + y) → w ≡ swappable n F p q
    told_no F {r} {w} e t d =
        d ∙ flips F ∙ sym (ap (λ (b : Bool). b || unchanged n F true p q) (sym (swaps F) ∙ sym e ∙ t))
