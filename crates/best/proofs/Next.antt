-- H of the best split depends on each of its inputs, where the table depends on each of its own: on a shared one, else
-- that could be an own input, and A would be larger; on the others by Asked (splits). Assumes nothing.
use mathlib.Core.Path.{◌≡◌, refl, sym, ap, ap₂, ◌∙◌, subst}
use mathlib.Core.Logic.{⊎_elim}
use mathlib.Core.Bool.{Bool, true, false, not, ◌&&◌, ◌||◌, or-false}
use Prim.Native.Nat.{ℕ, ◌+◌, ◌^◌, ◌<◌}
use native.Mathlib.Omega.{arith}
use lib.Dec.{eqb}
use borrow.Author.Tests.{eq-eqb, eqb-true}
use Rattle.bits.specs.Numbers.{bit, val, number}
use Rattle.bits.specs.Sets.{size}
use Rattle.bits.proofs.Bools.{clash}
use Rattle.bits.proofs.Below.{below_suc}
use Rattle.bits.proofs.Numbers.{number_lt, bit-number}
use Rattle.bits.proofs.Sizes.{size-lt, size-sum}
use Rattle.bits.proofs.Counting.{size-one}
use Rattle.bits.proofs.Members.{Place, place}
use Rattle.tables.specs.Depends.{DependsOn}
use Rattle.tables.specs.Counting.{AllCount, Ignores}
use Rattle.tables.proofs.Depending.{depends_or, count_ext}
use Rattle.splits.specs.Split.{reads_h}
use Rattle.splits.specs.Pair.{bit_h, inputs_h, table_h}
use Rattle.splits.proofs.Asked.{free_counts, shared_to_own, output-counts}
use Rattle.best.specs.Best.{Candidate, Best}
use Rattle.best.specs.Moves.{with, without}

-- ---- a candidate with a shared input moved to A
module _ {n K r A B : ℕ} (c : Candidate n K r A B) (p : ℕ) (l : p < n) (shared : bit B p ≡ true) where
  A' : ℕ
  A' = number n (with (bit A) p)

  B' : ℕ
  B' = number n (without (bit B) p)

  bit_a : (j : ℕ) → j < n → bit A' j ≡ (bit A j || eqb j p)
  unfolding A'
  bit_a j h = bit-number n (with (bit A) p) j h

  bit_b : (j : ℕ) → j < n → bit B' j ≡ (bit B j && not (eqb j p))
  unfolding B'
  bit_b j h = bit-number n (without (bit B) p) j h

  at_p : (j : ℕ) → eqb j p ≡ true → bit B j ≡ true
  at_p j e = ap (bit B) (eqb-true j p e) ∙ shared

  one : size n (λ j. eqb j p) ≡ 1
  one = omega (arith, size-one n p, size-lt n (λ j. eqb j p) p l (eq-eqb p p refl))

  more_a : size n (bit A) + 1 ≡ size n (bit A')
  more_a = ap (λ (m : ℕ). size n (bit A) + m) (sym one)
      ∙ size-sum n (bit A) (λ j. eqb j p) (bit A') (λ j h. go (bit A j) (eqb j p) (λ e. c.apart j h (at_p j e))
      ∙ ap val (sym (bit_a j h)))
    where
      go : (s t : Bool) → (t ≡ true → s ≡ false) → val s + val t ≡ val (s || t)
      go true true f = absurd (clash refl (f refl))
      go true false f = refl
      go false t f = omega arith

  less_b : size n (bit B') + 1 ≡ size n (bit B)
  less_b = ap (λ (m : ℕ). size n (bit B') + m) (sym one)
      ∙ size-sum n (bit B') (λ j. eqb j p) (bit B) (λ j h. ap (λ (t : Bool). val t + val (eqb j p)) (bit_b j h)
      ∙ go (bit B j) (eqb j p) (at_p j))
    where
      go : (s t : Bool) → (t ≡ true → s ≡ true) → val (s && not t) + val t ≡ val s
      go true true f = refl
      go true false f = refl
      go false true f = absurd (clash (f refl) refl)
      go false false f = refl

  moved : Candidate n K r A' B'
  unfolding A' B'
  moved = record {
    below_a = number_lt n (with (bit A) p);
    below_b = number_lt n (without (bit B) p);
    apart = λ j h e. bit_a j h ∙ go (bit A j) (bit B j) (eqb j p) (c.apart j h) (sym (bit_b j h) ∙ e);
    more = omega (arith, more_a, c.more);
    most = omega (arith, more_a, less_b, c.most);
  }
    where
      go : (s t u : Bool) → (t ≡ true → s ≡ false) → (t && not u) ≡ true → (s || u) ≡ false
      go s true true f e = absurd (clash e refl)
      go s true false f e = or-false s ∙ f refl
      go s false u f e = absurd (clash e refl)

-- ---- the best split, for any number of first cells
module _ {n K r A B : ℕ} (F : ℕ → Bool) (b : Best n K r F A B) (all : AllCount n F) where
  abbrev s : ℕ → Bool
  s = reads_h (bit A) (bit B)

  abbrev k : ℕ
  k = size n (reads_h (bit A) (bit B))

  abbrev H : ℕ → Bool
  H = bit_h n F (bit A) (bit B)

  shared_counts : (p : ℕ) → p < n → s p ≡ true → bit B p ≡ true → DependsOn (k + r) H (size p s)
  shared_counts p l in-s shared = ⊎_elim (λ d. d) (λ idle. absurd (never idle))
      (depends_or (k + r) H (size p s) (omega (arith, size-lt n s p l in-s)))
    where
      c : Candidate n K r A B
      c = b.candidate

      never : Ignores (k + r) H (size p s) → ⊥
      never idle =
          let larger = b.ahead (A' c p l shared) (B' c p l shared) (moved c p l shared)
          (shared_to_own n F (bit A) (bit B) c.apart r b.possible p (bit (A' c p l shared))
          (bit (B' c p l shared)) (bit_a c p l shared)
          (bit_b c p l shared) idle) in
          omega (arith, larger.largest_a, more_a c p l shared)

  -- H depends on each shared and free input
  pub next-reads : (q : ℕ) → q < k → DependsOn (k + r) H q
  next-reads q h = go (place n s q h)
    where
      go : Place n s q → DependsOn (k + r) H q
      go w = subst (DependsOn (k + r) H) w.rank (at (bit A w.at) (bit B w.at) refl refl w.member)
        where
          at : (a t : Bool) → bit A w.at ≡ a → bit B w.at ≡ t → (t || not (a || t)) ≡ true
              → DependsOn (k + r) H (size w.at s)
          at a true e f m = shared_counts w.at w.below w.member f
          at true false e f m = absurd (clash m refl)
          at false false e f m = free_counts n F (bit A) (bit B) b.candidate.apart r b.possible w.at
              (ap₂ ◌||◌ e f) (all w.at w.below)

-- with one first cell, on that one's output too
pub next-counts : (n K : ℕ) (F : ℕ → Bool) (A B : ℕ) → Best n K 1 F A B → AllCount n F
    → AllCount (inputs_h n F (bit A) (bit B) 1) (bit (table_h n F (bit A) (bit B) 1))
unfolding table_h
next-counts n K F A B b all =
    count_ext (k + 1) H (bit (table_h n F (bit A) (bit B) 1)) (λ x h. sym (bit-number (2 ^ (k + 1)) H x h))
    (λ q h. ⊎_elim (next-reads F b all q) (λ e. subst (DependsOn (k + 1) H) (sym e)
    (own (place n (bit A) 0 (omega (arith, b.candidate.more)))))
    (below_suc {j = q} {n = k} (omega arith)))
  where
    k : ℕ
    k = size n (reads_h (bit A) (bit B))

    H : ℕ → Bool
    H = bit_h n F (bit A) (bit B)

    own : Place n (bit A) 0 → DependsOn (k + 1) H k
    own w = output-counts n F (bit A) (bit B) b.candidate.apart b.possible w.at w.below w.member
        (all w.at w.below)
