-- What H ignores is not needed: without an output of a first cell that it ignores, one first cell less does. Assumes
-- nothing.
use mathlib.Core.Path.{◌≡◌, sym, ap, ◌∙◌}
use mathlib.Core.Bool.{Bool, cond}
use Prim.Native.Nat.{ℕ, suc, ◌+◌, ◌-◌, ◌*◌, ◌^◌, ◌<◌}
use native.Mathlib.Decide.{dec_lt}
use native.Mathlib.Omega.{arith}
use lib.Dec.{ltb}
use borrow.Author.Tests.{lt-ltb, le-ltb}
use Rattle.bits.specs.Numbers.{bit, number}
use Rattle.bits.specs.Sets.{Apart, size, gather}
use Rattle.bits.proofs.Numbers.{bit_below, bit-number, number_lt}
use Rattle.bits.proofs.Spreading.{gather_ext}
use Rattle.tables.specs.Counting.{AlikeBut, Ignores}
use Rattle.splits.specs.Split.{reads_h, input_h, Possible}
use Rattle.splits.specs.Pair.{bit_h}
use Rattle.splits.proofs.Asked.{code, code_small, code_sees, gives, input_lt, input_high}
use Rattle.splits.proofs.Respect.{possible_of}

module _ (n : ℕ) (F : ℕ → Bool) (A B : ℕ → Bool) (apart : Apart n A B) (u : ℕ) (P : Possible n F A B (suc u)) (t : ℕ)
    (lt : t < suc u)
    (idle : Ignores (size n (reads_h A B) + suc u) (bit_h n F A B) (size n (reads_h A B) + t)) where
  abbrev k : ℕ
  k = size n (reads_h A B)

  abbrev H : ℕ → Bool
  H = bit_h n F A B

  abbrev given : ℕ → ℕ
  given = code n F A B apart (suc u) P

  -- codes that are alike but for output t, behind the same inputs
  codes_alike : (x c d : ℕ) → ((s : ℕ) → s < suc u → (s ≡ t → ⊥) → bit c s ≡ bit d s)
      → AlikeBut (k + suc u) (k + t) (input_h n A B x c) (input_h n A B x d)
  codes_alike x c d same i h ne = elim (dec_lt i k) [
    | yes g ↦ bit_below (gather n (reads_h A B) x) c k i g ∙ sym (bit_below (gather n (reads_h A B) x) d k i g)
    | no g ↦ let e : i ≡ k + (i - k) = omega arith in
        ap (bit (input_h n A B x c)) e ∙ input_high n F A B apart (suc u) P x c (i - k)
        ∙ same (i - k) (omega arith) (λ z. ne (e ∙ ap (λ (m : ℕ). k + m) z))
        ∙ sym (ap (bit (input_h n A B x d)) e ∙ input_high n F A B apart (suc u) P x d (i - k))
  ]

  -- the places of u outputs among u + 1, all but t; and u outputs put there, with any value at t
  skip : ℕ → ℕ
  skip s = cond (ltb s t) s (suc s)

  filled : ℕ → ℕ → Bool
  filled d s = cond (ltb s t) (bit d s) (bit d (s - 1))

  left : ℕ → ℕ
  left x = number u (λ s. bit (given x) (skip s))

  -- all but output t are as they were
  back : (x s : ℕ) → s < suc u → (s ≡ t → ⊥) → bit (given x) s ≡ bit (number (suc u) (filled (left x))) s
  unfolding filled left skip
  back x s h ne = sym (bit-number (suc u) (filled (left x)) s h
      ∙ elim (dec_lt s t) [ yes l ↦ before l | no l ↦ beyond (omega arith) ])
    where
      before : s < t → filled (left x) s ≡ bit (given x) s
      before l =
          ap (λ (b : Bool). cond b (bit (left x) s) (bit (left x) (s - 1))) (lt-ltb s t l)
          ∙ bit-number u (λ s. bit (given x) (skip s)) s (omega arith)
          ∙ ap (λ (b : Bool). bit (given x) (cond b s (suc s))) (lt-ltb s t l)

      beyond : t < s → filled (left x) s ≡ bit (given x) s
      beyond l =
          let e : suc (s - 1) ≡ s = omega arith in
          ap (λ (b : Bool). cond b (bit (left x) s) (bit (left x) (s - 1))) (le-ltb s t (omega arith))
          ∙ bit-number u (λ s. bit (given x) (skip s)) (s - 1) (omega arith)
          ∙ ap (λ (b : Bool). bit (given x) (cond b (s - 1) (suc (s - 1)))) (le-ltb (s - 1) t (omega arith))
          ∙ ap (bit (given x)) e

  pub one_less : Possible n F A B u
  unfolding left
  one_less =
      possible_of n F A B u (λ s x. bit (given x) (skip s)) (λ d x. H (input_h n A B x (number (suc u) (filled d))))
      (λ s x y h. ap (λ (d : ℕ). bit d (skip s)) (code_sees n F A B apart (suc u) P x y h))
      (λ d x y h. ap (λ (g : ℕ). H (g + number (suc u) (filled d) * 2 ^ k)) (gather_ext n (reads_h A B) x y h))
      (λ x h. gives n F A B apart (suc u) P x h
      ∙ idle (input_h n A B x (given x)) (input_h n A B x (number (suc u) (filled (left x))))
      (input_lt n F A B apart (suc u) P x (given x) (code_small n F A B apart (suc u) P x))
      (input_lt n F A B apart (suc u) P x (number (suc u) (filled (left x))) (number_lt (suc u) (filled (left x))))
      (codes_alike x (given x) (number (suc u) (filled (left x))) (back x)))
