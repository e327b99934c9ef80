-- Cells with a table of one word. Assumes nothing.
use mathlib.Core.Path.{◌≡◌, refl, sym, ap, ap₂, ◌∙◌}
use mathlib.Core.Bool.{true, false}
use mathlib.Core.List.{List, [], ◌∷◌}
use Prim.Native.Nat.{ℕ, zero, suc, ◌+◌, ◌*◌, ◌/◌, ◌%◌, ◌^◌, ◌<◌, ◌≤◌}
use native.Mathlib.Decide.{dec_lt}
use native.Mathlib.Nat.{lt_of_lt_of_le}
use native.Mathlib.Omega.{arith}
use lib.Dec.{lit≤}
use lib.ListN.{get_or}
use Rattle.bits.specs.Numbers.{bit, number}
use Rattle.bits.specs.Lists.{list_of}
use Rattle.bits.proofs.Numbers.{number_ext, number_bit, bit_high, bit-zero}
use Rattle.tables.specs.Cells.{joined, table_number}
use Rattle.cofactors.specs.Cofactors.{selecting}
use Rattle.selectors.specs.Standing.{word_cell, spaced, from}

-- such a table as a number
pub one_word : (T : ℕ) → T < 2 ^ 64 → table_number (record { words = T ∷ 0 ∷ 0 ∷ 0 ∷ [] }) ≡ T
unfolding joined
one_word T h =
    number_ext 256 (λ x. bit (get_or (T ∷ 0 ∷ 0 ∷ 0 ∷ []) (x / 64) 0) (x % 64)) (bit T) same
    ∙ number_bit 256 T (lt_of_lt_of_le h (lit≤ tt))
  where
    zeros : (i : ℕ) → 1 ≤ i → get_or (T ∷ 0 ∷ 0 ∷ 0 ∷ []) i 0 ≡ 0
    zeros zero h = absurd (omega arith)
    zeros (suc zero) h = refl
    zeros (suc (suc zero)) h = refl
    zeros (suc (suc (suc zero))) h = refl
    zeros (suc (suc (suc (suc i)))) h = refl

    same : (x : ℕ) → x < 256 → bit (get_or (T ∷ 0 ∷ 0 ∷ 0 ∷ []) (x / 64) 0) (x % 64) ≡ bit T x
    same x l = elim (dec_lt x 64) [
      | yes g ↦
          let a : x / 64 ≡ 0 = omega arith in
          let b : x % 64 ≡ x = omega arith in
          ap₂ (λ (i j : ℕ). bit (get_or (T ∷ 0 ∷ 0 ∷ 0 ∷ []) i 0) j) a b
      | no g ↦
          let a : 1 ≤ x / 64 = omega arith in
          ap (λ (w : ℕ). bit w (x % 64)) (zeros (x / 64) a) ∙ bit-zero (x % 64) ∙ sym (bit_high T 64 x h (omega arith))
    ]

-- ---- the cells that select, as they are written
module _ (l : List ℕ) (i at base step x p : ℕ) (here : p ≡ get_or l at 0) where
  abbrev q : ℕ → ℕ
  q = from l at

  abbrev f : ℕ → ℕ
  f t = spaced base step (x + t)

  q_here : p ≡ q 0
  q_here = here ∙ ap (λ (j : ℕ). get_or l j 0) (let e : at ≡ at + 0 = omega arith in e)

  f_here : base + step * x ≡ f 0
  f_here = ap (λ (j : ℕ). base + step * j) (let e : x ≡ x + 0 = omega arith in e)

  -- one of two, by three cells
  pub three_cells_lem : (record { signals = p ∷ (base + step * x) ∷ []; table = 4 }
      ∷ record { signals = p ∷ (base + step * (x + 1)) ∷ []; table = 8 }
      ∷ record { signals = i ∷ (i + 1) ∷ []; table = 14 } ∷ []) ≡ selecting false 1 i q f
  three_cells_lem =
      let a = q_here in
      let b = f_here in
      let e : i + 1 ≡ suc i = omega arith in
      cc

  -- by one
  pub of_two : (u : List ℕ) → word_cell 3 (p ∷ (base + step * x) ∷ (base + step * (x + 1)) ∷ u) 228 ∷ []
      ≡ selecting true 1 i q f
  unfolding list_of number
  of_two u = ap₂ (λ (a b : ℕ). record { signals = a ∷ b ∷ f 1 ∷ []; table = 228 } ∷ []) q_here f_here

  -- one of four
  pub of_four : (p₂ : ℕ) → p₂ ≡ get_or l (at + 1) 0 → (u : List ℕ)
      → word_cell 6 (p ∷ p₂ ∷ (base + step * x) ∷ (base + step * (x + 1)) ∷ (base + step * (x + 2))
      ∷ (base + step * (x + 3)) ∷ u) 18364758544493064720 ∷ [] ≡ selecting true 2 i q f
  unfolding list_of number
  of_four p₂ e u =
      ap₂ (λ (a c : ℕ). record {
        signals = a ∷ c ∷ (base + step * x) ∷ f 1 ∷ f 2 ∷ f 3 ∷ [];
        table = 18364758544493064720;
      } ∷ []) q_here e
      ∙ ap (λ (b : ℕ). record { signals = q 0 ∷ q 1 ∷ b ∷ f 1 ∷ f 2 ∷ f 3 ∷ []; table = 18364758544493064720 } ∷ [])
      f_here
