-- A network of which every cell reads the inputs under other numbers, and flipped where so said: it gives what the
-- network gives at the assignment so changed, and as many cells read a signal. Assumes nothing.
use mathlib.Core.Path.{◌≡◌, refl, sym, ap, ap₂, ◌∙◌, subst}
use mathlib.Core.Bool.{Bool, true, false, cond, ◌||◌}
use mathlib.Core.List.{List, [], ◌∷◌, map}
use Prim.Native.Nat.{ℕ, zero, suc, ◌^◌, ◌<◌, ◌≤◌}
use native.Mathlib.Decide.{dec_lt}
use native.Mathlib.Omega.{arith}
use lib.Dec.{eqb}
use lib.ListN.{length, get_or, length-map, get_or-map}
use borrow.Author.Tests.{eq-eqb, ne_eqb, eqb-true, eqb-false}
use Rattle.bits.specs.Numbers.{bit, number, flipped}
use Rattle.bits.specs.Lists.{member}
use Rattle.bits.proofs.Lists.{default}
use Rattle.bits.proofs.Numbers.{bit-number, number_ext, number_lt}
use Rattle.sheets.specs.Network.{Cell, output, run, Wired}
use Rattle.networks.specs.Signals.{does_read}

-- other numbers for signals, and which of them are flipped: of n inputs, and nothing else
pub record Moves (n : ℕ) (σ : ℕ → ℕ) (φ : ℕ → Bool) : Type 0 where
  pub back : (s : ℕ) → σ (σ s) ≡ s
  pub stays : (s : ℕ) → n ≤ s → σ s ≡ s
  pub plain : (s : ℕ) → n ≤ s → φ s ≡ false

-- the values v are the values u seen so
abbrev pub Seen : (ℕ → ℕ) → (ℕ → Bool) → (ℕ → Bool) → (ℕ → Bool) → Type 0
Seen σ φ v u = (s : ℕ) → v s ≡ flipped (φ s) (u (σ s))

-- a cell that sees them so
unfoldable pub turned : (ℕ → ℕ) → (ℕ → Bool) → Cell → Cell
turned σ φ c = record {
  signals = map σ c.signals;
  table =
      number (2 ^ length c.signals)
      (λ y. bit c.table (number (length c.signals) (λ j. flipped (φ (get_or c.signals j 0)) (bit y j))));
}

module _ (σ : ℕ → ℕ) (φ : ℕ → Bool) where
  turned-output : (c : Cell) (v u : ℕ → Bool) → Seen σ φ v u → output (turned σ φ c) u ≡ output c v
  unfolding output turned
  turned-output c v u seen =
      ap (bit (turned σ φ c).table) packed_is
      ∙ bit-number (2 ^ k) (λ y. bit c.table (number k (λ j. flipped (φ (get_or l j 0)) (bit y j)))) at
      (number_lt k (λ j. u (σ (get_or l j 0))))
      ∙ ap (bit c.table) (number_ext k (λ j. flipped (φ (get_or l j 0)) (bit at j)) (λ j. v (get_or l j 0))
      (λ j h. ap (flipped (φ (get_or l j 0))) (bit-number k (λ j. u (σ (get_or l j 0))) j h) ∙ sym (seen (get_or l j 0))))
    where
      l : List ℕ
      l = c.signals

      k : ℕ
      k = length c.signals

      at : ℕ
      at = number (length c.signals) (λ j. u (σ (get_or c.signals j 0)))

      packed_is : number (length (map σ c.signals)) (λ j. u (get_or (map σ c.signals) j 0)) ≡ at
      packed_is =
          number_ext (length (map σ l)) (λ j. u (get_or (map σ l) j 0)) (λ j. u (σ (get_or l j 0)))
          (λ j h. ap u (default (map σ l) j 0 (σ 0) h ∙ get_or-map σ l j 0))
          ∙ ap (λ (k : ℕ). number k (λ j. u (σ (get_or l j 0)))) (length-map l σ)

module _ (n : ℕ) (σ : ℕ → ℕ) (φ : ℕ → Bool) (M : Moves n σ φ) where
  one_to_one : (s t : ℕ) → eqb (σ s) (σ t) ≡ eqb s t
  one_to_one s t = go (eqb s t) refl
    where
      go : (b : Bool) → eqb s t ≡ b → eqb (σ s) (σ t) ≡ b
      go true e = eq-eqb (σ s) (σ t) (ap σ (eqb-true s t e))
      go false e = ne_eqb (σ s) (σ t) (λ q. eqb-false s t e (sym (M.back s) ∙ ap σ q ∙ M.back t))

  inside : (s t : ℕ) → n ≤ t → s < t → σ s < t
  inside s t h l = elim (dec_lt (σ s) t) [
    | yes g ↦ g
    | no g ↦ absurd (omega (arith, M.stays (σ s) (omega arith), M.back s))
  ]

  seen_more : (v u : ℕ → Bool) (i : ℕ) (o : Bool) → n ≤ i → Seen σ φ v u
      → Seen σ φ (λ s. cond (eqb s i) o (v s)) (λ s. cond (eqb s i) o (u s))
  seen_more v u i o h seen s =
      go (eqb s i) refl (sym (ap (λ (t : ℕ). eqb (σ s) t) (M.stays i h)) ∙ one_to_one s i)
    where
      go : (b : Bool) → eqb s i ≡ b → eqb (σ s) i ≡ eqb s i
          → cond b o (v s) ≡ flipped (φ s) (cond (eqb (σ s) i) o (u (σ s)))
      go true e q =
          let p : φ s ≡ false = ap φ (eqb-true s i e) ∙ M.plain i h in
          sym (ap₂ (λ (f b : Bool). flipped f (cond b o (u (σ s)))) p (q ∙ e))
      go false e q = seen s ∙ sym (ap (λ (b : Bool). flipped (φ s) (cond b o (u (σ s)))) (q ∙ e))

  pub turned-run : (cs : List Cell) (o : Bool) (i : ℕ) (v u : ℕ → Bool) → n ≤ i → Seen σ φ v u
      → run o i (map (turned σ φ) cs) u ≡ run o i cs v
  unfolding run
  turned-run [] o i v u h seen = refl
  turned-run (c ∷ cs) o i v u h seen =
      ap (λ (p : Bool). run p (suc i) (map (turned σ φ) cs) (λ s. cond (eqb s i) p (u s)))
      (turned-output σ φ c v u seen)
      ∙ turned-run cs (output c v) (suc i) (λ s. cond (eqb s i) (output c v) (v s))
      (λ s. cond (eqb s i) (output c v) (u s)) (omega arith) (seen_more v u i (output c v) h seen)

  pub turned_wired : (K i : ℕ) (cs : List Cell) → n ≤ i → Wired K i cs → Wired K i (map (turned σ φ) cs)
  unfolding turned
  turned_wired K i [] h w = tt
  turned_wired K i (c ∷ cs) h w = (
    subst (λ (k : ℕ). k ≤ K) (sym (length-map c.signals σ)) w.0,
    λ j l.
        subst (λ (s : ℕ). s < i)
        (sym (default (map σ c.signals) j 0 (σ 0) l ∙ get_or-map σ c.signals j 0))
        (inside (get_or c.signals j 0) i h (w.1 j (subst (λ (k : ℕ). j < k) (length-map c.signals σ) l))),
    turned_wired K (suc i) cs (omega arith) w.2,
  )

  -- a cell reads a signal under its other number where it read the signal
  pub turned-member : (s : ℕ) (l : List ℕ) → member (σ s) (map σ l) ≡ member s l
  turned-member s [] = refl
  turned-member s (x ∷ l) = ap₂ ◌||◌ (one_to_one s x) (turned-member s l)

  pub turned-reads : (cs : List Cell) (j s : ℕ) → does_read (map (turned σ φ) cs) j (σ s) ≡ does_read cs j s
  unfolding turned
  turned-reads [] j s = refl
  turned-reads (c ∷ cs) zero s = turned-member s c.signals
  turned-reads (c ∷ cs) (suc j) s = turned-reads cs j s
