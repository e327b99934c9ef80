-- The table over a set that the whole table sees alone has the splits of the whole table, member by member, whatever
-- lies outside the set: the one is asked at what is gathered, the other at what is spread. Assumes nothing.
use mathlib.Core.Path.{◌≡◌, refl, sym, ap, ap₂, ◌∙◌}
use mathlib.Core.Bool.{Bool, true, false, not, ◌&&◌, ◌||◌}
use Prim.Native.Nat.{ℕ, ◌<◌}
use Rattle.bits.specs.Numbers.{bit}
use Rattle.bits.specs.Sets.{Agree, size, gather, spread}
use Rattle.bits.proofs.Sizes.{size-lt}
use Rattle.bits.proofs.Spreading.{gather-lt, bit-spread, spread-lt}
use Rattle.bits.proofs.Members.{Place, place, gather-place}
use Rattle.tables.specs.Counting.{Sees, table_over}
use Rattle.tables.proofs.Over.{over_at, over_gather}
use Rattle.splits.specs.Split.{reads_d, reads_h, Possible}
use Rattle.splits.proofs.Through.{possible_through}

-- at the members of S, s is t by their numbers
abbrev pub Matches : ℕ → (ℕ → Bool) → (ℕ → Bool) → (ℕ → Bool) → Type 0
Matches n S s t = (j : ℕ) → j < n → S j ≡ true → s j ≡ t (size j S)

module _ (n : ℕ) (S s t : ℕ → Bool) (m : Matches n S s t) where
  agree_gather : (x y : ℕ) → Agree n s x y → Agree (size n S) t (gather n S x) (gather n S y)
  agree_gather x y h k l e = go (place n S k l)
    where
      go : Place n S k → bit (gather n S x) k ≡ bit (gather n S y) k
      go w = gather-place n S x k w ∙ h w.at w.below (m w.at w.below w.member ∙ ap t w.rank ∙ e)
          ∙ sym (gather-place n S y k w)

  agree_spread : (v w : ℕ) → Agree (size n S) t v w → Agree n s (spread n S v) (spread n S w)
  agree_spread v w h j l e = bit-spread n S v j l ∙ go (S j) refl ∙ sym (bit-spread n S w j l)
    where
      go : (u : Bool) → S j ≡ u → (u && bit v (size j S)) ≡ (u && bit w (size j S))
      go true q = h (size j S) (size-lt n S j l q) (sym (m j l q) ∙ e)
      go false q = refl

module _ (n : ℕ) (F : ℕ → Bool) (S : ℕ → Bool) (sees : Sees n F S) (A B A' B' : ℕ → Bool) (m_a : Matches n S A A')
    (m_b : Matches n S B B') where
  m_d : Matches n S (reads_d A B) (reads_d A' B')
  m_d j l e = ap₂ (λ (a b : Bool). a || b) (m_a j l e) (m_b j l e)

  m_h : Matches n S (reads_h A B) (reads_h A' B')
  m_h j l e = ap₂ (λ (a b : Bool). b || not (a || b)) (m_a j l e) (m_b j l e)

  -- a split of the table over S is one of the whole table
  pub possible_whole : (r : ℕ) → Possible (size n S) (bit (table_over n S F)) A' B' r → Possible n F A B r
  possible_whole = possible_through n F A B (size n S) (bit (table_over n S F)) A' B' (gather n S)
      (agree_gather n S (reads_d A B) (reads_d A' B') m_d) (agree_gather n S (reads_h A B) (reads_h A' B') m_h)
      (λ x h. (gather-lt n S x, sym (over_gather n F S sees x h)))

  -- and the other way round
  pub possible_over : (r : ℕ) → Possible n F A B r → Possible (size n S) (bit (table_over n S F)) A' B' r
  possible_over = possible_through (size n S) (bit (table_over n S F)) A' B' n F A B (spread n S)
      (agree_spread n S (reads_d A B) (reads_d A' B') m_d) (agree_spread n S (reads_h A B) (reads_h A' B') m_h)
      (λ v h. (spread-lt n S v, over_at n S F v h))
