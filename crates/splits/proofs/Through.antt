-- A split of G is one of F where F is G asked at f x, and f hands on what D and H see: D and H are those of G, asked
-- there. Assumes nothing.
use mathlib.Core.Path.{◌≡◌, ap, ◌∙◌}
use mathlib.Core.Bool.{Bool}
use Prim.Native.Nat.{ℕ, ◌+◌, ◌*◌, ◌^◌, ◌<◌}
use Rattle.bits.specs.Sets.{Agree, size, gather}
use Rattle.bits.proofs.Spreading.{gather_ext}
use Rattle.splits.specs.Split.{reads_d, reads_h, Possible}
use Rattle.splits.proofs.Respect.{possible_of}

module _ (n : ℕ) (F : ℕ → Bool) (A B : ℕ → Bool) (m : ℕ) (G : ℕ → Bool) (A' B' : ℕ → Bool) (f : ℕ → ℕ) where
  pub possible_through : ((x y : ℕ) → Agree n (reads_d A B) x y → Agree m (reads_d A' B') (f x) (f y))
      → ((x y : ℕ) → Agree n (reads_h A B) x y → Agree m (reads_h A' B') (f x) (f y))
      → ((x : ℕ) → x < 2 ^ n → (f x < 2 ^ m) × (F x ≡ G (f x))) → (r : ℕ) → Possible m G A' B' r → Possible n F A B r
  possible_through sees_d sees_h is r P =
      possible_of n F A B r
      (λ t x. P.D t (gather m (reads_d A' B') (f x)))
      (λ d x. P.H (gather m (reads_h A' B') (f x) + d * 2 ^ size m (reads_h A' B')))
      (λ t x y h. ap (P.D t) (gather_ext m (reads_d A' B') (f x) (f y) (sees_d x y h)))
      (λ d x y h. ap (λ (g : ℕ). P.H (g + d * 2 ^ size m (reads_h A' B')))
      (gather_ext m (reads_h A' B') (f x) (f y) (sees_h x y h)))
      (λ x h. (is x h).1 ∙ P.gives (f x) (is x h).0)
