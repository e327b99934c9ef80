-- The output's time is the best along all paths, the latest or the earliest, for any kind of time with an order that a
-- delay keeps. Assumes nothing.
use mathlib.Core.Path.{◌≡◌, refl}
use mathlib.Core.Logic.{◌⊎◌, inl, inr}
use mathlib.Core.Bool.{Bool, true, false, cond}
use mathlib.Core.List.{List}
use Prim.Native.Nat.{ℕ, ◌≤◌}
use lib.ListN.{length}
use Rattle.sheets.specs.Network.{Cell}
use Rattle.times.specs.Signals.{keep_by, output_time}
use Rattle.paths.specs.Paths.{BestPath, beyond_by}
use Rattle.paths.proofs.Along.{Fed, best_path}

-- the order on the times that satisfy P, and a test of it
module _ {A : Type 0} (less : A → A → Bool) (◌≼◌ : A → A → Type 0) (P : A → Type 0)
    (same : (x : A) → P x → ◌≼◌ x x)
    (through : (x y z : A) → P x → P y → P z → ◌≼◌ x y → ◌≼◌ y z → ◌≼◌ x z)
    (below : (x y : A) → less x y ≡ true → ◌≼◌ x y)
    (above : (x y : A) → P x → P y → less x y ≡ false → ◌≼◌ y x) where
  infixl 20 ◌≼◌
  -- of two times one is kept
  either : (late : Bool) (x y : A) → (keep_by less late x y ≡ x) ⊎ (keep_by less late x y ≡ y)
  either late x y = go late
    where
      one : (b : Bool) → (cond b y x ≡ x) ⊎ (cond b y x ≡ y)
      one true = inr refl
      one false = inl refl

      go : (late : Bool) → (keep_by less late x y ≡ x) ⊎ (keep_by less late x y ≡ y)
      go true = one (less x y)
      go false = one (less y x)

  -- and it is beyond both
  both : (late : Bool) (x y : A) → P x → P y → beyond_by ◌≼◌ late (keep_by less late x y) x
      × beyond_by ◌≼◌ late (keep_by less late x y) y
  both true x y p q = go (less x y) refl
    where
      go : (b : Bool) → less x y ≡ b → (x ≼ cond b y x) × (y ≼ cond b y x)
      go true h = (below x y h, same y q)
      go false h = (same x p, above x y p q h)
  both false x y p q = go (less y x) refl
    where
      go : (b : Bool) → less y x ≡ b → (cond b y x ≼ x) × (cond b y x ≼ y)
      go true h = (below y x h, same y q)
      go false h = (same x p, above y x q p h)

  -- the greatest (late), or the least, over all paths
  module _ (after : A → A) (good : (x : A) → P x → P (after x))
      (mono : (x y : A) → P x → P y → x ≼ y → after x ≼ after y)
      (n : ℕ) (cs : List Cell) (v : ℕ → A) (fed : Fed n cs) (g : (t : ℕ) → P (v t)) (o : A) (some : 1 ≤ length cs) where
    pub ordered_path : (late : Bool) → BestPath (beyond_by ◌≼◌ late) after n cs v
        (output_time (keep_by less late) after o n cs v)
    ordered_path true =
        best_path (keep_by less true) after (beyond_by ◌≼◌ true) P same (λ x y z p q r h k. through z y x r q p k h)
        (either true) (λ x y p q. (both true x y p q).0) (λ x y p q. (both true x y p q).1) good
        (λ x y p q. mono y x q p) n cs v fed g o some
    ordered_path false =
        best_path (keep_by less false) after (beyond_by ◌≼◌ false) P same through
        (either false) (λ x y p q. (both false x y p q).0) (λ x y p q. (both false x y p q).1) good
        mono n cs v fed g o some
