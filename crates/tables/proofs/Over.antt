-- The table over a set that the whole table sees alone: it gives the whole table back, and depends on each of its
-- inputs where all members count. Assumes nothing.
use mathlib.Core.Path.{◌≡◌, sym, ap, ◌∙◌}
use mathlib.Core.Bool.{Bool, true}
use Prim.Native.Nat.{ℕ, ◌^◌, ◌<◌}
use Rattle.bits.specs.Numbers.{bit, number}
use Rattle.bits.specs.Sets.{size, gather, spread}
use Rattle.bits.proofs.Numbers.{bit-number, number_lt, number_ext}
use Rattle.bits.proofs.Spreading.{gather-lt, spread-lt, spread-gather}
use Rattle.bits.proofs.Members.{Place, place, gather-place, size_full, spread_full}
use Rattle.tables.specs.Depends.{DependsOn}
use Rattle.tables.specs.Counting.{Counting, AllCount, Sees, table_over}

pub over_at : (n : ℕ) (S F : ℕ → Bool) (v : ℕ) → v < 2 ^ size n S → bit (table_over n S F) v ≡ F (spread n S v)
unfolding table_over
over_at n S F v h = bit-number (2 ^ size n S) (λ v. F (spread n S v)) v h

pub over_lt : (n : ℕ) (S F : ℕ → Bool) → table_over n S F < 2 ^ (2 ^ size n S)
unfolding table_over
over_lt n S F = number_lt (2 ^ size n S) (λ v. F (spread n S v))

pub over_ext : (n : ℕ) (S F G : ℕ → Bool) → ((x : ℕ) → x < 2 ^ n → F x ≡ G x) → table_over n S F ≡ table_over n S G
unfolding table_over
over_ext n S F G same = number_ext (2 ^ size n S) (λ v. F (spread n S v)) (λ v. G (spread n S v))
    (λ v _. same (spread n S v) (spread-lt n S v))

-- over all inputs it is the table itself
pub over_full : (n : ℕ) (S F : ℕ → Bool) → ((j : ℕ) → j < n → S j ≡ true) → table_over n S F ≡ number (2 ^ n) F
unfolding table_over
over_full n S F all =
    ap (λ (c : ℕ). number (2 ^ c) (λ v. F (spread n S v))) (size_full n S all)
    ∙ number_ext (2 ^ n) (λ v. F (spread n S v)) F (λ v b. ap F (spread_full n S all v b))

module _ (n : ℕ) (F : ℕ → Bool) (S : ℕ → Bool) (sees : Sees n F S) where
  abbrev c : ℕ
  c = size n S

  abbrev G : ℕ → Bool
  G = bit (table_over n S F)

  -- the table does not change when the inputs outside S are cleared
  pub cleared : (x : ℕ) → x < 2 ^ n → F (spread n S (gather n S x)) ≡ F x
  cleared x h = sees (spread n S (gather n S x)) x (spread-lt n S (gather n S x)) h (spread-gather n S x)

  pub over_gather : (x : ℕ) → x < 2 ^ n → G (gather n S x) ≡ F x
  over_gather x h = over_at n S F (gather n S x) (gather-lt n S x) ∙ cleared x h

  -- where every member counts, the table over them depends on each of its inputs
  pub over_counts : Counting n F S → AllCount c G
  over_counts counting k h = go (place n S k h)
    where
      go : Place n S k → DependsOn c G k
      go w = from (counting w.at w.below w.member)
        where
          from : DependsOn n F w.at → DependsOn c G k
          from d = record {
            x = gather n S d.x;
            y = gather n S d.y;
            below_x = gather-lt n S d.x;
            below_y = gather-lt n S d.y;
            alike = λ i l ne. other i ne (place n S i l);
            differ = λ q. d.differ (sym (over_gather d.x d.below_x) ∙ q ∙ over_gather d.y d.below_y);
          }
            where
              other : (i : ℕ) → (i ≡ k → ⊥) → Place n S i → bit (gather n S d.x) i ≡ bit (gather n S d.y) i
              other i ne u =
                  gather-place n S d.x i u
                  ∙ d.alike u.at u.below (λ e. ne (sym u.rank ∙ ap (λ (j : ℕ). size j S) e ∙ w.rank))
                  ∙ sym (gather-place n S d.y i u)
