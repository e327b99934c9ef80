-- The members of a set by their numbers, lowest first. Assumes nothing.
use mathlib.Core.Path.{◌≡◌, refl, sym, ap, ◌∙◌}
use mathlib.Core.Bool.{Bool, true, false}
use Prim.Native.Nat.{ℕ, ◌<◌, ◌≤◌}
use native.Mathlib.Omega.{arith}
use lib.ListN.{get_or}
use Rattle.bits.specs.Numbers.{val}
use Rattle.bits.specs.Sets.{size}
use Rattle.bits.proofs.Members.{Place, place}
use Rattle.chains.specs.Chain.{pick, inputs}
use Rattle.chains.proofs.Lists.{inputs_at}
use Rattle.chains.proofs.Picked.{pick_at}

-- two tests, the first of which implies the second
pub val-le : (s t : Bool) → (s ≡ true → t ≡ true) → val s ≤ val t
val-le true t h = omega (arith, ap val (h refl))
val-le false t h = omega arith

module _ (n : ℕ) (s : ℕ → Bool) where
  -- the position of member number q
  pub nth : ℕ → ℕ
  nth q = get_or (pick n s (inputs n)) q 0

  pub nth_rank : (p : ℕ) → p < n → s p ≡ true → nth (size p s) ≡ p
  unfolding nth
  nth_rank p h e = pick_at n s (inputs n) p h e ∙ inputs_at n p h

  nth_is : (q : ℕ) (w : Place n s q) → w.at ≡ nth q
  nth_is q w = sym (nth_rank w.at w.below w.member) ∙ ap nth w.rank

  pub nth_below : (q : ℕ) → q < size n s → nth q < n
  nth_below q h = let w = place n s q h in omega (arith, nth_is q w, w.below)

  pub nth_member : (q : ℕ) → q < size n s → s (nth q) ≡ true
  nth_member q h = let w = place n s q h in ap s (sym (nth_is q w)) ∙ w.member

  pub rank_nth : (q : ℕ) → q < size n s → size (nth q) s ≡ q
  rank_nth q h = let w = place n s q h in ap (λ (p : ℕ). size p s) (sym (nth_is q w)) ∙ w.rank

  -- two members with the same number are one
  pub rank_same : (i j : ℕ) → i < n → j < n → s i ≡ true → s j ≡ true → size i s ≡ size j s → i ≡ j
  rank_same i j h l p q e = sym (nth_rank i h p) ∙ ap nth e ∙ nth_rank j l q
