-- A loop over all the numbers that a mask spreads, in increasing order: at turn v the number at hand is v spread. Its
-- step is that of `next`. Assumes nothing.
use mathlib.Core.Path.{◌≡◌, sym, ap, ◌∙◌}
use Prim.Native.Nat.{ℕ, ◌+◌, ◌^◌, ◌<◌, ◌≤◌}
use native.Mathlib.Omega.{arith}
use Rattle.bits.specs.Numbers.{bit}
use Rattle.bits.specs.Sets.{mask_width, size, gather, spread}
use Rattle.bits.proofs.Masks.{mask_most}
use Rattle.bits.proofs.Sizes.{size-le}
use Rattle.bits.proofs.Spreading.{spread-zero, spread-lt, gather-spread}

pub record Walked (n m many s v : ℕ) : Type 0 where
  pub all : many ≡ 2 ^ size n (bit m)
  pub few : many ≤ 2 ^ mask_width
  pub upto : v ≤ many
  pub at : s ≡ spread n (bit m) v

pub walked_none : {n m many : ℕ} → n ≤ mask_width → many ≡ 2 ^ size n (bit m) → Walked n m many 0 0
walked_none {n} {m} {many} most e = record { all = e; few = few; upto = omega arith; at = sym (spread-zero n (bit m)) }
  where
    few : many ≤ 2 ^ mask_width
    few = omega (arith, e, mask_most {n = size n (bit m)} (omega (arith, size-le n (bit m))))

module _ {n m many s v : ℕ} (w : Walked n m many s v) where
  pub walked_lt : s < 2 ^ n
  walked_lt = omega (arith, w.at, spread-lt n (bit m) v)

  pub walked_end : many ≤ v → v ≡ 2 ^ size n (bit m)
  walked_end h = omega (arith, w.all, w.upto)

  module _ (l : v < many) where
    pub walked_more : {s' : ℕ} → ((u : ℕ) → s ≡ spread n (bit m) u → s' ≡ spread n (bit m) (u + 1))
        → Walked n m many s' (v + 1)
    walked_more step = record { all = w.all; few = w.few; upto = omega arith; at = step v w.at }

    pub walked_turn : v < 2 ^ size n (bit m)
    walked_turn = omega (arith, w.all)

    -- it has bits at the members alone, and they make v
    pub walked_gather : gather n (bit m) s ≡ v
    walked_gather = ap (gather n (bit m)) w.at ∙ gather-spread n (bit m) v walked_turn

    pub walked_within : s ≡ spread n (bit m) (gather n (bit m) s)
    walked_within = w.at ∙ ap (spread n (bit m)) (sym walked_gather)
