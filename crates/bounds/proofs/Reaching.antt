-- Cells that reach the inputs that count, and the least number of them: the division that rounds up. Assumes nothing.
use mathlib.Core.Path.{◌≡◌}
use mathlib.Core.Bool.{Bool}
use Prim.Native.Nat.{ℕ, suc, ◌+◌, ◌-◌, ◌*◌, ◌<◌, ◌≤◌}
use native.Mathlib.Nat.{div-add-mod', div-lt_iff_lt-mul, mod-lt, mul-le-mul_right, suc-mul}
use native.Mathlib.Decide.{dec_lt}
use native.Mathlib.Omega.{arith}
use Rattle.bits.specs.Numbers.{bit}
use Rattle.tables.specs.Counting.{support}
use Rattle.tables.proofs.Depending.{support_counting}
use Rattle.sheets.specs.Network.{Carries}
use Rattle.fewest.proofs.Reach.{reach}
use Rattle.bounds.specs.Bound.{counted, Reaching}
use Rattle.bounds.specs.Least.{reaching}

-- m cells that carry a table reach the inputs that count
pub reached : (n K m : ℕ) (F : ℕ → Bool) → Carries n K m F → counted n F ≤ m * (K - 1) + 1
reached n K m F C = reach n K m F (bit (support n F)) (support_counting n F) C

pub reaching-least : (c K : ℕ) → 2 ≤ K → K < c → Reaching c K (reaching c K)
reaching-least c K two h = record {
  enough = omega (arith, div-add-mod' (c + K - 3) (K - 1), mod-lt (c + K - 3) positive);
  least = λ k l. let small = (div-lt_iff_lt-mul {k = K - 1} {x = c + K - 3} {y = suc k} positive).1
      (omega (arith, suc-mul k (K - 1))) in omega arith;
}
  where
    positive : 0 < K - 1
    positive = omega arith

-- there is one such number
pub reaching-once : {c K k m : ℕ} → Reaching c K k → Reaching c K m → k ≡ m
reaching-once {c} {K} {k} {m} r s = omega (arith, r.least m s.enough, s.least k r.enough)

-- m cells less one do not reach c inputs that k cells reach: k is no less
pub reaching_most : (c K k m : ℕ) → c ≤ k * (K - 1) + 1 → (m - 1) * (K - 1) + 1 < c → m ≤ k
reaching_most c K k m h l = elim (dec_lt k m) [
  | yes g ↦ let e : k ≤ m - 1 = omega arith in absurd (omega (arith, mul-le-mul_right (K - 1) e))
  | no g ↦ omega arith
]
