-- A length as an option, and back. Assumes nothing.
use mathlib.Core.Path.{◌≡◌, refl, ap}
use Prim.Native.Nat.{ℕ, zero, suc, ◌<◌}
use native.Mathlib.Omega.{arith}
use Rattle.std.specs.Prelude.{Some, None}
use Rattle.clauses.specs.Lengths.{some_length}

pub none_of : (n : ℕ) → n ≡ 0 → None ≡ some_length n
none_of zero e = refl
none_of (suc n) e = absurd (omega arith)

pub some_of : (n : ℕ) {k : ℕ} → k ≡ n → 0 < n → Some k ≡ some_length n
some_of zero e h = absurd (omega arith)
some_of (suc n) e h = ap Some e

pub is_none : (n : ℕ) → None ≡ some_length n → n ≡ 0
is_none zero e = refl
is_none (suc n) e = cc

pub is_some : (n : ℕ) {k : ℕ} → Some k ≡ some_length n → k ≡ n
is_some zero e = cc
is_some (suc n) e = cc

pub not_zero : (n : ℕ) {k : ℕ} → Some k ≡ some_length n → n ≡ 0 → ⊥
not_zero zero e h = cc
not_zero (suc n) e h = omega arith
