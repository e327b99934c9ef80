use Rattle.std.proofs.Common.{◌≡◌, ℕ, ◌-◌, ◌*◌, ◌^◌, ◌<◌, false}
use Rattle.runs.specs.Checking.{differs}
use Rattle.runs.proofs.checking.first_difference.Given as goal

abbrev pub invariant-loop-w : goal.invariant-loop-w
invariant-loop-w l =
    (l.words ≡ 2 ^ (l.n - 6)) × ((x : ℕ) → x < 64 * l.w → x < 2 ^ l.n → differs l.e l.n l.s l.m l.t x ≡ false)
