-- The chart of a split's columns has room for them, and its limit is 2 ^ r as the code makes it. Assumes nothing.
use mathlib.Core.Path.{◌≡◌, sym, subst}
use mathlib.Core.Bool.{Bool}
use mathlib.Core.List.{List}
use Prim.Native.Nat.{ℕ, ◌+◌, ◌*◌, ◌%◌, ◌^◌, ◌≤◌}
use native.Mathlib.Omega.{arith}
use lib.Pow.{pow-add, pow_mono}
use Rattle.bits.specs.Numbers.{bit}
use Rattle.bits.specs.Sets.{size}
use Rattle.bits.proofs.Machine.{shl_one}
use Rattle.columns.specs.declared.split.Split.{Split}
use Rattle.splits.specs.Columns.{most_first}
use Rattle.columns.specs.Reading.{Chart, chart_room}
use Rattle.best.specs.Best.{Candidate}
use Rattle.sheets.specs.Edition.{largest_cell}

-- r and the shared inputs make fewer than the cell has
pub chart-room : {n r A B m : ℕ} → Candidate n largest_cell r A B → 2 ^ r ≡ m → m * 2 ^ size n (bit B) ≤ chart_room
chart-room {n} {r} {A} {B} k e =
    subst (λ (m : ℕ). m * 2 ^ size n (bit B) ≤ chart_room) e
    (omega (
      arith,
      pow-add 2 r (size n (bit B)),
      pow_mono {i = r + size n (bit B)} {j = 7}
          (omega (arith, k.more, k.most)),
    ))

-- the limit as the code makes it
pub power : {r : ℕ} → r ≤ most_first → 2 ^ r ≡ 1 * 2 ^ r % 2 ^ 64
power {r} h = sym (shl_one 64 r (omega arith))

pub charted : {s : Split} {F : ℕ → Bool} {r : ℕ} {seen : List ℕ} → r ≤ most_first → Chart s F (1 * 2 ^ r % 2 ^ 64) seen
    → Chart s F (2 ^ r) seen
charted {s} {F} {r} {seen} h w = subst (λ (m : ℕ). Chart s F m seen) (sym (power h)) w
