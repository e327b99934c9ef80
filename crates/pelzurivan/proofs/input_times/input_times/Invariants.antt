use mathlib.Core.Path.{◌≡◌}
use Prim.Native.Nat.{ℕ, ◌<◌}
use lib.Ieee.{nan}
use lib.ListN.{length, get_or}
use Rattle.tables.specs.Table.{most_inputs}
use Rattle.times.specs.declared.input_time.InputTime.{InputTime}
use Rattle.times.specs.declared.input_time.InputTime.TheVariants.{NotRead}
use Rattle.pelzurivan.specs.declared.input_times.TimesC.{TimesC}
use Rattle.pelzurivan.specs.InputTimes.{time_of_kind}
use Rattle.pelzurivan.proofs.input_times.input_times.Given as goal

-- what is said of input j
abbrev pub said : TimesC → ℕ → InputTime
said c j = time_of_kind (get_or c.kind j 0) (get_or c.first j nan) (get_or c.second j nan)

abbrev pub invariant-loop-j : goal.invariant-loop-j
invariant-loop-j l =
    (length l.time-items ≡ most_inputs)
    × ((i : ℕ) → i < l.j → said l.c i ≡ get_or l.time-items i NotRead)
