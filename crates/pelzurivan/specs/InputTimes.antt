-- The inputs' times, as C hands them over.
use Rattle.std.specs.Prelude.{cond, List, ℕ, eqb, Float, get_or}
use Rattle.std.specs.Float.{nan}
use Rattle.bits.specs.Lists.{list_of}
use Rattle.tables.specs.Table.{most_inputs}
use Rattle.times.specs.declared.input_time.InputTime.{InputTime}
use Rattle.times.specs.declared.input_time.InputTime.TheVariants.{NotRead, Arrival, Between}
use Rattle.pelzurivan.specs.declared.input_times.TimesC.{TimesC}

-- kind 1 is one arrival, 2 an earliest and a latest, any other is not read
abbrev pub time_of_kind : ℕ → Float → Float → InputTime
time_of_kind kind first second = cond (eqb kind 1) (Arrival first) (cond (eqb kind 2) (Between first second) NotRead)

-- what is said of each of the 16 inputs
unfoldable pub times_from_c : TimesC → List InputTime
times_from_c c = list_of most_inputs (λ j. time_of_kind (get_or c.kind j 0) (get_or c.first j nan) (get_or c.second j nan))
