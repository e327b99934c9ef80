-- Keep the shorter of two sheets for one table.
use Rattle.std.specs.Prelude.{◌≡◌, ◌⊎◌, cond, List, [], ℕ, ◌≤◌, eqb, leb, Result, Ok, Err}
use Rattle.sheets.specs.declared.kinds.Edition.{Edition}
use Rattle.sheets.specs.Sheet.{records}
use Rattle.refusals.specs.Verdicts.{Verdict, Fine, Refused}
use Rattle.refusals.specs.declared.verdicts.Refusal.{Refusal as Why}
use Rattle.refusals.specs.Results.{refusal_of}
use Rattle.comparing.specs.declared.shorter.Which.{Which}
use Rattle.comparing.specs.declared.shorter.Which.TheVariants.{First, Second}
use Rattle.inspection.specs.CheckSheet.{check_own}

-- which of two sheets is kept (0 none, 1 the first, 2 the second), and the verdict of the call beside
pub record Kept : Type 0 where
  pub which : ℕ
  pub verdict : Verdict

-- which of two sheets is kept (0 none, 1 the first, 2 the second), and the verdict of the call beside, by what the
-- check says of each and by their numbers of records: of those accepted the one with fewer, the first on a tie
abbrev pub which_kept : Verdict → Verdict → ℕ → ℕ → Kept
which_kept Fine Fine i j = record { which = cond (leb i j) 1 2; verdict = Fine }
which_kept Fine (Refused s) i j = record { which = 1; verdict = Fine }
which_kept (Refused r) Fine i j = record { which = 2; verdict = Fine }
which_kept (Refused r) (Refused s) i j = record { which = 0; verdict = Refused r }

-- what a result says
abbrev pub kept_of : Result Which Why → Kept
kept_of (Ok First) = record { which = 1; verdict = Fine }
kept_of (Ok Second) = record { which = 2; verdict = Fine }
kept_of (Err why) = record { which = 0; verdict = Refused (refusal_of why) }

-- the same of two sheets x and y for the table t, each for its own desk, whatever is handed over
unfoldable pub kept_outcome : Edition → ℕ → List ℕ → List ℕ → List ℕ → Kept
kept_outcome e n t x y = which_kept (check_own e n t x) (check_own e n t y) (records e x) (records e y)

-- the bytes of the one named, and none where none is
abbrev pub part_of : ℕ → List ℕ → List ℕ → List ℕ
part_of which x y = cond (eqb which 1) x (cond (eqb which 2) y [])

-- what is handed back
abbrev pub shorter_outcome : Edition → ℕ → List ℕ → List ℕ → List ℕ → List ℕ
shorter_outcome e n t x y = part_of (kept_outcome e n t x y).which x y

-- in words, where one of the two is accepted: s is one of them, it is accepted, and no accepted one of them has fewer
-- records
pub record Shortest (e : Edition) (n : ℕ) (t x y s : List ℕ) : Type 0 where
  pub one : (s ≡ x) ⊎ (s ≡ y)
  pub accepted : check_own e n t s ≡ Fine
  pub fewest : (z : List ℕ) → (z ≡ x) ⊎ (z ≡ y) → check_own e n t z ≡ Fine → records e s ≤ records e z
