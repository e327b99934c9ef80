-- Show that no network of m or fewer cells carries a table, by a certificate.
use Rattle.std.specs.Prelude.{Bool, true, false, not, ◌&&◌, List, [], ◌∷◌, ◌++◌, ℕ, ◌+◌, ◌*◌, leb, ltb, length}
use Rattle.sheets.specs.declared.kinds.Edition.{Edition}
use Rattle.sheets.specs.Edition.{most_records, edition_of}
use Rattle.refusals.specs.Verdicts.{Verdict}
use Rattle.refuting.specs.Numbers.{of_cells, of_room, of_shown}
use Rattle.refusals.specs.Lines.{Line, line, naming, verdict}
use Rattle.refusals.specs.Refusals.{gate_lines, told_lines}
use Rattle.refusals.specs.Lent.{work_after}
use Rattle.clauses.specs.Variables.{variables}
use Rattle.clauses.specs.Step.{size_with, asked}
use Rattle.refuting.specs.Steps.{Shown, shown, not_shown, header_in_order, outcome_of}

-- 5: m outside 1 to 15
abbrev pub bad_cells : ℕ → Line
bad_cells m = line of_cells (not (leb 1 m && leb m most_records))

-- 6: the header is in order, and the work area is shorter than V + 2 times the certificate's length
abbrev pub short_area : ℕ → ℕ → ℕ → List ℕ → List ℕ → Line
short_area n K m c work =
    line of_room (header_in_order n c && ltb (length work) (variables (size_with n K m c) + 2 * length c))

abbrev pub is_not_shown : Shown → Bool
is_not_shown shown = false
is_not_shown (not_shown p) = true

abbrev pub place_in : Shown → ℕ
place_in shown = 0
place_in (not_shown p) = p

-- 22: the certificate doesn't show it; where it fails is named
abbrev pub does_not_show : ℕ → ℕ → ℕ → List ℕ → List ℕ → Line
does_not_show n K m t c =
    let s = outcome_of n (asked n K m t c) c in naming of_shown (place_in s) (is_not_shown s)

-- what is asked: 1 to 5
abbrev pub few_form : Edition → ℕ → ℕ → ℕ → List ℕ → List Line
few_form e n K m t = gate_lines e n K t ++ (bad_cells m ∷ [])

-- the certificate: 6 and 22
abbrev pub certificate_lines : ℕ → ℕ → ℕ → List ℕ → List ℕ → List ℕ → List Line
certificate_lines n K m t c work = short_area n K m c work ∷ does_not_show n K m t c ∷ []

-- both, in the edition e
abbrev pub few_in : Edition → ℕ → ℕ → ℕ → List ℕ → List ℕ → List ℕ → List Line
few_in e n K m t c work = few_form e n K m t ++ certificate_lines n K m t c work

-- the lines of the call: 1, 2 of the edition with the number w, and those
abbrev pub few_lines : ℕ → ℕ → ℕ → ℕ → List ℕ → List ℕ → List ℕ → List Line
few_lines w n K m t c work = told_lines w n (few_in (edition_of w) n K m t c work)

-- the verdict, and the work area afterwards
pub record FewOutcome : Type 0 where
  pub verdict : Verdict
  pub work : List ℕ

-- zeros after 0 and 22, else as it was
abbrev pub few_after : List ℕ → Verdict → FewOutcome
few_after work v = record { verdict = v; work = work_after v work }

-- what is to be returned and left, whatever is handed over
unfoldable pub too_few_outcome : ℕ → ℕ → ℕ → ℕ → List ℕ → List ℕ → List ℕ → FewOutcome
too_few_outcome w n K m t c work = few_after work (verdict (few_lines w n K m t c work))
