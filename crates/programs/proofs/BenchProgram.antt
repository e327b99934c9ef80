-- The bench program asks make what its input asks, and hands over make's outcome with the number in front.
-- Assumes nothing.
use Rattle.std.proofs.Common.{Result}
use Rattle.std.specs.Result.{result_unwrap_or}
use mathlib.Core.Path.{◌≡◌, sym, ap, ap₂, ◌∙◌, subst}
use mathlib.Core.List.{List, ◌∷◌, append-nil}
use Prim.Native.Nat.{ℕ, ◌+◌, ◌-◌, ◌*◌, ◌≤◌}
use native.Mathlib.Omega.{arith}
use lib.ListN.{length, get_or, drop, set, replicate, length-append, length-drop}
use lib.Seq.{take_all}
use borrow.Rule.Slice.PartMut.{put_mid, mid_of}
use Rattle.sheets.specs.declared.kinds.Edition.{Edition}
use Rattle.sheets.specs.Edition.{record_size, first_edition}
use Rattle.sheets.specs.Network.{Cell}
use Rattle.sheets.specs.Writing.{sheet_bytes}
use Rattle.sheets.proofs.Wholes.{length-sheet}
use Rattle.tables.specs.Work.{work_length}
use Rattle.refusals.specs.Verdicts.{Verdict, Fine, Refused}
use Rattle.refusals.specs.declared.verdicts.Refusal.{Refusal as Why}
use Rattle.refusals.specs.Lent.{into}
use Rattle.refusals.specs.Lines.{verdict, number_of, reply}
use Rattle.refusals.specs.Results.{verdict_of}
use Rattle.bench.specs.MakeSheet.{MakeOutcome, sheet_for, cells_in, make_answer, make_lines, make_done, make_not, make_outcome}
use Rattle.bench.proofs.Made.{made_says, made_counts}
use Rattle.programs.specs.BenchProgram.{most_written, asked, ProgramOutcome, shown, program_outcome}

-- ---- the records made stand in the room for the sheet, so what is to be written stands in the room handed over

-- a room that some bytes begin is as long as they are
pub long_enough : (bytes room : List ℕ) → length bytes ≤ length (into bytes room)
long_enough bytes room = omega (arith, length-append bytes (drop (length bytes) room))

abbrev Fit : Edition → MakeOutcome → Type 0
Fit e o = e.size * o.answer.count ≤ length o.sheet

fit : (e : Edition) (d : ℕ) (cs : List Cell) (sheet work : List ℕ) (v : Verdict)
    → Fit e (reply v (make_done e d cs sheet work) (make_not sheet work))
fit e d cs sheet work Fine = omega (arith, length-sheet e d cs, long_enough (sheet_bytes e d cs) sheet)
fit e d cs sheet work (Refused r) = omega arith

make_fits : (e : Edition) (d n K : ℕ) (t sheet work : List ℕ) → Fit e (make_outcome e d n K t sheet work)
unfolding make_outcome
make_fits e d n K t sheet work =
    fit e d (cells_in (sheet_for n K t)) sheet work (verdict (make_lines e d n K t sheet work))

pub within : {count : ℕ} {out work : List ℕ} (input : List ℕ)
    → record { count = count; out = out; work = work } ≡ program_outcome input → count ≤ length out
unfolding asked
within input q =
    let f : Fit first_edition (asked input) = make_fits first_edition 0 _ _ _ _ _ in
    subst (λ (o : ProgramOutcome). o.count ≤ length o.out) (sym q) (omega arith)

-- ---- both rooms cleared, make asked what the input asks, and its number stored in front of the part that it was lent

-- a part from a on to the end
pub rest : (a : ℕ) (xs : List ℕ) → mid_of a (length xs - a) xs ≡ drop a xs
rest a xs = take_all (length xs - a) (drop a xs) (omega (arith, length-drop a xs))

module _ (input out work o w ys ws : List ℕ) (n k start number count : ℕ) (made : Result ℕ Why)
    (long : length out ≡ most_written) (area : length work ≡ work_length)
    (cleared : o ≡ replicate (length out) 0) (blank : w ≡ replicate (length work) 0)
    (inputs : n ≡ get_or input 0 0) (cell : k ≡ get_or input 1 0) (table : drop start input ≡ drop 2 input) where
  front : set (put_mid 1 (length o - 1) o ys) 0 number ≡ number ∷ ys
  front = rw (cleared, long) (ap (λ (l : List ℕ). number ∷ l) (append-nil ys))

  same_question : make_outcome first_edition 0 n k (mid_of start (length input - start) input) (mid_of 1 (length o - 1) o) w
      ≡ asked input
  unfolding asked
  same_question = rw (inputs, cell, rest start input, table, cleared, long, blank, area)

  pub handed : record { answer = make_answer made; sheet = ys; work = ws }
      ≡ make_outcome first_edition 0 n k (mid_of start (length input - start) input) (mid_of 1 (length o - 1) o) w
      → number ≡ number_of (verdict_of made) → count ≡ result_unwrap_or made 0
      → record { count = 1 + record_size * count; out = set (put_mid 1 (length o - 1) o ys) 0 number; work = ws }
      ≡ program_outcome input
  handed answered v q =
      ap₂ (λ (m : ℕ) (l : List ℕ). record { count = 1 + record_size * m; out = l; work = ws })
      (q ∙ sym (made_counts made)) (front ∙ ap (λ (a : ℕ). a ∷ ys) (v ∙ ap number_of (sym (made_says made))))
      ∙ ap shown (answered ∙ same_question)
