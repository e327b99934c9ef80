-- What was learned stays true of the table, and rules out the pair of masks that it meets. Assumes nothing.
use mathlib.Core.Path.{◌≡◌, subst}
use mathlib.Core.Bool.{Bool, true, false}
use mathlib.Core.List.{List}
use Prim.Native.Nat.{ℕ, ◌^◌}
use lib.Bits.{bit_or}
use Rattle.bits.specs.Numbers.{bit}
use Rattle.bits.specs.Sets.{Apart}
use Rattle.tables.specs.Table.{table_bit}
use Rattle.splits.specs.Columns.{few_columns}
use Rattle.known.specs.declared.notes.Note.{Note}
use Rattle.known.specs.declared.notes.Notes.{Notes}
use Rattle.known.specs.Notes.{Rules, Learned, StaysLearned, Meets}
use Rattle.known.proofs.Keeping.{meets_fails}
use Rattle.walks.specs.Known.{Known}

module _ {n r : ℕ} {t : List ℕ} {notes left : Notes} (w : Known n r t notes) where
  -- only the notes have changed, and they say what is true
  known_left : Learned n (table_bit t) (2 ^ r) left → Known n r t left
  known_left l = record { most = w.most; first = w.first; long = w.long; learned = l }

  pub still_known : StaysLearned notes left → Known n r t left
  still_known keeps = known_left (keeps n (2 ^ r) (table_bit t) w.learned)

  -- what rules out p own and q free was kept; where it meets the pair of masks, the pair is none
  pub learned_one : (m : ℕ) (note : Note) (own shared : ℕ) (met : Bool) → m ≡ 2 ^ r → Rules n (table_bit t) m note
      → ((n m : ℕ) (F : ℕ → Bool) → Learned n F m notes → Rules n F m note → Learned n F m left)
      → Apart n (bit own) (bit shared) → (met ≡ true → Meets note.own note.free own (bit_or own shared))
      → (met ≡ true → few_columns n (table_bit t) (bit own) (bit shared) (2 ^ r) ≡ false) × Known n r t left
  learned_one m note own shared met e shown kept apart meets =
      let F = table_bit t in
      let rules = subst (λ (k : ℕ). Rules n F k note) e shown in (
        λ f. meets_fails note.own note.free own shared rules (meets f) apart,
        known_left (kept n (2 ^ r) F w.learned rules),
      )
