-- Bytes put into a lent room, and what writing a signal asks for.
use Rattle.std.specs.Prelude.{◌≡◌, Bool, List, ℕ, ◌+◌, ◌*◌, ◌<◌, ◌≤◌, length}
use Rattle.std.proofs.lemmas.List.Edits.{sets}
use Rattle.tables.specs.Table.{most_inputs}
use Rattle.sheets.specs.declared.kinds.Edition.{Edition}
use Rattle.sheets.specs.Edition.{IsEdition, most_records}
use Rattle.sheets.specs.Network.{Wired}
use Rattle.sheets.specs.Sheet.{records, sheet_cells}
use Rattle.printing.specs.Print.{flipped_text, printed}
use Rattle.printing.specs.Printable.{AllPlain}

-- the bytes w are put into the room at p, and q is the place after them; all other bytes stay
pub record Put (before : List ℕ) (p : ℕ) (w : List ℕ) (after : List ℕ) (q : ℕ) : Type 0 where
  pub bytes : after ≡ sets before p w
  pub next : q ≡ p + length w

-- a sheet whose cells can be written: plain ones, wired
pub record Writable (e : Edition) (n : ℕ) (s : List ℕ) : Type 0 where
  pub sound : IsEdition e
  pub inputs : n ≤ most_inputs
  pub most : records e s ≤ most_records
  pub long : e.size * records e s ≤ length s
  pub wired : Wired e.most n (sheet_cells e s (records e s))
  pub plain : AllPlain (sheet_cells e s (records e s))

-- signal x, flipped or not, has room at p
pub record Room (e : Edition) (n : ℕ) (s : List ℕ) (x : ℕ) (flip : Bool) (room : List ℕ) (p : ℕ) : Type 0 where
  pub sheet : Writable e n s
  pub signal : x < n + records e s
  pub fits : p + length (flipped_text flip (printed n (sheet_cells e s (records e s)) x)) ≤ length room
