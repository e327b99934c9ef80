-- What the search keeps in mind.
use Rattle.std.specs.Prelude.{◌≡◌, Bool, true, false, List, [], ℕ, ◌+◌, ◌<◌, length, get_or}
use Rattle.std.specs.List.{All, Contains}
use Rattle.bits.specs.Numbers.{bit}
use Rattle.bits.specs.Sets.{size}
use Rattle.best.specs.Moves.{both}
use Rattle.witness.specs.Witness.{Inside, single, RulesOut}
use Rattle.known.specs.declared.notes.Note.{Note}
use Rattle.known.specs.declared.notes.Notes.{Notes}

-- a pair of masks, own and free, that rules out
abbrev pub Rules : ℕ → (ℕ → Bool) → ℕ → Note → Type 0
Rules n F m note = RulesOut n F m (bit note.own) (bit note.free)

-- each of the pairs does
pub record Learned (n : ℕ) (F : ℕ → Bool) (m : ℕ) (l : Notes) : Type 0 where
  pub each : All (Rules n F m) l.list

-- what was true of the pairs of masks stays true, of every table and every number of columns
abbrev pub StaysLearned : Notes → Notes → Type 0
StaysLearned l l' = (n m : ℕ) (F : ℕ → Bool) → Learned n F m l → Learned n F m l'

-- the mask P is inside `own`, and Q has no position of `both`
pub record Meets (P Q own both : ℕ) : Type 0 where
  pub inside : Inside (bit P) (bit own)
  pub outside : (j : ℕ) → bit Q j ≡ true → bit both j ≡ false

-- one of the pairs of masks does so
pub record Skips (l : Notes) (own both : ℕ) : Type 0 where
  pub note : Note
  pub kept : Contains l.list note
  pub meets : Meets note.own note.free own both

-- with P among the own inputs, no input of the mask can be free
abbrev pub Needs : ℕ → (ℕ → Bool) → ℕ → (ℕ → Bool) → ℕ → Type 0
Needs n F m P mask = (c : ℕ) → bit mask c ≡ true → RulesOut n F m P (single c)

-- what the table has of i and j
abbrev pub of_pair : List (List ℕ) → ℕ → ℕ → ℕ
of_pair l i j = get_or (get_or l i []) j 0

-- that is, inputs that cannot be free where i and j are own
pub record BadPairs (n : ℕ) (F : ℕ → Bool) (m : ℕ) (l : List (List ℕ)) : Type 0 where
  pub rows : length l ≡ 16
  pub row : (i : ℕ) → i < 16 → length (get_or l i []) ≡ 16
  pub each : (i j : ℕ) → i < 16 → j < 16 → Needs n F m (both i j) (of_pair l i j)

-- no position of the mask is own
abbrev pub Outside : ℕ → ℕ → Type 0
Outside mask own = (c : ℕ) → bit mask c ≡ true → bit own c ≡ false

-- with j and the mask acc among the own inputs: where no input of `need` can be free, none of `more` can
pub record Adds (l : List (List ℕ)) (acc j need more : ℕ) : Type 0 where
  pub needs : (n m : ℕ) (F P : ℕ → Bool) → BadPairs n F m l → Inside (bit acc) P → P j ≡ true
      → Needs n F m P need → Needs n F m P more

-- more inputs than k - 2 beside i and j are in the mask
pub record Dead (mask i j k : ℕ) : Type 0 where
  pub other : ℕ
  pub part : Inside (bit other) (bit mask)
  pub no_i : bit other i ≡ false
  pub no_j : bit other j ≡ false
  pub many : k < 2 + size 16 (bit other)

-- so of every two inputs that the table has a place for
abbrev pub AllDead : List (List ℕ) → ℕ → ℕ → Type 0
AllDead l n k = (i : ℕ) → i < n → i < 16 → (j : ℕ) → j < i → Dead (of_pair l i j) i j k
