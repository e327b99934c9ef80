-- A call's lines of the table of refusals, in the order of their numbers, and the first of them that holds.
use Rattle.std.specs.Prelude.{◌≡◌, Bool, false, true, cond, List, [], ◌∷◌, ℕ, ◌<◌, length, get_or}
use Rattle.refusals.specs.Verdicts.{Refusal, Verdict, Fine, Refused}

-- the refusal with number k that names p
abbrev pub refusal : ℕ → ℕ → Refusal
refusal k p = record { number = k; place = p }

-- a line: whether what it says holds, and the refusal that is then given
pub record Line : Type 0 where
  pub holds : Bool
  pub gives : Refusal

-- the line with number k, which holds as the test says and then names p
abbrev pub naming : ℕ → ℕ → Bool → Line
naming k p test = record { holds = test; gives = refusal k p }

-- the line with number k that names nothing
abbrev pub line : ℕ → Bool → Line
line k test = naming k 0 test

-- the first line that holds decides; where none does, nothing is wrong
abbrev pub verdict : List Line → Verdict
verdict [] = Fine
verdict (l ∷ ls) = cond l.holds (Refused l.gives) (verdict ls)

-- none of these lines holds: what they look at is in order
abbrev pub InOrder : List Line → Type 0
InOrder [] = Unit {0}
InOrder (l ∷ ls) = (l.holds ≡ false) × InOrder ls

-- the paper's number of a verdict; 0 is done
abbrev pub number_of : Verdict → ℕ
number_of Fine = 0
number_of (Refused r) = r.number

-- what the verdict names besides, else 0
abbrev pub place_of : Verdict → ℕ
place_of Fine = 0
place_of (Refused r) = r.place

-- what a call returns and leaves: `done` where nothing is wrong, else what goes with the refusal
abbrev pub reply : {A : Type 0} → Verdict → A → (Refusal → A) → A
reply Fine done refused = done
reply (Refused r) done refused = refused r

-- line i of them
abbrev pub line_at : List Line → ℕ → Line
line_at ls i = get_or ls i (line 0 false)

-- the line with number k holds, and no earlier line does
pub record Given (k : ℕ) (ls : List Line) : Type 0 where
  pub at : ℕ
  pub within : at < length ls
  pub number : (line_at ls at).gives.number ≡ k
  pub holds : (line_at ls at).holds ≡ true
  pub earlier : (j : ℕ) → j < at → (line_at ls j).holds ≡ false
