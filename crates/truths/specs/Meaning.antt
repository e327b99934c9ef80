-- What the variables of a certificate mean in a network, and when a clause is true.
use Rattle.std.specs.Prelude.{Bool, false, not, ◌&&◌, ◌||◌, List, [], ◌∷◌, ℕ, ◌+◌, ◌/◌, ◌%◌, leb, eqb}
use Rattle.std.specs.Bool.{beq}
use Rattle.bits.specs.Numbers.{bit, flipped}
use Rattle.bits.specs.Below.{every}
use Rattle.bits.specs.Sets.{size}
use Rattle.sheets.specs.Network.{Cell}
use Rattle.networks.specs.Signals.{does_read, values}
use Rattle.networks.specs.Swapping.{swappable}
use Rattle.clauses.specs.declared.variables.Variable.{Variable}
use Rattle.clauses.specs.declared.variables.Variable.TheVariants.{Reads, Many, Differ, Apart, Same}
use Rattle.clauses.specs.declared.variables.Literal.{Literal}
use Rattle.clauses.specs.declared.variables.Literal.TheVariants.{Said, Denied}

-- cell i gives different bits at the rows a and b
abbrev pub differs : ℕ → (ℕ → ℕ) → List Cell → ℕ → ℕ → ℕ → Bool
differs n row cs i a b = not (beq (values n cs (bit (row a)) (n + i)) (values n cs (bit (row b)) (n + i)))

-- each cell below i reads both or neither of p and q
abbrev pub read_alike : List Cell → ℕ → ℕ → ℕ → Bool
read_alike cs p q i = every i (λ j. beq (does_read cs j p) (does_read cs j q))

-- the variables, where F is the table
abbrev pub means : ℕ → (ℕ → Bool) → (ℕ → ℕ) → List Cell → Variable → Bool
means n F row cs (Reads i p) = does_read cs i p
means n F row cs (Many i p t) = leb t (size p (does_read cs i))
means n F row cs (Differ i a b) = differs n row cs i a b
means n F row cs (Apart i j a b) = does_read cs i (n + j) && differs n row cs j a b
means n F row cs (Same p q i) = swappable n F p q && read_alike cs p q i

-- a literal under values of the variables
abbrev pub is_true : (Variable → Bool) → Literal → Bool
is_true h (Said x) = h x
is_true h (Denied x) = not (h x)

-- a literal's number, 2 times its variable's or one more, under values of the variables' numbers
abbrev pub says : (ℕ → Bool) → ℕ → Bool
says τ l = flipped (eqb (l % 2) 1) (τ (l / 2))

-- a clause in numbers is true: one of its literals is
abbrev pub some_true : (ℕ → Bool) → List ℕ → Bool
some_true τ [] = false
some_true τ (l ∷ ls) = says τ l || some_true τ ls
