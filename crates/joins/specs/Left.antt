-- What is left of a gate while the code fixes one input after the other.
use Rattle.std.specs.Prelude.{◌≡◌, ◌↔◌, Bool, true, false, cond, ◌||◌, ℕ, ◌+◌, ◌-◌, ◌*◌, ◌^◌, ◌<◌, ◌≤◌}
use Rattle.std.specs.Prelude.{Option, Some, None}
use Rattle.bits.specs.Numbers.{bit, val, number}
use Rattle.tables.specs.Depends.{DependsOn}
use Rattle.columns.specs.Reading.{Within}
use Rattle.trees.specs.Tree.{IsTree}
use Rattle.joins.specs.declared.pairs.Left.{Left}
use Rattle.joins.specs.declared.deciding.Partner.{Partner}
use Rattle.joins.specs.StandsFor.{StandsFor}

-- the assignment x with the fixed inputs as `at` has them
unfoldable pub with_fixed : ℕ → ℕ → ℕ → ℕ → ℕ
with_fixed n fixed at x = number n (λ p. cond (bit fixed p) (bit at p) (bit x p))

-- what is left of the gate F
abbrev pub gate_left : ℕ → (ℕ → Bool) → Left → ℕ → Bool
gate_left n F g x = F (with_fixed n g.fixed g.at x)

-- an input that is not fixed
abbrev pub Unfixed : ℕ → Left → ℕ → Type 0
Unfixed n g j = (j < n) × (bit g.fixed j ≡ false)

-- the masks and the values of what is fixed
pub record Fixing (n : ℕ) (g : Left) : Type 0 where
  pub below : g.fixed < 2 ^ n
  pub within : Within n g.fixed g.at

-- the decided input i is fixed at v
abbrev pub one_fixed : Left → ℕ → Bool → Left
one_fixed g i v = record {
  fixed = g.fixed + 2 ^ i;
  at = g.at + val v * 2 ^ i;
  decided = g.decided - 2 ^ i;
}

-- input j is decided too
abbrev pub one_decided : Left → ℕ → Left
one_decided g j = record { fixed = g.fixed; at = g.at; decided = g.decided + 2 ^ j }

-- how four columns are told apart, by a test of two of them: those where input i is 0, j being 0 (a) and 1 (b), and
-- those where it is 1 (c and d). The value of i at which there are all of them
abbrev pub value_by : (ℕ → ℕ → Bool) → ℕ → ℕ → ℕ → ℕ → Option Bool
value_by same a b c d =
    cond (same a b) (cond (same a c || same a d) (Some true) None)
    (cond (same d a || same d b) (cond (same c a || same c b) (Some false) None) None)

-- a value at which i can be fixed so that j stands for both, or that there is none
abbrev pub Valued : ℕ → (ℕ → Bool) → ℕ → ℕ → Option Bool → Type 0
Valued n G i j (Some v) = StandsFor n G i j v
Valued n G i j None = (u : Bool) → StandsFor n G i j u → ⊥

-- a decided input, and such a value
pub record Partners (n : ℕ) (G : ℕ → Bool) (decided j : ℕ) (p : Partner) : Type 0 where
  pub member : bit decided p.input ≡ true
  pub joins : StandsFor n G p.input j p.value

-- these, or that there are none
abbrev pub Partnered : ℕ → (ℕ → Bool) → ℕ → ℕ → Option Partner → Type 0
Partnered n G decided j (Some p) = Partners n G decided j p
Partnered n G decided j None = (i : ℕ) → bit decided i ≡ true → (u : Bool) → StandsFor n G i j u → ⊥

-- what is left is a tree exactly if F is; each input that is not fixed counts; and of the decided ones, which are not
-- fixed, none can stand for another
pub record Reduced (n : ℕ) (F : ℕ → Bool) (g : Left) : Type 0 where
  pub fixing : Fixing n g
  pub below : g.decided < 2 ^ n
  pub tree : IsTree n F ↔ IsTree n (gate_left n F g)
  pub counts : (j : ℕ) → Unfixed n g j → DependsOn n (gate_left n F g) j
  pub unfixed : (j : ℕ) → bit g.decided j ≡ true → Unfixed n g j
  pub apart : (i j : ℕ) → bit g.decided i ≡ true → bit g.decided j ≡ true → j < i → (v : Bool)
      → StandsFor n (gate_left n F g) i j v → ⊥

-- the decided inputs are those from j on that are not fixed
pub record DecidedFrom (n : ℕ) (g : Left) (j : ℕ) : Type 0 where
  pub all : (i : ℕ) → j ≤ i → Unfixed n g i → bit g.decided i ≡ true
  pub above : (i : ℕ) → bit g.decided i ≡ true → j ≤ i
