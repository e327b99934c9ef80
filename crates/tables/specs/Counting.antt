-- The inputs that count, and the table over some of the inputs.
use Rattle.std.specs.Prelude.{◌≡◌, Bool, true, cond, not, ◌||◌, ℕ, ◌+◌, ◌^◌, ◌<◌, ◌≤◌, eqb}
use Rattle.std.specs.Bool.{beq}
use Rattle.bits.specs.Numbers.{bit, number}
use Rattle.bits.specs.Sets.{Agree, size, spread}
use Rattle.bits.specs.Below.{every}
use Rattle.tables.specs.declared.counting.CountingInputs.{CountingInputs}
use Rattle.tables.specs.Depends.{DependsOn}

-- ---- what counts, said by `DependsOn`

-- every member of s counts
abbrev pub Counting : ℕ → (ℕ → Bool) → (ℕ → Bool) → Type 0
Counting n F s = (j : ℕ) → j < n → s j ≡ true → DependsOn n F j

-- every input counts
abbrev pub AllCount : ℕ → (ℕ → Bool) → Type 0
AllCount n F = (j : ℕ) → j < n → DependsOn n F j

-- x and y are alike but for input j
abbrev pub AlikeBut : ℕ → ℕ → ℕ → ℕ → Type 0
AlikeBut n j x y = (i : ℕ) → i < n → (i ≡ j → ⊥) → bit x i ≡ bit y i

-- F takes no notice of input j
abbrev pub Ignores : ℕ → (ℕ → Bool) → ℕ → Type 0
Ignores n F j = (x y : ℕ) → x < 2 ^ n → y < 2 ^ n → AlikeBut n j x y → F x ≡ F y

-- F sees the members of s alone
abbrev pub Sees : ℕ → (ℕ → Bool) → (ℕ → Bool) → Type 0
Sees n F s = (x y : ℕ) → x < 2 ^ n → y < 2 ^ n → Agree n s x y → F x ≡ F y

-- ---- the same as tests and masks

-- whether input j counts: at some assignment the bit changes when input j is set
unfoldable pub counts : ℕ → (ℕ → Bool) → ℕ → Bool
counts n F j = not (every (2 ^ n) (λ x. bit x j || beq (F x) (F (x + 2 ^ j))))

-- the inputs that count
unfoldable pub support : ℕ → (ℕ → Bool) → ℕ
support n F = number n (counts n F)

-- that mask, and how many inputs count, as the code holds them
pub record CountingIn (n : ℕ) (F : ℕ → Bool) (c : CountingInputs) : Type 0 where
  pub is : c.mask ≡ support n F
  pub below : c.mask < 2 ^ n
  pub count : c.many ≡ size n (bit (support n F))
  pub few : c.many ≤ n

-- the inputs that are kept when the others are set aside: those that count, and input 0 where none does
unfoldable pub kept : ℕ → (ℕ → Bool) → ℕ
kept n F = let s = support n F in cond (eqb s 0) 1 s

-- the table over the members of s, the other inputs fixed at 0
unfoldable pub table_over : ℕ → (ℕ → Bool) → (ℕ → Bool) → ℕ
table_over n s F = number (2 ^ size n s) (λ v. F (spread n s v))
