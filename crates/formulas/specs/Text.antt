-- Which text stands for which formula, and where a text that stands for none can't be continued.
use Rattle.std.specs.Prelude.{◌≡◌, ◌⊎◌, true, false, List, ◌++◌, ℕ, zero, suc, ◌+◌, ◌<◌, ◌≤◌, length, take}
pub use Rattle.bits.specs.Lists.{byte_at}
use Rattle.values.specs.Formula.{Formula, letter, constant, negated, joined}

-- the byte between two that are joined at a level: `&`, `^`, `|`
abbrev pub mark : ℕ → ℕ
mark zero = 38
mark (suc zero) = 94
mark (suc (suc k)) = 124

-- `Spells c n k d F p q`: the bytes c p, .., c (q - 1) stand for F, with the letters of n inputs and at most d levels
-- of nesting, as a factor (k = 0), a part (1), a term (2) or a sum (3). A factor is a letter, `0`, `1`, `!` before a
-- factor, or a sum between `(` and `)`; a part is factors joined by `&`, a term parts by `^`, a sum terms by `|`.
pub data Spells (c : ℕ → ℕ) (n : ℕ) : ℕ → ℕ → Formula → ℕ → ℕ → Type 0 where
  a_letter : {d p : ℕ} (j : ℕ) → j < n → c p ≡ 97 + j → Spells c n 0 d (letter j) p (suc p)
  a_zero : {d p : ℕ} → c p ≡ 48 → Spells c n 0 d (constant false) p (suc p)
  a_one : {d p : ℕ} → c p ≡ 49 → Spells c n 0 d (constant true) p (suc p)
  a_not : {d p q : ℕ} {F : Formula} → c p ≡ 33 → Spells c n 0 d F (suc p) q → Spells c n 0 (suc d) (negated F) p q
  a_nest : {d p q : ℕ} {F : Formula} → c p ≡ 40 → Spells c n 3 d F (suc p) q → c q ≡ 41
      → Spells c n 0 (suc d) F p (suc q)
  only : {k d p q : ℕ} {F : Formula} → Spells c n k d F p q → Spells c n (suc k) d F p q
  more : {k d p q r : ℕ} {F G : Formula} → Spells c n k d F p q → c q ≡ mark k → Spells c n (suc k) d G (suc q) r
      → Spells c n (suc k) d (joined k F G) p r

-- nesting, `!` and parentheses counted together, goes to 32
abbrev pub most_levels : ℕ
most_levels = 32

-- a text has at most 1,024 bytes
abbrev pub most_text : ℕ
most_text = 1024

-- the whole text s stands for the formula F of n inputs: a sum within the levels
abbrev pub IsFormula : ℕ → List ℕ → Formula → Type 0
IsFormula n s F = Spells (byte_at s) n 3 most_levels F 0 (length s)

-- p is the first place at which the text can't be continued: what stands before it can be continued to a formula, and
-- with the byte there it can't any more; at the text's end, the text stands for none as it is. A letter beyond n and
-- the level beyond the most are such bytes.
pub record IsPlace (n : ℕ) (s : List ℕ) (p : ℕ) : Type 0 where
  pub within : p ≤ length s
  pub before : (u : List ℕ) × (F : Formula) × IsFormula n (take p s ++ u) F
  pub there : p < length s → (u : List ℕ) (F : Formula) → IsFormula n (take (suc p) s ++ u) F → ⊥
  pub whole : p ≡ length s → (F : Formula) → IsFormula n s F → ⊥

-- the text is read as F: it is not too long, and stands for F
pub record ReadAs (n : ℕ) (s : List ℕ) (F : Formula) : Type 0 where
  pub short : length s ≤ most_text
  pub stands : IsFormula n s F

-- what a refusal of the text names: its length where it is too long, else the first place at which it can't be
-- continued
abbrev pub RefusedAt : ℕ → List ℕ → ℕ → Type 0
RefusedAt n s p = ((most_text < length s) × (p ≡ length s)) ⊎ ((length s ≤ most_text) × IsPlace n s p)
