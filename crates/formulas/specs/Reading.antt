-- How text is read, as a computation: the readers of factor, part, term and sum are one, by the level k.
use Rattle.std.specs.Prelude.{Bool, true, false, cond, List, ℕ, zero, suc, ◌+◌, ◌-◌, length, eqb, ltb}
use Rattle.values.specs.Formula.{Formula, letter, constant, negated, joined, value}
use Rattle.formulas.specs.Text.{mark, byte_at, most_levels, most_text, IsFormula, IsPlace}

-- what a byte is, where a factor is to begin
pub data Kind : Type 0 where
  bang : Kind
  opening : Kind
  digit : Bool → Kind
  input : ℕ → Kind
  other : Kind

-- which of these the byte b is, with n inputs
abbrev pub kind : ℕ → ℕ → Kind
kind n b =
    cond (eqb b 33) bang (cond (eqb b 40) opening (cond (eqb b 48) (digit false) (cond (eqb b 49) (digit true)
    (cond (ltb b 97) other (cond (ltb b (97 + n)) (input (b - 97)) other)))))

-- a formula with the place after it, or the place where the text can't be continued
pub data Reading : Type 0 where
  up_to : Formula → ℕ → Reading
  stuck : ℕ → Reading

-- go on after a formula, and stay where the text can't be continued
abbrev pub after : Reading → (Formula → ℕ → Reading) → Reading
after (up_to F q) f = f F q
after (stuck p) f = stuck p

-- one level down; with none left the place p is where it stops
abbrev pub deeper : ℕ → ℕ → (ℕ → Reading) → Reading
deeper zero p f = stuck p
deeper (suc d) p f = f d

-- `)` closes what was read up to q
abbrev pub closed : (ℕ → ℕ) → Formula → ℕ → Reading
closed c F q = cond (eqb (c q) 41) (up_to F (suc q)) (stuck q)

-- a factor, by its first byte: the factor after `!` and the sum after `(` are given by the levels that are left for
-- them
abbrev pub begun : Kind → ℕ → ℕ → (ℕ → Reading) → (ℕ → Reading) → (ℕ → ℕ) → Reading
begun bang d p factor sum c = deeper d p (λ e. after (factor e) (λ F q. up_to (negated F) q))
begun opening d p factor sum c = deeper d p (λ e. after (sum e) (closed c))
begun (digit t) d p factor sum c = up_to (constant t) (suc p)
begun (input j) d p factor sum c = up_to (letter j) (suc p)
begun other d p factor sum c = stuck p

-- F was read up to q: with the level's mark there the rest is joined to it
abbrev pub continued : ℕ → Bool → Formula → ℕ → (ℕ → Reading) → Reading
continued k true F q rest = after (rest (suc q)) (λ G r. up_to (joined k F G) r)
continued k false F q rest = up_to F q

-- the reader at level k, from place p, with d levels left; m bounds how deep the calls go
unfoldable pub reader : (ℕ → ℕ) → ℕ → ℕ → ℕ → ℕ → ℕ → Reading
reader c n zero k d p = stuck p
reader c n (suc m) zero d p =
    begun (kind n (c p)) d p (λ e. reader c n m 0 e (suc p)) (λ e. reader c n m 3 e (suc p)) c
reader c n (suc m) (suc k) d p =
    after (reader c n m k d p) (λ F q. continued k (eqb (c q) (mark k)) F q (λ r. reader c n m (suc k) d r))

-- ---- a text

-- a text is a formula, or refused at a place
pub data TextAnswer : Type 0 where
  formula : Formula → TextAnswer
  refused : ℕ → TextAnswer

-- a text of l bytes is a formula if the reading ends where it does
abbrev pub ended : ℕ → Reading → TextAnswer
ended l (up_to F q) = cond (eqb q l) (formula F) (refused q)
ended l (stuck p) = refused p

-- calls enough for the longest text: four for each byte, and four
abbrev pub enough : ℕ
enough = 4100

-- what the text is with n inputs; too long comes first, at its length
unfoldable pub text_of : ℕ → List ℕ → TextAnswer
text_of n s =
    cond (ltb most_text (length s)) (refused (length s)) (ended (length s) (reader (byte_at s) n enough 3 most_levels 0))

-- the values of a text; a text that is no formula has none, and counts as 0
abbrev pub value_in : TextAnswer → ℕ → Bool
value_in (formula F) x = value F x
value_in (refused p) x = false

-- what an answer claims of a text that is not too long
abbrev pub TextSays : ℕ → List ℕ → TextAnswer → Type 0
TextSays n s (formula F) = IsFormula n s F
TextSays n s (refused p) = IsPlace n s p
