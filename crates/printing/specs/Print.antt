-- The text of a network's signals, and the formulas that they stand for. A signal is a letter or a cell; L and R of a
-- cell are signals, and each side is written by the same rule again.
use Rattle.std.specs.Prelude.{Bool, true, false, cond, List, [], ◌∷◌, ◌++◌, ℕ, suc, ◌+◌, ◌-◌, eqb, ltb}
use Rattle.sheets.specs.declared.kinds.Edition.{Edition}
use Rattle.sheets.specs.Network.{Cell}
use Rattle.sheets.specs.Sheet.{records, sheet_cells}
use Rattle.values.specs.Formula.{Formula, letter, constant, negated, joined}
use Rattle.printing.specs.Forms.{mark_of, flips_low, flips_high}

-- what each signal is, where signal s is v s before the cells, and a cell makes its own of what the others are: the
-- cells in turn, the first giving signal i
unfoldable pub in_turn : {A : Type 0} → (Cell → (ℕ → A) → A) → ℕ → List Cell → (ℕ → A) → ℕ → A
in_turn makes i [] v = v
in_turn makes i (c ∷ cs) v = in_turn makes (suc i) cs (λ s. cond (eqb s i) (makes c v) (v s))

-- a cell by its signals: none, one of one, two of more
abbrev pub by_sides : {A : Type 0} → A → (ℕ → A → A) → (ℕ → A → A → A) → List ℕ → ℕ → (ℕ → A) → A
by_sides none one two [] t v = none
by_sides none one two (l ∷ []) t v = one t (v l)
by_sides none one two (l ∷ r ∷ more) t v = two t (v l) (v r)

-- ---- the text

-- `!` before what is flipped
abbrev pub flipped_text : Bool → List ℕ → List ℕ
flipped_text true w = 33 ∷ w
flipped_text false w = w

-- a cell of one signal: 0, !L, L or 1
abbrev pub one_text : ℕ → List ℕ → List ℕ
one_text t l = cond (eqb t 0) (48 ∷ []) (cond (eqb t 3) (49 ∷ []) (flipped_text (eqb t 1) l))

-- a cell of two: (, L, the mark, R, )
abbrev pub two_text : ℕ → List ℕ → List ℕ → List ℕ
two_text t l r = 40 ∷ (flipped_text (flips_low t) l ++ (mark_of t ∷ (flipped_text (flips_high t) r ++ (41 ∷ []))))

-- a cell's text, by its signals
abbrev pub cell_text : Cell → (ℕ → List ℕ) → List ℕ
cell_text c v = by_sides [] one_text two_text c.signals c.table v

-- input j is a letter; a signal that nobody gives is nothing
abbrev pub letter_text : ℕ → ℕ → List ℕ
letter_text n j = cond (ltb j n) ((97 + j) ∷ []) []

-- the text of signal s
unfoldable pub printed : ℕ → List Cell → ℕ → List ℕ
printed n cs = in_turn cell_text n cs (letter_text n)

-- the text of a sheet: that of its last record
abbrev pub sheet_text : Edition → ℕ → List ℕ → List ℕ
sheet_text e n s = printed n (sheet_cells e s (records e s)) (n + (records e s - 1))

-- ---- the formulas, in the same way

-- `!` before a formula, if so said
abbrev pub negated_if : Bool → Formula → Formula
negated_if true F = negated F
negated_if false F = F

-- of a cell of one signal
abbrev pub one_formula : ℕ → Formula → Formula
one_formula t F = cond (eqb t 0) (constant false) (cond (eqb t 3) (constant true) (negated_if (eqb t 1) F))

-- the level of a mark: 0 of `&`, 1 of `^`, 2 of `|`
abbrev pub level_of : ℕ → ℕ
level_of t = cond (eqb (mark_of t) 38) 0 (cond (eqb (mark_of t) 94) 1 2)

-- of a cell of two
abbrev pub two_formula : ℕ → Formula → Formula → Formula
two_formula t F G = joined (level_of t) (negated_if (flips_low t) F) (negated_if (flips_high t) G)

-- of a cell, by its signals
abbrev pub cell_formula : Cell → (ℕ → Formula) → Formula
cell_formula c v = by_sides (constant false) one_formula two_formula c.signals c.table v

-- the formula of signal s
unfoldable pub formula_of : ℕ → List Cell → ℕ → Formula
formula_of n cs = in_turn cell_formula n cs letter
