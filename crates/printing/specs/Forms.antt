-- How a cell's table is printed. Of two signals, with L the lower: 8 (L&R), 4 (!L&R), 2 (L&!R), 1 (!L&!R), E (L|R),
-- D (!L|R), B (L|!R), 7 (!L|!R), 6 (L^R), 9 (L^!R).
use Rattle.std.specs.Prelude.{Bool, cond, [], ◌∷◌, Option, Some, None, ℕ, eqb, ltb, get_or}
use Rattle.printing.specs.declared.pairs.Form.{Form}

-- the mark between L and R, by the table: `&`, `^` or `|`, and 0 where the table doesn't depend on both
abbrev pub mark_of : ℕ → ℕ
mark_of t = get_or (0 ∷ 38 ∷ 38 ∷ 0 ∷ 38 ∷ 0 ∷ 94 ∷ 124 ∷ 38 ∷ 94 ∷ 0 ∷ 124 ∷ 0 ∷ 124 ∷ 124 ∷ 0 ∷ []) t 0

-- whether L has `!` before it
abbrev pub flips_low : ℕ → Bool
flips_low t = eqb (get_or (0 ∷ 1 ∷ 0 ∷ 0 ∷ 1 ∷ 0 ∷ 0 ∷ 1 ∷ 0 ∷ 0 ∷ 0 ∷ 0 ∷ 0 ∷ 1 ∷ 0 ∷ 0 ∷ []) t 0) 1

-- whether R has
abbrev pub flips_high : ℕ → Bool
flips_high t = eqb (get_or (0 ∷ 1 ∷ 1 ∷ 0 ∷ 0 ∷ 0 ∷ 0 ∷ 1 ∷ 0 ∷ 1 ∷ 0 ∷ 1 ∷ 0 ∷ 0 ∷ 0 ∷ 0 ∷ []) t 0) 1

-- the three as one
abbrev pub the_form : ℕ → Form
the_form t = record { not_low = flips_low t; mark = mark_of t; not_high = flips_high t }

-- if the table depends on both
abbrev pub form_of : ℕ → Option Form
form_of t = cond (ltb 0 (mark_of t)) (Some (the_form t)) None
