-- Kinds 5 to 9: at which rows a cell gives different bits. A cell is a function of what it reads: where its bits
-- differ, so does something that it reads. Assumes nothing.
use mathlib.Core.Path.{◌≡◌, refl, sym, ap, ap₂, ◌∙◌}
use mathlib.Core.Bool.{Bool, true, false, cond, not, ◌&&◌, beq}
use mathlib.Core.List.{List, [], ◌∷◌, ◌++◌}
use Prim.Native.Nat.{ℕ, ◌+◌, ◌-◌, ◌^◌, ◌<◌}
use native.Mathlib.Decide.{dec_lt}
use native.Mathlib.Omega.{arith}
use lib.Dec.{eqb}
use lib.ListN.{length}
use borrow.Author.Tests.{not-false}
use Rattle.bits.specs.Numbers.{bit}
use Rattle.bits.specs.Lists.{list_of}
use Rattle.bits.specs.Below.{least}
use Rattle.bits.proofs.Bools.{and_left, and_right, beq_same, same-beq}
use Rattle.bits.proofs.Least.{is_least}
use Rattle.sheets.specs.Network.{Cell, Wired, Gives}
use Rattle.networks.specs.Signals.{cell_at, does_read, values}
use Rattle.networks.proofs.Values.{output_ext, reads_below, values_below, values-cell, gives_last}
use Rattle.clauses.specs.declared.variables.Size.{Size}
use Rattle.clauses.specs.declared.variables.Variable.{Variable}
use Rattle.clauses.specs.declared.variables.Variable.TheVariants.{Reads, Differ, Apart}
use Rattle.clauses.specs.declared.variables.Literal.{Literal}
use Rattle.clauses.specs.declared.variables.Literal.TheVariants.{Said, Denied}
use Rattle.clauses.specs.Variables.{Named}
use Rattle.clauses.specs.Clause.{those, evenly, as_table}
use Rattle.truths.specs.Meaning.{differs, means}
use Rattle.truths.proofs.OneTrue.{OneTrue, next, true_left, true_right, true_list, true_those}
use Rattle.truths.proofs.OneTrue.{either, said, denied}

-- what isn't different is the same
same_of : (s t : Bool) → not (beq s t) ≡ false → s ≡ t
same_of s t e = beq_same s t (not-false (beq s t) e)

-- of three bits an even number of pairs differ
parity : (o s t : Bool) → not (beq s t) ≡ not (beq (not (beq o s)) (not (beq o t)))
parity true true true = refl
parity true true false = refl
parity true false true = refl
parity true false false = refl
parity false true true = refl
parity false true false = refl
parity false false true = refl
parity false false false = refl

even_of : (z : Size) (h : Variable → Bool) (d x y : Variable) → Named z d → Named z x → Named z y
    → h d ≡ not (beq (h x) (h y)) → (s : ℕ) → OneTrue z h (evenly d x y s)
even_of z h d x y nd nx ny e s = pick (eqb s 0) (eqb s 1) (eqb s 2)
  where
    is : {t u : Bool} → h x ≡ t → h y ≡ u → h d ≡ not (beq t u)
    is p q = e ∙ ap₂ (λ (t u : Bool). not (beq t u)) p q

    pick : (t u v : Bool) → OneTrue z h
        (cond t (Denied d ∷ Said x ∷ Said y ∷ []) (cond u (Denied d ∷ Denied x ∷ Denied y ∷ [])
        (cond v (Said d ∷ Denied x ∷ Said y ∷ []) (Said d ∷ Said x ∷ Denied y ∷ []))))
    pick true u v =
        either z h x (λ p. next (said z h nx p))
        (λ p. either z h y (λ q. next (next (said z h ny q))) (λ q. denied z h nd (is p q)))
    pick false true v =
        either z h x (λ p. either z h y (λ q. denied z h nd (is p q)) (λ q. next (next (denied z h ny q))))
        (λ p. next (denied z h nx p))
    pick false false true =
        either z h x (λ p. either z h y (λ q. next (next (said z h ny q))) (λ q. said z h nd (is p q)))
        (λ p. next (denied z h nx p))
    pick false false false =
        either z h x (λ p. next (said z h nx p))
        (λ p. either z h y (λ q. said z h nd (is p q)) (λ q. next (next (denied z h ny q))))

module _ (z : Size) (F : ℕ → Bool) (row : ℕ → ℕ) (cs : List Cell) where
  abbrev n : ℕ
  n = z.inputs

  abbrev h : Variable → Bool
  h = means z.inputs F row cs

  module _ (i a b : ℕ) (cell : i < z.cells) (row_a : a < z.rows) (row_b : b < z.rows) where
    -- ---- 5: where a cell differs, something that it reads does
    module _ (w : Wired z.cell z.inputs cs) (all : length cs ≡ z.cells) where
      -- the values at the two rows
      abbrev va : ℕ → Bool
      va = values z.inputs cs (bit (row a))

      abbrev vb : ℕ → Bool
      vb = values z.inputs cs (bit (row b))

      -- a signal that the cell reads, and that differs
      abbrev source : ℕ → Bool
      source s = does_read cs i s && not (beq (va s) (vb s))

      abbrev causes : List Literal
      causes = those n (λ p. not (beq (bit (row a) p) (bit (row b) p))) (λ p. Said (Reads i p))
          ++ list_of i (λ j. Said (Apart i j a b))

      from_source : (s : ℕ) → s < n + i → source s ≡ true → OneTrue z h causes
      from_source s l e =
          let r = and_left (does_read cs i s) (not (beq (va s) (vb s))) e in
          let d = and_right (does_read cs i s) (not (beq (va s) (vb s))) e in
          elim (dec_lt s n) [
            | yes g ↦ true_left z h (those n inputs (λ p. Said (Reads i p))) (list_of i (λ j. Said (Apart i j a b)))
                (true_those z h n inputs (λ p. Said (Reads i p)) s g
                (ap₂ (λ (x y : Bool). not (beq x y)) (sym (values_below n cs (bit (row a)) s g))
                (sym (values_below n cs (bit (row b)) s g)) ∙ d) (cell, omega arith) r)
            | no g ↦ let k : n + (s - n) ≡ s = omega arith in
                true_right z h (those n inputs (λ p. Said (Reads i p))) (list_of i (λ j. Said (Apart i j a b)))
                (true_list z h i (λ j. Said (Apart i j a b)) (s - n) (omega arith) (cell, omega arith, row_a, row_b)
                (ap source k ∙ e))
          ]
        where
          inputs : ℕ → Bool
          inputs p = not (beq (bit (row a) p) (bit (row b) p))

      no_source : ((s : ℕ) → s < n + i → source s ≡ false) → va (n + i) ≡ vb (n + i)
      no_source none =
          values-cell z.cell n cs (bit (row a)) w i (omega arith)
          ∙ output_ext (cell_at cs i) va vb (λ s r. same_of (va s) (vb s)
          (ap (λ (t : Bool). t && not (beq (va s) (vb s))) (sym r)
          ∙ none s (reads_below z.cell n cs w i (omega arith) s r)))
          ∙ sym (values-cell z.cell n cs (bit (row b)) w i (omega arith))

      pub cause : OneTrue z h (Denied (Differ i a b) ∷ causes)
      cause = elim (dec_lt (least (n + i) source) (n + i)) [
        | yes g ↦ next (from_source (least (n + i) source) g ((is_least (n + i) source).here g))
        | no g ↦ denied z h (cell, row_a, row_b)
            (ap not (same-beq (va (n + i)) (vb (n + i))
            (no_source (λ s l. (is_least (n + i) source).before s (omega arith)))))
      ]

    -- ---- 6, 7: what the words say
    pub is_read : (j : ℕ) → j < i → OneTrue z h (Denied (Apart i j a b) ∷ Said (Reads i (n + j)) ∷ [])
    is_read j l =
        either z h (Apart i j a b)
        (λ e. next (said z h (cell, omega arith)
        (and_left (does_read cs i (n + j)) (differs n row cs j a b) e)))
        (λ e. denied z h (cell, omega arith, row_a, row_b) e)

    pub differs_too : (j : ℕ) → j < i → OneTrue z h (Denied (Apart i j a b) ∷ Said (Differ j a b) ∷ [])
    differs_too j l =
        either z h (Apart i j a b)
        (λ e. next (said z h (omega arith, row_a, row_b)
        (and_right (does_read cs i (n + j)) (differs n row cs j a b) e)))
        (λ e. denied z h (cell, omega arith, row_a, row_b) e)

    -- ---- 8: of three rows, an even number of pairs differ
    pub even : (s : ℕ) → OneTrue z h (evenly (Differ i a b) (Differ i 0 a) (Differ i 0 b) s)
    even s =
        even_of z h (Differ i a b) (Differ i 0 a) (Differ i 0 b) (cell, row_a, row_b) (cell, omega arith, row_a)
        (cell, omega arith, row_b) (parity (at 0) (at a) (at b)) s
      where
        at : ℕ → Bool
        at r = values z.inputs cs (bit (row r)) (z.inputs + i)

  -- ---- 9: the last cell is the table
  pub as_table_lem : (a b : ℕ) → Gives z.inputs z.cell F cs → length cs ≡ z.cells → a < z.rows → b < z.rows
      → row a < 2 ^ z.inputs → row b < 2 ^ z.inputs
      → OneTrue z h (as_table (beq (F (row a)) (F (row b))) (Differ (z.cells - 1) a b))
  as_table_lem a b N all row_a row_b in_a in_b = go (beq (F (row a)) (F (row b))) refl
    where
      last : (r : ℕ) → row r < 2 ^ z.inputs
          → values z.inputs cs (bit (row r)) (z.inputs + (z.cells - 1)) ≡ F (row r)
      last r l =
          ap (λ (k : ℕ). values z.inputs cs (bit (row r)) (z.inputs + (k - 1))) (sym all)
          ∙ gives_last z.inputs z.cell F cs N (row r) l

      is : h (Differ (z.cells - 1) a b) ≡ not (beq (F (row a)) (F (row b)))
      is = ap₂ (λ (s t : Bool). not (beq s t)) (last a in_a) (last b in_b)

      named : Named z (Differ (z.cells - 1) a b)
      named = (omega (arith, N.some, all), row_a, row_b)

      go : (t : Bool) → beq (F (row a)) (F (row b)) ≡ t → OneTrue z h (as_table t (Differ (z.cells - 1) a b))
      go true e = denied z h named (is ∙ ap not e)
      go false e = said z h named (is ∙ ap not e)
