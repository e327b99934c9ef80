-- Read a formula into a table: what is claimed of it. Assumes nothing.
use mathlib.Core.Path.{◌≡◌, refl, sym, ap, ◌∙◌}
use mathlib.Core.Logic.{◌↔◌}
use mathlib.Core.Bool.{false}
use mathlib.Core.List.{List, [], ◌∷◌}
use Prim.Native.Nat.{ℕ, ◌*◌, ◌^◌, ◌<◌, ◌≤◌}
use lib.Dec.{eqb}
use lib.ListN.{length}
use Rattle.tables.specs.Table.{table_length, table_bit, table_of}
use Rattle.tables.proofs.Bytes.{length-table, table-of}
use Rattle.refusals.specs.Verdicts.{Refusal, Verdict, Fine, Refused}
use Rattle.refusals.specs.Lines.{refusal, naming, InOrder, verdict, number_of, place_of}
use Rattle.refusals.specs.Refusals.{bad_inputs, bad_table}
use Rattle.refusals.proofs.Lines.{passes, not_fine}
use Rattle.values.specs.Formula.{Formula, value}
use Rattle.formulas.specs.Text.{ReadAs, RefusedAt}
use Rattle.formulas.specs.Reading.{TextAnswer, formula, refused, text_of, value_in}
use Rattle.formulas.specs.Refusals.{is_refused, place_in, bad_text}
use Rattle.formulas.specs.ReadFormula.{ReadOutcome, read_lines, read_done, read_not, read_outcome}
use Rattle.formulas.proofs.Place.{read_as, refused_at, one_formula_lem}
use Rattle.claims.specs.Words.{ByLines}
use Rattle.claims.proofs.Verdicts.{says_verdict, is_done, is_refused_lem, by_lines, no_place}
use Rattle.claims.proofs.Tables.{spare_zero}

-- line 16 of an answer
line16 : TextAnswer → Verdict
line16 a = verdict (naming 16 (place_in a) (is_refused a) ∷ [])

fine_formula : (a : TextAnswer) → line16 a ≡ Fine → (F : Formula) × (a ≡ formula F)
unfolding line16
fine_formula (formula F) e = (F, refl)
fine_formula (refused p) e = absurd (not_fine (refusal 16 p) (sym e))

refused_place : (a : TextAnswer) (p : ℕ) → line16 a ≡ Refused (refusal 16 p) → a ≡ refused p
unfolding line16
refused_place (formula F) p e = absurd (not_fine (refusal 16 p) e)
refused_place (refused q) p e = ap (λ (v : Verdict). refused (place_of v)) e

-- two readings of one text give the same formula
pub read_one : (n : ℕ) (s : List ℕ) (F G : Formula) → ReadAs n s F → ReadAs n s G → F ≡ G
read_one n s F G f g = one_formula_lem n s F G f.stands g.stands

module _ (n : ℕ) (s table : List ℕ) where
  pub read_says : (read_outcome n s table).verdict ≡ verdict (read_lines n s table)
  unfolding read_outcome
  read_says = says_verdict (λ (o : ReadOutcome). o.verdict) (read_done n s) (read_not table) refl (λ r. refl)
      (verdict (read_lines n s table))

  -- the verdict is that of lines 1, 3 and 16
  pub read_lines_lem : ByLines (read_outcome n s table).verdict (read_lines n s table)
  read_lines_lem = by_lines (read_lines n s table) refl (read_outcome n s table).verdict read_says

  -- refused: the table is as it was lent
  pub read_refused : (r : Refusal) → (read_outcome n s table).verdict ≡ Refused r → (read_outcome n s table).table ≡ table
  unfolding read_outcome
  read_refused r h =
      ap (λ o. o.table) (is_refused_lem (λ (o : ReadOutcome). o.verdict) (read_done n s) (read_not table) refl (λ q. refl)
      (verdict (read_lines n s table)) r h)

  -- nothing is named but for number 16
  pub read_no_place : eqb (number_of (read_outcome n s table).verdict) 16 ≡ false
      → place_of (read_outcome n s table).verdict ≡ 0
  read_no_place = no_place (λ k. eqb k 16) (read_lines n s table) refl read_says

  -- two outcomes that keep the promise are equal: the verdict, and the table afterwards
  pub read_once : (v v' : Verdict) (l l' : List ℕ) → record { verdict = v; table = l } ≡ read_outcome n s table
      → record { verdict = v'; table = l' } ≡ read_outcome n s table
      → (v ≡ v') × (l ≡ l')
  read_once v v' l l' p q = (ap (λ o. o.verdict) (p ∙ sym q), ap (λ o. o.table) (p ∙ sym q))

  -- ---- n and the table in order

  module _ (form : InOrder (bad_inputs n ∷ bad_table n table ∷ [])) where
    by_text : (read_outcome n s table).verdict ≡ line16 (text_of n s)
    unfolding line16
    by_text = read_says ∙ passes (bad_inputs n ∷ bad_table n table ∷ []) (bad_text n s ∷ []) form

    -- text is read exactly when the grammar has it
    pub read_exactly : ((read_outcome n s table).verdict ≡ Fine) ↔ ((F : Formula) × ReadAs n s F)
    unfolding line16
    read_exactly = (
      λ e. let a = fine_formula (text_of n s) (sym by_text ∙ e) in (a.0, (read_as n s a.0).0 a.1),
      λ r. by_text ∙ ap line16 ((read_as n s r.0).1 r.1),
    )

    -- and refused as 16 at p exactly when p is the length of a text that is too long, else the first place at which it
    -- can't be continued
    pub read_place : (p : ℕ) → ((read_outcome n s table).verdict ≡ Refused (refusal 16 p)) ↔ RefusedAt n s p
    unfolding line16
    read_place p = (
      λ e. (refused_at n s p).0 (refused_place (text_of n s) p (sym by_text ∙ e)),
      λ r. by_text ∙ ap line16 ((refused_at n s p).1 r),
    )

  -- ---- done

  module _ (done : (read_outcome n s table).verdict ≡ Fine) where
    -- it is the table of the formula's values
    pub read_whole : (read_outcome n s table).table ≡ table_of n (value_in (text_of n s))
    unfolding read_outcome
    read_whole = ap (λ o. o.table) (is_done (λ (o : ReadOutcome). o.verdict) (read_done n s) (read_not table) refl
        (λ q. refl) (verdict (read_lines n s table)) done)

    -- the table has the formula's value at every assignment
    pub read_table : (F : Formula) → ReadAs n s F → (x : ℕ) → x < 2 ^ n → table_bit (read_outcome n s table).table x
        ≡ value F x
    read_table F r x h =
        ap (λ (l : List ℕ). table_bit l x) read_whole ∙ table-of n (value_in (text_of n s)) x h
        ∙ ap (λ (a : TextAnswer). value_in a x) ((read_as n s F).1 r)

    -- it is written whole
    pub read_length : length (read_outcome n s table).table ≡ table_length n
    read_length = ap length read_whole ∙ length-table n (value_in (text_of n s))

    -- its spare bits are zero
    pub read_spare : (x : ℕ) → 2 ^ n ≤ x → x < 8 * table_length n → table_bit (read_outcome n s table).table x ≡ false
    read_spare x h l = ap (λ (r : List ℕ). table_bit r x) read_whole ∙ spare_zero n (value_in (text_of n s)) x h l
