-- Write a sheet as a formula: what is claimed of it. Assumes nothing.
use mathlib.Core.Path.{◌≡◌, refl, sym, ap, ◌∙◌}
use mathlib.Core.Logic.{◌↔◌}
use mathlib.Core.Bool.{Bool, true, false}
use mathlib.Core.List.{List, [], ◌∷◌, ◌++◌}
use Prim.Native.Nat.{ℕ, ◌+◌, ◌-◌, ◌≤◌}
use lib.Dec.{eqb}
use lib.ListN.{length, drop}
use Rattle.sheets.specs.declared.kinds.Edition.{Edition}
use Rattle.sheets.specs.Edition.{IsEdition}
use Rattle.sheets.specs.Sheet.{records, sheet_cells, sheet_bit}
use Rattle.refusals.specs.Verdicts.{Refusal, Fine, Refused}
use Rattle.refusals.specs.Lines.{refusal, InOrder, verdict, number_of, place_of}
use Rattle.refusals.proofs.Lines.{in_order_lem, passes, not_fine}
use Rattle.values.specs.Formula.{Formula, value}
use Rattle.formulas.specs.Text.{ReadAs}
use Rattle.printing.specs.Print.{sheet_text, formula_of}
use Rattle.printing.specs.Printable.{Printable, not_printed}
use Rattle.printing.specs.WriteFormula.{WriteOutcome, write_form, write_lines, write_done, write_not, write_outcome}
use Rattle.printing.proofs.Printing as printing
use Rattle.claims.specs.Words.{ByLines}
use Rattle.claims.proofs.Verdicts.{says_verdict, is_done, is_refused_lem, by_lines, no_place}

module _ (e : Edition) (d n : ℕ) (s room : List ℕ) where
  pub write_says : (write_outcome e d n s room).answer.verdict ≡ verdict (write_lines e d n s room)
  unfolding write_outcome
  write_says = says_verdict (λ (o : WriteOutcome). o.answer.verdict) (write_done e n s room) (write_not room) refl
      (λ r. refl) (verdict (write_lines e d n s room))

  -- the verdict is that of lines 1, 6, 9, 10 and 16
  pub write_lines_lem : ByLines (write_outcome e d n s room).answer.verdict (write_lines e d n s room)
  write_lines_lem = by_lines (write_lines e d n s room) refl (write_outcome e d n s room).answer.verdict write_says

  -- refused: the length is 0, and the room is as it was lent
  pub write_refused : (r : Refusal) → (write_outcome e d n s room).answer.verdict ≡ Refused r
      → ((write_outcome e d n s room).answer.length ≡ 0) × ((write_outcome e d n s room).room ≡ room)
  unfolding write_outcome
  write_refused r h =
      let q = is_refused_lem (λ (o : WriteOutcome). o.answer.verdict) (write_done e n s room) (write_not room) refl
      (λ q. refl) (verdict (write_lines e d n s room)) r h in
      (ap (λ o. o.answer.length) q, ap (λ o. o.room) q)

  -- nothing is named but for number 10: so 16 is given at place 0
  pub write_no_place : eqb (number_of (write_outcome e d n s room).answer.verdict) 10 ≡ false
      → place_of (write_outcome e d n s room).answer.verdict ≡ 0
  write_no_place = no_place (λ k. eqb k 10) (write_lines e d n s room) refl write_says

  -- two outcomes that keep the promise are equal: the answer, and the room afterwards
  pub write-once : (o o' : WriteOutcome) → o ≡ write_outcome e d n s room → o' ≡ write_outcome e d n s room → o ≡ o'
  write-once o o' p q = p ∙ sym q

  -- ---- form and room in order

  module _ (form : InOrder (write_form e d n s room)) where
    by_print : (write_outcome e d n s room).answer.verdict ≡ verdict (not_printed e n s ∷ [])
    by_print = write_says ∙ passes (write_form e d n s room) (not_printed e n s ∷ []) form

    -- the sheet is printed exactly when its records read one or two signals, depend on both of two, and but for the
    -- last are each read once
    pub write_exactly : ((write_outcome e d n s room).answer.verdict ≡ Fine) ↔ Printable n (sheet_cells e s (records e s))
    write_exactly = (
      λ h. (printing.printed_exactly e n s).0 (in_order_lem (not_printed e n s ∷ []) (sym by_print ∙ h)).0,
      λ p. by_print ∙ passes (not_printed e n s ∷ []) [] ((printing.printed_exactly e n s).1 p, tt),
    )

    -- and any other is refused as 16 at place 0
    pub write_other : ((write_outcome e d n s room).answer.verdict ≡ Refused (refusal 16 0))
        ↔ (Printable n (sheet_cells e s (records e s)) → ⊥)
    write_other = (
      λ h p. not_fine (refusal 16 0) (sym (write_exactly.1 p) ∙ h),
      λ f. by_print ∙ ap (λ (b : Bool). verdict (record { holds = b; gives = refusal 16 0 } ∷ []))
          (holds (not_printed e n s).holds refl f),
    )
      where
        holds : (b : Bool) → (not_printed e n s).holds ≡ b → (Printable n (sheet_cells e s (records e s)) → ⊥)
            → (not_printed e n s).holds ≡ true
        holds true q f = q
        holds false q f = absurd (f ((printing.printed_exactly e n s).0 q))

  -- ---- done

  module _ (ok : IsEdition e) (done : (write_outcome e d n s room).answer.verdict ≡ Fine) where
    is : write_outcome e d n s room ≡ write_done e n s room
    unfolding write_outcome
    is = is_done (λ (o : WriteOutcome). o.answer.verdict) (write_done e n s room) (write_not room) refl (λ q. refl)
        (verdict (write_lines e d n s room)) done

    sound : printing.Sound e n s room
    sound = printing.sound e d n s room ok (in_order_lem (write_lines e d n s room) (sym write_says ∙ done))

    -- the room has the text, and its bytes past it stay
    pub write_text : ((write_outcome e d n s room).answer.length ≡ length (sheet_text e n s))
        × ((write_outcome e d n s room).room ≡ sheet_text e n s ++ drop (length (sheet_text e n s)) room)
    write_text = (ap (λ o. o.answer.length) is, ap (λ o. o.room) is)

    -- it is at most 105 bytes long
    pub write_short : length (sheet_text e n s) ≤ 105
    write_short = printing.short sound

    -- the text stands for the formula of the last record, within 1,024 bytes and 32 levels
    pub write_stands : ReadAs n (sheet_text e n s) (formula_of n (sheet_cells e s (records e s)) (n + (records e s - 1)))
    write_stands = printing.reads_back sound

    -- which has the sheet's bit at every assignment
    pub write_back : (F : Formula) × ReadAs n (sheet_text e n s) F
        × ((x : ℕ) → value F x ≡ sheet_bit e n s (records e s) x)
    write_back = (
      formula_of n (sheet_cells e s (records e s)) (n + (records e s - 1)),
      write_stands,
      printing.worth
          sound,
    )
