-- Formulas both ways: reading what was written gives the table back, and every sheet made with K = 2 is printed.
-- Assumes nothing.
use mathlib.Core.Path.{◌≡◌, refl, sym, ap, ap₂, ◌∙◌, subst, fun_ext}
use mathlib.Core.Bool.{Bool, false, not, ◌&&◌}
use mathlib.Core.List.{List, [], ◌∷◌}
use Prim.Native.Nat.{ℕ, ◌+◌, ◌-◌, ◌^◌, ◌<◌, ◌≤◌}
use lib.ListN.{length}
use borrow.Author.Tests.{le-ltb, le-leb}
use Rattle.tables.specs.Table.{most_inputs, table_bit, table_of}
use Rattle.sheets.specs.declared.kinds.Edition.{Edition}
use Rattle.sheets.specs.Edition.{IsEdition}
use Rattle.sheets.specs.Network.{Cell}
use Rattle.sheets.specs.Sheet.{records, sheet_cells, sheet_bit, rebuilt, Good}
use Rattle.sheets.specs.Writing.{sheet_bytes}
use Rattle.sheets.proofs.Wholes.{cells_back, runs_cells, rebuilt-bit}
use Rattle.refusals.specs.Verdicts.{Fine}
use Rattle.refusals.specs.Lines.{InOrder}
use Rattle.refusals.specs.Refusals.{bad_inputs, bad_table}
use Rattle.refusals.proofs.Sheets.{counted, sheet_fine}
use Rattle.bench.specs.MakeSheet.{make_outcome}
use Rattle.values.specs.Formula.{Formula, value}
use Rattle.formulas.specs.Text.{most_text, ReadAs}
use Rattle.formulas.specs.Reading.{TextAnswer, text_of, value_in}
use Rattle.formulas.specs.ReadFormula.{read_outcome}
use Rattle.formulas.proofs.Place.{read_as}
use Rattle.printing.specs.Print.{sheet_text, formula_of}
use Rattle.printing.specs.Printable.{Printable}
use Rattle.printing.specs.WriteFormula.{write_form, write_outcome}
use Rattle.trees.specs.Tree.{TreeOf}
use Rattle.twos.specs.TreeOf.{tree_of}
use Rattle.twos.proofs.Printed.{made_printable}
use Rattle.twos.proofs.Formula.{formula_tree}
use Rattle.claims.specs.Words.{records_of}
use Rattle.claims.proofs.Made.{IsMade, is_made, made_records, made_good, made_fits, cells_give}
use Rattle.claims.proofs.ReadFormula.{read_one, read_exactly, read_whole}
use Rattle.claims.proofs.WriteFormula.{write_stands, write_back, write_exactly}

rebuilt_is : (e : Edition) (n : ℕ) (s : List ℕ) → table_of n (sheet_bit e n s (records e s)) ≡ rebuilt e n s (records e s)
unfolding rebuilt
rebuilt_is e n s = refl

inputs_fine : (n : ℕ) → 1 ≤ n → n ≤ most_inputs → (bad_inputs n).holds ≡ false
inputs_fine n h g = ap₂ (λ (a b : Bool). not (a && b)) (le-leb 1 n h) (le-leb n most_inputs g)

-- reading what was written gives the table back: the one that rebuild gives, whole
module _ (e : Edition) (ok : IsEdition e) (d n : ℕ) (s room : List ℕ)
    (done : (write_outcome e d n s room).answer.verdict ≡ Fine)
    (table : List ℕ) (form : InOrder (bad_inputs n ∷ bad_table n table ∷ [])) where
  pub written_read : ((read_outcome n (sheet_text e n s) table).verdict ≡ Fine)
      × ((read_outcome n (sheet_text e n s) table).table ≡ rebuilt e n s (records e s))
  written_read = go (write_back e d n s room ok done)
    where
      back : (F : Formula) → ReadAs n (sheet_text e n s) F → ((x : ℕ) → value F x ≡ sheet_bit e n s (records e s) x)
          → table_of n (value_in (text_of n (sheet_text e n s))) ≡ rebuilt e n s (records e s)
      back F r worth = same (ap (λ (a : TextAnswer). value_in a) ((read_as n (sheet_text e n s) F).1 r) ∙ fun_ext worth)
        where
          same : value_in (text_of n (sheet_text e n s)) ≡ sheet_bit e n s (records e s)
              → table_of n (value_in (text_of n (sheet_text e n s))) ≡ rebuilt e n s (records e s)
          same q = ap (table_of n) q ∙ rebuilt_is e n s

      go : (F : Formula) × ReadAs n (sheet_text e n s) F × ((x : ℕ) → value F x ≡ sheet_bit e n s (records e s) x)
          → ((read_outcome n (sheet_text e n s) table).verdict ≡ Fine)
          × ((read_outcome n (sheet_text e n s) table).table ≡ rebuilt e n s (records e s))
      go w =
          let fine = (read_exactly n (sheet_text e n s) table form).1 (w.0, w.1) in
          (fine, read_whole n (sheet_text e n s) table fine ∙ back w.0 w.1 w.2)

-- every sheet that make with K = 2 writes is printed
module _ (e : Edition) (ok : IsEdition e) (d n : ℕ) (t sheet work : List ℕ)
    (done : (make_outcome e d n 2 t sheet work).answer.verdict ≡ Fine) where
  abbrev s : List ℕ
  s = records_of e (make_outcome e d n 2 t sheet work)

  w : IsMade e d n 2 t sheet work
  w = is_made e d n 2 t sheet work done

  is : s ≡ sheet_bytes e d w.cells
  is = made_records e d n 2 t sheet work w

  good : Good e d n s (length w.cells)
  good = subst (λ (r : List ℕ). Good e d n r (length w.cells)) (sym is) (made_good e d n 2 t sheet work w ok)

  many : records e s ≡ length w.cells
  many = counted e d n s ok (length w.cells) good

  cells : sheet_cells e s (records e s) ≡ w.cells
  cells =
      ap (sheet_cells e s) many ∙ ap (λ (r : List ℕ). sheet_cells e r (length w.cells)) is
      ∙ cells_back e d ok n w.cells (made_fits e d n 2 t sheet work w)

  module _ (room : List ℕ) (long : most_text ≤ length room) where
    form : InOrder (write_form e d n s room)
    form = (
      inputs_fine n w.gate.some w.gate.most,
      (le-ltb (length room) most_text long, sheet_fine e d n s ok (length w.cells) good),
    )

    pub made_printed : (write_outcome e d n s room).answer.verdict ≡ Fine
    made_printed = (write_exactly e d n s room form).1
        (subst (Printable n) (sym cells) (made_printable n (table_bit t) w.gate.some w.cells w.chain))

    -- and what is printed reads back as the table that it was made of
    pub made_printed_back : (table : List ℕ) → InOrder (bad_inputs n ∷ bad_table n table ∷ []) → (x : ℕ) → x < 2 ^ n
        → table_bit (read_outcome n (sheet_text e n s) table).table x ≡ table_bit t x
    made_printed_back table g x h =
        ap (λ (l : List ℕ). table_bit l x) (written_read e ok d n s room made_printed table g).1
        ∙ rebuilt-bit e n s (records e s) x h
        ∙ ap (λ (m : ℕ). sheet_bit e n s m x) many ∙ ap (λ (r : List ℕ). sheet_bit e n r (length w.cells) x) is
        ∙ runs_cells e d ok n w.cells (made_fits e d n 2 t sheet work w) x
        ∙ (cells_give e d n 2 t sheet work w).gives x h

    -- the formula that it stands for is a tree: it reads each of the inputs that count once, and computes the table
    pub made_printed_tree : (F : Formula) → ReadAs n (sheet_text e n s) F → TreeOf n (table_bit t) (tree_of F)
    made_printed_tree F r =
        subst (λ (G : Formula). TreeOf n (table_bit t) (tree_of G))
        (last ∙ read_one n (sheet_text e n s) (formula_of n (sheet_cells e s (records e s)) (n + (records e s - 1))) F
        (write_stands e d n s room ok made_printed) r)
        (formula_tree n (table_bit t) w.gate.some w.cells w.chain)
      where
        last : formula_of n w.cells (n + (length w.cells - 1))
            ≡ formula_of n (sheet_cells e s (records e s)) (n + (records e s - 1))
        last = ap₂ (λ (cs : List Cell) (m : ℕ). formula_of n cs (n + (m - 1))) (sym cells) (sym many)
