-- Make's outcome where that is not 8; else what the chain with several first cells comes to. Assumes nothing.
use Rattle.std.proofs.Common.{Result}
use mathlib.Core.Path.{◌≡◌, sym, ap, ap₂, ◌∙◌, subst}
use mathlib.Core.List.{List}
use Prim.Native.Nat.{ℕ, ◌*◌, ◌^◌, ◌≤◌}
use native.Mathlib.Omega.{arith}
use lib.ListN.{length}
use Rattle.bits.specs.Numbers.{number}
use Rattle.tables.specs.Table.{table_bit}
use Rattle.splits.specs.Columns.{most_first}
use Rattle.sheets.specs.declared.kinds.Edition.{Edition}
use Rattle.sheets.specs.Edition.{IsEdition, most_records, first_edition}
use Rattle.sheets.proofs.Keeping.{first_edition_lem}
use Rattle.chains.specs.Aside.{cells_aside}
use Rattle.refusals.specs.declared.verdicts.Refusal.{Refusal as Why}
use Rattle.refusals.specs.Lines.{number_of}
use Rattle.refusals.specs.Results.{verdict_of}
use Rattle.bench.specs.MakeSheet.{MakeOutcome, make_answer, chain_written, make_outcome}
use Rattle.bench.proofs.Made.{made_says}
use Rattle.bench.proofs.Ready.{Ready, ready}
use Rattle.any_gate.proofs.Answers.{as_make, eight_form, eight_sheet, by_several}
use Rattle.any_gate.proofs.make_any.make_any.Goals as goal

-- the number of what make answers
same_number : (made : Result ℕ Why) (s w : List ℕ) (number : ℕ) (o : MakeOutcome)
    → record { answer = make_answer made; sheet = s; work = w } ≡ o → number ≡ number_of (verdict_of made)
    → number ≡ number_of o.answer.verdict
same_number made s w number o e h =
    h ∙ ap number_of (sym (made_says made)) ∙ ap (λ (p : MakeOutcome). number_of p.answer.verdict) e

pub returns-then-number_of-no_split : goal.returns-then-number_of-no_split
returns-then-number_of-no_split c =
    let a = c.args in
    c.make_for_desk-made.ensures
    ∙ as_make first_edition a.desk a.n a.k a.t.now a.sheet.now a.work.now
    (λ q. c.if-number_of-no_split.true (same_number c.make_for_desk-made.result _ _ _ _
    c.make_for_desk-made.ensures c.number_of.ensures ∙ q ∙ sym c.number-no_split.ensures))

-- make gave 8
module _ (d n k : ℕ) (t sheet work : List ℕ) (made : Result ℕ Why) (s w : List ℕ) (number no_split : ℕ)
    (e : record { answer = make_answer made; sheet = s; work = w } ≡ make_outcome first_edition d n k t sheet work)
    (h : number ≡ number_of (verdict_of made)) (q : number ≡ no_split) (p : no_split ≡ 8) where
  eight : number_of (make_outcome first_edition d n k t sheet work).answer.verdict ≡ 8
  eight = sym (same_number made s w number _ e h) ∙ q ∙ p

  form : Ready first_edition d n k t sheet work
  form = ready first_edition d n k t sheet work (eight_form first_edition d n k t sheet work eight)

pub write_chain-requires : goal.write_chain-requires
write_chain-requires c =
    let w = form c.args.desk c.args.n c.args.k c.args.t.now c.args.sheet.now c.args.work.now c.make_for_desk-made.result
    c.make_for_desk-made.new.sheet c.make_for_desk-made.new.work _ _ c.make_for_desk-made.ensures
    c.number_of.ensures c.if-number_of-no_split.false c.number-no_split.ensures in
    let e = sym c.first.ensures in record {
      edition = (
        subst IsEdition e first_edition_lem,
        w.gate.some,
        w.gate.most,
        omega arith,
        w.gate.two,
        subst (λ (x : Edition). c.args.k ≤ x.most) e w.gate.largest,
      );
      t_len = (
        w.gate.long,
        subst (λ (x : Edition). x.size * most_records ≤ length c.make_for_desk-made.new.sheet) e
            (omega (arith, w.records, c.make_for_desk-made.auto.sheet)),
        omega (arith, w.area, c.make_for_desk-made.auto.work),
      );
    }

pub returns : goal.returns
returns c =
    let a = c.args in
    let x = cells_aside most_first a.n a.k (number (2 ^ a.n) (table_bit a.t.now)) in
    let w = c.make_for_desk-made.new.work in
    c.write_chain.ensures
    ∙ ap₂ (λ (e : Edition) (s : List ℕ). chain_written e a.desk x s w) c.first.ensures
    (ap (λ (o : MakeOutcome). o.sheet) c.make_for_desk-made.ensures
    ∙ eight_sheet first_edition a.desk a.n a.k a.t.now a.sheet.now a.work.now (eight c.args.desk c.args.n c.args.k c.args.t.now c.args.sheet.now c.args.work.now c.make_for_desk-made.result
    c.make_for_desk-made.new.sheet c.make_for_desk-made.new.work _ _ c.make_for_desk-made.ensures
    c.number_of.ensures c.if-number_of-no_split.false c.number-no_split.ensures))
    ∙ by_several first_edition a.desk a.n a.k a.t.now a.sheet.now a.work.now (eight c.args.desk c.args.n c.args.k c.args.t.now c.args.sheet.now c.args.work.now c.make_for_desk-made.result
    c.make_for_desk-made.new.sheet c.make_for_desk-made.new.work _ _ c.make_for_desk-made.ensures
    c.number_of.ensures c.if-number_of-no_split.false c.number-no_split.ensures) w
    c.make_for_desk-made.auto.work

pub overflow_cast-desk : goal.overflow_cast-desk
overflow_cast-desk c = omega (
  arith,
  (form c.args.desk c.args.n c.args.k c.args.t.now c.args.sheet.now c.args.work.now c.make_for_desk-made.result
      c.make_for_desk-made.new.sheet c.make_for_desk-made.new.work _ _ c.make_for_desk-made.ensures
      c.number_of.ensures c.if-number_of-no_split.false c.number-no_split.ensures).desk,
)

pub overflow_cast-n : goal.overflow_cast-n
overflow_cast-n c = omega (
  arith,
  (form c.args.desk c.args.n c.args.k c.args.t.now c.args.sheet.now c.args.work.now c.make_for_desk-made.result
      c.make_for_desk-made.new.sheet c.make_for_desk-made.new.work _ _ c.make_for_desk-made.ensures
      c.number_of.ensures c.if-number_of-no_split.false c.number-no_split.ensures).gate.most,
)

pub overflow_cast-k : goal.overflow_cast-k
overflow_cast-k c = omega (
  arith,
  (form c.args.desk c.args.n c.args.k c.args.t.now c.args.sheet.now c.args.work.now c.make_for_desk-made.result
      c.make_for_desk-made.new.sheet c.make_for_desk-made.new.work _ _ c.make_for_desk-made.ensures
      c.number_of.ensures c.if-number_of-no_split.false c.number-no_split.ensures).gate.largest,
)
