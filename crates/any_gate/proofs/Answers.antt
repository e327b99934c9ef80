-- What make_any answers, from make's answer and from the chain with several first cells. Assumes nothing.
use mathlib.Core.Path.{◌≡◌, refl, sym, ap, ◌∙◌}
use mathlib.Core.Bool.{Bool, true, false, cond}
use mathlib.Core.List.{List, [], ◌∷◌}
use Prim.Native.Nat.{ℕ, ◌^◌}
use native.Mathlib.Omega.{arith}
use lib.Dec.{leb}
use lib.ListN.{length}
use Rattle.bits.specs.Numbers.{number}
use Rattle.tables.specs.Table.{table_bit}
use Rattle.splits.specs.Columns.{most_first}
use Rattle.sheets.specs.declared.kinds.Edition.{Edition}
use Rattle.sheets.specs.Edition.{most_records}
use Rattle.chains.specs.Chain.{Made, stuck, made}
use Rattle.chains.specs.Aside.{cells_aside}
use Rattle.chains.specs.Any.{Any, sheet, overlong, severally, either, any_aside}
use Rattle.refusals.specs.Verdicts.{Refusal, Verdict, Fine, Refused}
use Rattle.refusals.specs.Lines.{Line, InOrder, refusal, verdict, number_of, reply}
use Rattle.bench.specs.Refusals.{chain_stuck}
use Rattle.refusals.proofs.Lines.{passes, stops, in_order_lem, passed}
use Rattle.bench.specs.MakeSheet.{MakeOutcome, sheet_for, cells_in, make_form, make_lines, make_done, make_not}
use Rattle.bench.specs.MakeSheet.{chain_written, make_outcome}
use Rattle.any_gate.specs.MakeAny.{any_for, cells_any, any_says, any_outcome}

-- ---- from make's answer
module _ (e : Edition) (d n K : ℕ) (t s work : List ℕ) where
  abbrev form : List Line
  form = make_form e d n K t s work

  -- what make answers of its chain, and what make_any answers of both
  abbrev by_make : Made → MakeOutcome
  by_make x = reply (verdict (chain_stuck x ∷ [])) (make_done e d (cells_in x) s work) (make_not s work)

  abbrev by_any : Any → MakeOutcome
  by_any a = reply (verdict (any_says a)) (make_done e d (cells_any a) s work) (make_not s work)

  -- the chain with several first cells
  abbrev others : Made
  others = cells_aside most_first n K (number (2 ^ n) (table_bit t))

  -- form or room refuses: both answer so
  refused_alike : (r : Refusal) → verdict form ≡ Refused r → make_outcome e d n K t s work ≡ any_outcome e d n K t s work
  unfolding make_outcome any_outcome
  refused_alike r q =
      ap (λ (v : Verdict). reply v (make_done e d (cells_in (sheet_for n K t)) s work) (make_not s work))
      (stops form (chain_stuck (sheet_for n K t) ∷ []) r q)
      ∙ ap (λ (v : Verdict). reply v (make_done e d (cells_any (any_for n K t)) s work) (make_not s work))
      (sym (stops form (any_says (any_for n K t)) r q))

  -- both are in order: the chains decide
  make_by : InOrder form → make_outcome e d n K t s work ≡ by_make (sheet_for n K t)
  unfolding make_outcome
  make_by o = ap (λ (v : Verdict). reply v (make_done e d (cells_in (sheet_for n K t)) s work) (make_not s work))
      (passes form (chain_stuck (sheet_for n K t) ∷ []) o)

  any_by : InOrder form → any_outcome e d n K t s work ≡ by_any (either (sheet_for n K t) others)
  unfolding any_outcome any_aside
  any_by o = ap (λ (v : Verdict). reply v (make_done e d (cells_any (any_for n K t)) s work) (make_not s work))
      (passes form (any_says (any_for n K t)) o)

  -- where make gives another number than 8, its outcome is make_any's
  pub as_make : (number_of (make_outcome e d n K t s work).answer.verdict ≡ 8 → ⊥) → make_outcome e d n K t s work
      ≡ any_outcome e d n K t s work
  as_make not_eight = go (verdict form) refl
    where
      chains : InOrder form → (x : Made) → sheet_for n K t ≡ x → make_outcome e d n K t s work
          ≡ any_outcome e d n K t s work
      chains o stuck q = absurd (not_eight (ap (λ (m : MakeOutcome). number_of m.answer.verdict)
          (make_by o ∙ ap by_make q)))
      chains o (made cs) q = make_by o ∙ ap by_make q
          ∙ sym (any_by o ∙ ap (λ (x : Made). by_any (either x others)) q)

      go : (v : Verdict) → verdict form ≡ v → make_outcome e d n K t s work ≡ any_outcome e d n K t s work
      go (Refused r) q = refused_alike r q
      go Fine q = chains (in_order_lem form q) (sheet_for n K t) refl

  -- where it gives 8
  module _ (eight : number_of (make_outcome e d n K t s work).answer.verdict ≡ 8) where
    says : (v : Verdict) → number_of (reply v (make_done e d (cells_in (sheet_for n K t)) s work)
        (make_not s work)).answer.verdict ≡ number_of v
    says Fine = refl
    says (Refused r) = refl

    both : InOrder form × (number_of (verdict (chain_stuck (sheet_for n K t) ∷ [])) ≡ 8)
    unfolding make_outcome
    both = passed form (chain_stuck (sheet_for n K t) ∷ []) 8 refl
        (sym (says (verdict (make_lines e d n K t s work))) ∙ eight)

    -- form and room are in order
    pub eight_form : InOrder (make_form e d n K t s work)
    eight_form = both.0

    is_stuck_lem : sheet_for n K t ≡ stuck
    is_stuck_lem = go (sheet_for n K t) both.1
      where
        go : (x : Made) → number_of (verdict (chain_stuck x ∷ [])) ≡ 8 → x ≡ stuck
        go stuck q = refl
        go (made cs) q = absurd (omega arith)

    is_not : make_outcome e d n K t s work ≡ make_not s work (refusal 8 0)
    is_not = make_by eight_form ∙ ap by_make is_stuck_lem

    -- the sheet is as it was lent
    pub eight_sheet : (make_outcome e d n K t s work).sheet ≡ s
    eight_sheet = ap (λ (m : MakeOutcome). m.sheet) is_not

    -- the other chain decides, with any work area of that length
    pub by_several : (w : List ℕ) → length w ≡ length work → chain_written e d others s w ≡ any_outcome e d n K t s work
    by_several w l = same others ∙ sym
        (any_by eight_form ∙ ap (λ (x : Made). by_any (either x others)) is_stuck_lem)
      where
        same : (x : Made) → chain_written e d x s w ≡ by_any (severally x)
        same stuck = rw l
        same (made cs) = go (leb (length cs) most_records)
          where
            go : (b : Bool) → cond b (make_done e d cs s w) (make_not s w (refusal 17 0))
                ≡ by_any (cond b (sheet cs) overlong)
            go true = rw l
            go false = rw l
