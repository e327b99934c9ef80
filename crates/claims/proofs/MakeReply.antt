-- What make and its kin return and leave, whatever their lines and their cells: done with these cells, or refused.
-- Assumes nothing.
use mathlib.Core.Path.{◌≡◌, refl, sym, ap, ◌∙◌}
use mathlib.Core.List.{List}
use Prim.Native.Nat.{ℕ}
use Rattle.sheets.specs.declared.kinds.Edition.{Edition}
use Rattle.sheets.specs.Network.{Cell}
use Rattle.refusals.specs.Verdicts.{Refusal, Verdict, Fine, Refused}
use Rattle.refusals.specs.Lines.{reply}
use Rattle.refusals.specs.Lent.{work_after}
use Rattle.bench.specs.MakeSheet.{MakeAnswer, MakeOutcome, make_done, make_not}
use Rattle.claims.proofs.Verdicts.{says_verdict, is_done, is_refused_lem, area_left}

module _ (e : Edition) (d : ℕ) (cs : List Cell) (sheet work : List ℕ) (v : Verdict) where
  abbrev done : MakeOutcome
  done = make_done e d cs sheet work

  -- what comes of the verdict v
  abbrev made : MakeOutcome
  made = reply v (make_done e d cs sheet work) (make_not sheet work)

  abbrev says : MakeOutcome → Verdict
  says o = o.answer.verdict

  -- the verdict is v
  pub reply_says : says made ≡ v
  reply_says = says_verdict says done (make_not sheet work) refl (λ r. refl) v

  -- done
  pub reply_done : says made ≡ Fine → made ≡ done
  reply_done = is_done says done (make_not sheet work) refl (λ r. refl) v

  -- refused: the count is 0, and the sheet is as it was lent
  pub reply_refused : (r : Refusal) → says made ≡ Refused r → (made.answer.count ≡ 0) × (made.sheet ≡ sheet)
  reply_refused r h =
      let q = is_refused_lem says done (make_not sheet work) refl (λ r. refl) v r h in
      (ap (λ o. o.answer.count) q, ap (λ o. o.sheet) q)

  -- the work area is left as the verdict says
  pub reply-left : made.work ≡ work_after (says made) work
  reply-left =
      area_left says done (make_not sheet work) refl (λ r. refl) (λ (o : MakeOutcome). o.work) work refl (λ r. refl) v

-- two outcomes that are one are equal in each part
pub parts-once : (o : MakeOutcome) (a a' : MakeAnswer) (l l' w w' : List ℕ)
    → record { answer = a; sheet = l; work = w } ≡ o → record { answer = a'; sheet = l'; work = w' } ≡ o
    → (a ≡ a') × (l ≡ l') × (w ≡ w')
parts-once o a a' l l' w w' p q =
    let e = p ∙ sym q in (ap (λ o. o.answer) e, ap (λ o. o.sheet) e, ap (λ o. o.work) e)
