-- What every call's verdict says, once for all calls: it is the verdict of the call's lines, and it settles what is
-- returned and left. Assumes nothing.
use mathlib.Core.Path.{◌≡◌, refl, sym, ap, ◌∙◌}
use mathlib.Core.Logic.{◌⊎◌, inl, inr}
use mathlib.Core.Bool.{Bool, true, false}
use mathlib.Core.List.{List, [], ◌∷◌, ◌++◌}
use Prim.Native.Nat.{ℕ}
use lib.ListN.{length, replicate}
use Rattle.refusals.specs.Verdicts.{Refusal, Verdict, Fine, Refused}
use Rattle.refusals.specs.Lines.{Line, InOrder, verdict, number_of, place_of, reply, Given}
use Rattle.refusals.specs.Lent.{work_after}
use Rattle.refusals.proofs.Lines.{others, given, done, another, naming_only, names_nothing}
use Rattle.claims.specs.Words.{ByLines}

-- a call's verdict is that of its lines
module _ {A : Type 0} (says : A → Verdict) (done : A) (refused : Refusal → A) (f : says done ≡ Fine)
    (g : (r : Refusal) → says (refused r) ≡ Refused r) where
  pub says_verdict : (v : Verdict) → says (reply v done refused) ≡ v
  says_verdict Fine = f
  says_verdict (Refused r) = g r

  pub is_done : (v : Verdict) → says (reply v done refused) ≡ Fine → reply v done refused ≡ done
  is_done v e = ap (λ (u : Verdict). reply u done refused) (sym (says_verdict v) ∙ e)

  pub is_refused_lem : (v : Verdict) (r : Refusal) → says (reply v done refused) ≡ Refused r → reply v done refused
      ≡ refused r
  is_refused_lem v r e = ap (λ (u : Verdict). reply u done refused) (sym (says_verdict v) ∙ e)

  -- and a work area is left as that verdict says, if it is so where the call is done and where it is refused
  module _ (area : A → List ℕ) (work : List ℕ) (p : area done ≡ work_after Fine work)
      (q : (r : Refusal) → area (refused r) ≡ work_after (Refused r) work) where
    pub area_left : (v : Verdict) → area (reply v done refused) ≡ work_after (says (reply v done refused)) work
    area_left Fine = p ∙ sym (ap (λ (u : Verdict). work_after u work) f)
    area_left (Refused r) = q r ∙ sym (ap (λ (u : Verdict). work_after u work) (g r))

pub by_lines : (ls : List Line) → others 0 ls ≡ true → (v : Verdict) → v ≡ verdict ls → ByLines v ls
by_lines ls o v e = record {
  listed = cases v e;
  exactly = λ k some. rw e (given ls k some);
  done = rw e (done ls o);
}
  where
    cases : (u : Verdict) → u ≡ verdict ls → (u ≡ Fine) ⊎ Given (number_of u) ls
    cases Fine q = inl refl
    cases (Refused r) q = inr ((given ls r.number (another ls 0 r o (sym q))).0 (ap number_of (sym q)))

-- lines that are in order with others after them
pub order_before : (ls ms : List Line) → InOrder (ls ++ ms) → InOrder ls
order_before [] ms w = tt
order_before (l ∷ ls) ms w = (w.0, order_before ls ms w.1)

-- where its lines name something by some numbers alone, a verdict by another names nothing
pub no_place : (p : ℕ → Bool) (ls : List Line) → naming_only p ls ≡ true → {v : Verdict} → v ≡ verdict ls
    → p (number_of v) ≡ false → place_of v ≡ 0
no_place p ls only says h =
    ap place_of says ∙ names_nothing p ls only (ap (λ (v : Verdict). p (number_of v)) (sym says) ∙ h)

-- a work area after 0 or 8 is zeros
pub work_cleared : (v : Verdict) (work : List ℕ) → (number_of v ≡ 0) ⊎ (number_of v ≡ 8) → work_after v work
    ≡ replicate (length work) 0
work_cleared v work (inl e) = rw e
work_cleared v work (inr e) = rw e
