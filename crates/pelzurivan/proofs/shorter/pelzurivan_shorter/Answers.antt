-- `pelzurivan_shorter` meets its contract: which, the part's length and the number are those of the call's outcome.
-- Assumes nothing.
use mathlib.Core.Path.{◌≡◌, refl, sym, ap, ◌∙◌}
use mathlib.Core.List.{List}
use Prim.Native.Nat.{ℕ}
use lib.ListN.{length}
use Rattle.std.proofs.Common.{Result, Ok}
use Rattle.refusals.specs.Lines.{number_of}
use Rattle.refusals.specs.declared.verdicts.Refusal.{Refusal as Why}
use Rattle.comparing.specs.declared.shorter.Which.{Which}
use Rattle.comparing.specs.declared.shorter.Which.TheVariants.{First, Second}
use Rattle.comparing.specs.Shorter.{Kept, kept_of, part_of}
use Rattle.pelzurivan.specs.Shorter.{shorter_c}
use Rattle.pelzurivan.proofs.shorter.pelzurivan_shorter.Goals as goal

told : (k : Kept) (w n : ℕ) (part x y : List ℕ) → w ≡ k.which → part ≡ part_of w x y → n ≡ number_of k.verdict
    → record { which = w; length = length part; number = n } ≡ shorter_c k x y
told k w n part x y p q e = rw (q, p, e) refl

-- a sheet that is kept is no refusal
fine : (w : Which) → 0 ≡ number_of (kept_of (Ok w)).verdict
fine First = refl
fine Second = refl

pub returns-in-Ok : goal.returns-in-Ok
returns-in-Ok c =
    let a = c.args in
    told (kept_of c.keep_shorter-kept.result) _ _ _ _ _ c.number_kept-which.ensures c.part_of.ensures
    (fine c.in-Ok.field-0 ∙ sym (ap (λ (r : Result Which Why). number_of (kept_of r).verdict) c.in-Ok.is))
    ∙ ap (λ (k : Kept). shorter_c k a.first.now a.second.now) c.keep_shorter-kept.ensures

pub returns-in-Err : goal.returns-in-Err
returns-in-Err c =
    let a = c.args in
    told (kept_of c.keep_shorter-kept.result) _ _ _ _ _ c.number_kept-which.ensures c.part_of.ensures
    (c.number.ensures ∙ sym (ap (λ (r : Result Which Why). number_of (kept_of r).verdict) c.in-Err.is))
    ∙ ap (λ (k : Kept). shorter_c k a.first.now a.second.now) c.keep_shorter-kept.ensures
