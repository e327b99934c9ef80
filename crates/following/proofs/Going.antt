-- A step's literals and hints, one after the other. Assumes nothing.
use mathlib.Core.Path.{◌≡◌, refl, sym, ap, ap₂, ◌∙◌}
use mathlib.Core.Logic.{inl}
use mathlib.Core.Bool.{Bool, true, false, cond}
use mathlib.Core.List.{List}
use Prim.Native.Nat.{ℕ, zero, suc, ◌+◌, ◌/◌, ◌<◌, ◌≤◌}
use native.Mathlib.Decide.{dec_lt}
use native.Mathlib.Numerals.{add-one}
use native.Mathlib.Omega.{arith}
use borrow.Author.Tests.{eq-eqb, ne_eqb}
use Rattle.bits.specs.Lists.{byte_at}
use Rattle.following.specs.declared.open.Open.{Open}
use Rattle.following.specs.declared.open.Open.TheVariants.{Nothing, One, Several}
use Rattle.following.specs.declared.trail.Trail.{Trail}
use Rattle.following.specs.Values.{made, not_set, open_in}
use Rattle.following.specs.Following.{Following, conflict, going, denying, by_open, hinting, denied, used, is_conflict}
use Rattle.following.specs.Standing.{Trailed, Kept, Stands, Clean}
use Rattle.following.proofs.Reading.{AllBelow, open_agree}

pub kept_same : (all from : ℕ) (work : List ℕ) → Kept all from work work
kept_same all from work = record { long = refl; marks = λ j a b. refl }

pub kept_then : {all from : ℕ} {a b d : List ℕ} → Kept all from a b → Kept all from b d → Kept all from a d
kept_then x y = record { long = y.long ∙ x.long; marks = λ j p q. y.marks j p q ∙ x.marks j p q }

abbrev trail : Bool → ℕ → Trail
trail t n = record { conflict = t; set = n }

-- ---- one hint

module _ (all from n : ℕ) (σ : ℕ → ℕ) (work ls : List ℕ) (b : AllBelow all ls) (t : Trailed all from σ n work) where
  pub open_is : {o : Open} → o ≡ open_in (byte_at work) ls → hinting ls (going σ) ≡ by_open σ o
  open_is {o} e = ap (by_open σ) (sym (e ∙ open_agree all (byte_at work) σ t.values Nothing ls b))

  pub hint_conflict : {o : Open} → o ≡ open_in (byte_at work) ls → o ≡ Nothing
      → Stands all from work (hinting ls (going σ)) work (trail true n)
  hint_conflict {o} e h = record {
    values = σ;
    trailed = t;
    kept = kept_same all from work;
    is = open_is e ∙ ap (by_open σ) h;
  }

  pub hint_several : {o : Open} → o ≡ open_in (byte_at work) ls → o ≡ Several
      → Stands all from work (hinting ls (going σ)) work (trail false n)
  hint_several {o} e h = record {
    values = σ;
    trailed = t;
    kept = kept_same all from work;
    is = open_is e ∙ ap (by_open σ) h;
  }

  module _ (l : ℕ) (la : l / 2 < all) {o : Open} (e : o ≡ open_in (byte_at work) ls) (h : o ≡ One l) where
    value' : byte_at work (l / 2) ≡ σ (l / 2)
    value' = t.values (l / 2) la

    pub hint-set : (byte_at work (l / 2) ≡ 0 → ⊥) → Stands all from work (hinting ls (going σ)) work (trail false n)
    hint-set g = record {
      values = σ;
      trailed = t;
      kept = kept_same all from work;
      is = open_is e ∙ ap (by_open σ) h
          ∙ ap (λ (b : Bool). cond b (going (made σ l)) (going σ)) (ne_eqb (σ (l / 2)) 0 (λ z. g (value' ∙ z)));
    }

    pub hint-made : (after : List ℕ) → byte_at work (l / 2) ≡ 0
        → Trailed all from (made σ l) (n + 1) after × Kept all from work after
        → Stands all from work (hinting ls (going σ)) after (trail false (n + 1))
    hint-made after g m = record {
      values = made σ l;
      trailed = m.0;
      kept = m.1;
      is = open_is e ∙ ap (by_open σ) h
          ∙ ap (λ (b : Bool). cond b (going (made σ l)) (going σ)) (eq-eqb (σ (l / 2)) 0 (sym value' ∙ g));
    }

-- ---- all literals, and all hints

-- nothing is set yet
pub none-denied : (all from : ℕ) (work : List ℕ) (f : ℕ → ℕ) → Clean all work
    → Stands all from work (denied f 0) work (trail false 0)
unfolding denied
none-denied all from work f h = record {
  values = not_set;
  trailed = record { values = h; trail = λ v k. inl refl; below = λ e k. absurd (omega arith) };
  kept = kept_same all from work;
  is = refl;
}

-- where it stands without a conflict
pub still : {all from : ℕ} {before : List ℕ} {f : Following} {work : List ℕ} {t : Trail} (s : Stands all from before f work t)
    → t.conflict ≡ false → f ≡ going s.values
still {f = f} s h = s.is ∙ ap (λ (b : Bool). cond b conflict (going s.values)) h

pub stuck : {all from : ℕ} {before : List ℕ} {f : Following} {work : List ℕ} {t : Trail} (s : Stands all from before f work t)
    → t.conflict ≡ true → f ≡ conflict
stuck {f = f} s h = s.is ∙ ap (λ (b : Bool). cond b conflict (going s.values)) h

-- one step further
pub further : {all from : ℕ} {before mid after : List ℕ} {f g : Following} {t r : Trail}
    (s : Stands all from before f mid t) → Stands all from mid g after r → Stands all from before g after r
further s u = record {
  values = u.values;
  trailed = u.trailed;
  kept = kept_then s.kept u.kept;
  is = u.is;
}

-- a conflict stays one
pub denied_stays : (f : ℕ → ℕ) (k n : ℕ) → k ≤ n → denied f k ≡ conflict → denied f n ≡ conflict
unfolding denied
denied_stays f k zero l h = let z : k ≡ 0 = omega arith in sym (ap (denied f) z) ∙ h
denied_stays f k (suc n) l h = elim (dec_lt n k) [
  | yes d ↦ (let z : k ≡ suc n = omega arith in sym (ap (denied f) z) ∙ h)
  | no d ↦ ap (denying (f n)) (denied_stays f k n (omega arith) h)
]

pub used_stays : (g : ℕ → List ℕ) (s : Following) (k n : ℕ) → k ≤ n → used g s k ≡ conflict → used g s n ≡ conflict
unfolding used
used_stays g s k zero l h = let z : k ≡ 0 = omega arith in sym (ap (used g s) z) ∙ h
used_stays g s k (suc n) l h = elim (dec_lt n k) [
  | yes d ↦ (let z : k ≡ suc n = omega arith in sym (ap (used g s) z) ∙ h)
  | no d ↦ ap (hinting (g n)) (used_stays g s k n (omega arith) h)
]

pub denied_more : (f : ℕ → ℕ) (k : ℕ) → denied f (k + 1) ≡ denying (f k) (denied f k)
unfolding denied
denied_more f k = ap (denied f) (add-one k)

pub used_more : (g : ℕ → List ℕ) (s : Following) (k : ℕ) → used g s (k + 1) ≡ hinting (g k) (used g s k)
unfolding used
used_more g s k = ap (used g s) (add-one k)

-- where it stands is what it was to come to
pub same_standing : {all from : ℕ} {before work : List ℕ} {f g : Following} {t : Trail} → Stands all from before f work t
    → f ≡ g → Stands all from before g work t
same_standing s e = record { values = s.values; trailed = s.trailed; kept = s.kept; is = sym e ∙ s.is }

pub conflict_is : {all from : ℕ} {before work : List ℕ} {f : Following} {t : Trail} → Stands all from before f work t
    → t.conflict ≡ is_conflict f
conflict_is {f = f} {t = t} s = go t.conflict s.is
  where
    go : (b : Bool) → f ≡ cond b conflict (going s.values) → b ≡ is_conflict f
    go true e = sym (ap is_conflict e)
    go false e = sym (ap is_conflict e)

-- a literal more, and a hint more
pub denied-step : {all from l : ℕ} (f : ℕ → ℕ) (k : ℕ) {before mid after : List ℕ} {t r : Trail}
    (s : Stands all from before (denied f k) mid t) → t.conflict ≡ false → l ≡ f k
    → Stands all from mid (denying l (going s.values)) after r → Stands all from before (denied f (k + 1)) after r
denied-step f k s h e u = same_standing (further s u) (ap₂ denying e (sym (still s h)) ∙ sym (denied_more f k))

pub used_step : {all from : ℕ} (g : ℕ → List ℕ) (f : Following) (k : ℕ) {before mid after ls : List ℕ} {t r : Trail}
    (s : Stands all from before (used g f k) mid t) → t.conflict ≡ false → ls ≡ g k
    → Stands all from mid (hinting ls (going s.values)) after r → Stands all from before (used g f (k + 1)) after r
used_step g f k s h e u = same_standing (further s u) (ap₂ hinting e (sym (still s h)) ∙ sym (used_more g f k))

-- after a conflict nothing changes any more
pub denied_done : {all from : ℕ} (f : ℕ → ℕ) (k n : ℕ) {before work : List ℕ} {t : Trail}
    → Stands all from before (denied f k) work t → t.conflict ≡ true → k ≤ n → Stands all from before (denied f n) work t
denied_done f k n s h l = same_standing s (stuck s h ∙ sym (denied_stays f k n l (stuck s h)))

pub used_done : {all from : ℕ} (g : ℕ → List ℕ) (f : Following) (k n : ℕ) {before work : List ℕ} {t : Trail}
    → Stands all from before (used g f k) work t → t.conflict ≡ true → k ≤ n → Stands all from before (used g f n) work t
used_done g f k n s h l = same_standing s (stuck s h ∙ sym (used_stays g f k n l (stuck s h)))
