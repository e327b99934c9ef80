-- What reading a text once says of it, and the stretches of its values. Assumes nothing.
use mathlib.Core.Path.{◌≡◌, refl, sym, ap, ◌∙◌, subst}
use mathlib.Core.Bool.{Bool, false, cond}
use mathlib.Core.List.{List, [], ◌∷◌}
use Prim.Native.Nat.{ℕ, ◌<◌, ◌≤◌}
use native.Mathlib.Omega.{arith}
use lib.ListN.{length}
use borrow.Author.Tests.{eq-eqb, ne_eqb}
use Rattle.refusals.specs.Verdicts.{Fine, Refused}
use Rattle.refusals.specs.Lines.{refusal, naming, verdict}
use Rattle.values.specs.declared.stretches.Stretch.{Stretch}
use Rattle.values.specs.Formula.{Formula, value}
use Rattle.formulas.specs.Text.{byte_at, most_text, most_levels}
use Rattle.formulas.specs.Reading.{Reading, up_to, reader, TextAnswer, formula, refused, ended, text_of, value_in}
use Rattle.formulas.specs.Reading.{TextSays, enough}
use Rattle.formulas.specs.Words.{TextRead, read_to, stuck_at, Yields}
use Rattle.values.specs.Stretches.{stretch_of}
use Rattle.formulas.specs.Refusals.{is_refused, place_in, bad_text}
use Rattle.formulas.proofs.Steps.{Run, runs}
use Rattle.formulas.proofs.Place.{told, whole_run, text_of_lem, short_text_lem}
use Rattle.formulas.proofs.Words.{read_no, read_value, ahead}

-- the text is a formula, and not too long
pub record Good (n : ℕ) (s : List ℕ) : Type 0 where
  pub tree : Formula
  pub is : text_of n s ≡ formula tree
  pub short : length s ≤ most_text

-- ---- line 16

module _ (n : ℕ) (s : List ℕ) where
  pub text_refused : {p : ℕ} → text_of n s ≡ refused p → Refused (refusal 16 p) ≡ verdict (bad_text n s ∷ [])
  text_refused e = sym (ap (λ (a : TextAnswer). verdict (naming 16 (place_in a) (is_refused a) ∷ [])) e)

  pub text_fine : Good n s → Fine ≡ verdict (bad_text n s ∷ [])
  text_fine g = sym (ap (λ (a : TextAnswer). verdict (naming 16 (place_in a) (is_refused a) ∷ [])) g.is)

  pub good_text : (bad_text n s).holds ≡ false → Good n s
  good_text h = go (text_of n s) refl h
    where
      go : (a : TextAnswer) → text_of n s ≡ a → is_refused a ≡ false → Good n s
      go (formula F) e h = record { tree = F; is = e; short = short_text_lem n s F e }
      go (refused p) e h = absurd (let z : ◌≡◌ {A = ℕ} 0 1 = cc in omega arith)

-- ---- the readings of a text

module _ (n : ℕ) (s : List ℕ) (h : length s ≤ most_text) where
  text_to : {g : Reading} → reader (byte_at s) n enough 3 most_levels 0 ≡ g → text_of n s ≡ ended (length s) g
  text_to e = text_of_lem n s h ∙ ap (ended (length s)) e

  pub text_bad : {r : TextRead} {p w : ℕ} → r ≡ stuck_at p → Yields s n 3 most_levels 0 w r → text_of n s ≡ refused p
  text_bad e g = text_to (runs (byte_at s) n (read_no e g enough (omega arith)))

  pub text_left : {r : TextRead} {v : Stretch} {q w : ℕ} → r ≡ read_to v q → Yields s n 3 most_levels 0 w r → q < length s
      → text_of n s ≡ refused q
  text_left {r} {v} {q} {w} e g l = go (read_value e g enough (omega arith))
    where
      go : (F : Formula) × Run (byte_at s) n enough 3 most_levels 0 (up_to F q) × (v ≡ stretch_of (value F) w) → text_of n s
          ≡ refused q
      go x = text_to (runs (byte_at s) n x.1) ∙ ap (λ (t : Bool). cond t (formula x.0) (refused q))
          (ne_eqb q (length s) (λ z. omega arith))

  pub text_good : {r : TextRead} {v : Stretch} {q w : ℕ} → r ≡ read_to v q → Yields s n 3 most_levels 0 w r → length s ≤ q
      → Good n s
  text_good {r} {v} {q} {w} e g l = go (read_value e g enough (omega arith)) (ahead e g (omega arith))
    where
      go : (F : Formula) × Run (byte_at s) n enough 3 most_levels 0 (up_to F q) × (v ≡ stretch_of (value F) w) → (0 < q)
          × (q ≤ length s) → Good n s
      go x y = record {
        tree = x.0;
        is = text_to (runs (byte_at s) n x.1) ∙ ap (λ (t : Bool). cond t (formula x.0) (refused q))
            (eq-eqb q (length s) (omega arith));
        short = h;
      }

-- ---- the stretches of a text

module _ (n : ℕ) (s : List ℕ) (g : Good n s) where
  good_reading : reader (byte_at s) n enough 3 most_levels 0 ≡ up_to g.tree (length s)
  good_reading =
      runs (byte_at s) n (whole_run n s g.tree (subst (TextSays n s) g.is (told n s g.short)) enough
      (omega (arith, g.short)))

  pub stretch_stuck : {r : TextRead} {p w : ℕ} → r ≡ stuck_at p → Yields s n 3 most_levels 0 w r → ⊥
  stretch_stuck e k =
      let a = sym good_reading ∙ runs (byte_at s) n (read_no e k enough (omega (arith, g.short))) in
      let z : ◌≡◌ {A = ℕ} 0 1 = cc in omega arith

  pub stretch_found : {r : TextRead} {v : Stretch} {q w : ℕ} → r ≡ read_to v q → Yields s n 3 most_levels 0 w r → v
      ≡ stretch_of (value_in (text_of n s)) w
  stretch_found {r} {v} {q} {w} e k = go (read_value e k enough (omega (arith, g.short)))
    where
      go : (F : Formula) × Run (byte_at s) n enough 3 most_levels 0 (up_to F q) × (v ≡ stretch_of (value F) w) → v
          ≡ stretch_of (value_in (text_of n s)) w
      go y =
          let a = sym good_reading ∙ runs (byte_at s) n y.1 in
          let b : g.tree ≡ y.0 = cc in
          y.2 ∙ ap (λ (F : Formula). stretch_of (value F) w) (sym b)
          ∙ ap (λ (a : TextAnswer). stretch_of (value_in a) w) (sym g.is)
