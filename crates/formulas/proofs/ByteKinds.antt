-- What a byte of a text is to the reader: each kind by the byte, and the byte by its kind. Assumes nothing.
use mathlib.Core.Path.{◌≡◌, refl, subst}
use mathlib.Core.Bool.{Bool, true, false, cond}
use Prim.Native.Nat.{ℕ, ◌+◌, ◌-◌, ◌<◌, ◌≤◌}
use native.Mathlib.Omega.{arith}
use lib.Dec.{eqb, ltb}
use borrow.Author.Tests.{ne_eqb, eqb-true, ltb-true, ltb-false, lt-ltb, le-ltb}
use Rattle.formulas.specs.Reading.{Kind, bang, opening, digit, input, other, kind}

pub data View (n b : ℕ) : Kind → Type 0 where
  v_bang : b ≡ 33 → View n b bang
  v_open : b ≡ 40 → View n b opening
  v_zero : b ≡ 48 → View n b (digit false)
  v_one : b ≡ 49 → View n b (digit true)
  v_input : (j : ℕ) → j < n → b ≡ 97 + j → View n b (input j)
  v_other : View n b other

view : (n b : ℕ) → View n b (kind n b)
view n b = go1 (eqb b 33) refl
  where
    go6 : ltb b 97 ≡ false → (t : Bool) → ltb b (97 + n) ≡ t → View n b (cond t (input (b - 97)) other)
    go6 h true e = let l = ltb-true b (97 + n) e in let m = ltb-false b 97 h
        in v_input (b - 97) (omega arith) (omega arith)
    go6 h false e = v_other

    go5 : (t : Bool) → ltb b 97 ≡ t → View n b (cond t other (cond (ltb b (97 + n)) (input (b - 97)) other))
    go5 true e = v_other
    go5 false e = go6 e (ltb b (97 + n)) refl

    go4 : (t : Bool) → eqb b 49 ≡ t → View n b (cond t (digit true)
        (cond (ltb b 97) other (cond (ltb b (97 + n)) (input (b - 97)) other)))
    go4 true e = v_one (eqb-true b 49 e)
    go4 false e = go5 (ltb b 97) refl

    go3 : (t : Bool) → eqb b 48 ≡ t → View n b (cond t (digit false)
        (cond (eqb b 49) (digit true) (cond (ltb b 97) other (cond (ltb b (97 + n)) (input (b - 97)) other))))
    go3 true e = v_zero (eqb-true b 48 e)
    go3 false e = go4 (eqb b 49) refl

    go2 : (t : Bool) → eqb b 40 ≡ t
        → View n b (cond t opening (cond (eqb b 48) (digit false)
        (cond (eqb b 49) (digit true) (cond (ltb b 97) other (cond (ltb b (97 + n)) (input (b - 97)) other)))))
    go2 true e = v_open (eqb-true b 40 e)
    go2 false e = go3 (eqb b 48) refl

    go1 : (t : Bool) → eqb b 33 ≡ t
        → View n b (cond t bang (cond (eqb b 40) opening
        (cond (eqb b 48) (digit false) (cond (eqb b 49) (digit true)
        (cond (ltb b 97) other (cond (ltb b (97 + n)) (input (b - 97)) other))))))
    go1 true e = v_bang (eqb-true b 33 e)
    go1 false e = go2 (eqb b 40) refl

pub viewed : (n b : ℕ) (t : Kind) → kind n b ≡ t → View n b t
viewed n b t e = subst (λ (u : Kind). View n b u) e (view n b)

pub is_bang : (n b : ℕ) → View n b bang → b ≡ 33
is_bang n b (v_bang e) = e

pub is_open : (n b : ℕ) → View n b opening → b ≡ 40
is_open n b (v_open e) = e

pub kind_bang : (n b : ℕ) → b ≡ 33 → kind n b ≡ bang
kind_bang n b e = rw e

pub kind_open : (n b : ℕ) → b ≡ 40 → kind n b ≡ opening
kind_open n b e = rw e

pub kind-zero : (n b : ℕ) → b ≡ 48 → kind n b ≡ digit false
kind-zero n b e = rw e

pub kind-one : (n b : ℕ) → b ≡ 49 → kind n b ≡ digit true
kind-one n b e = rw e

pub kind_input : (n b : ℕ) → 97 ≤ b → b < 97 + n → kind n b ≡ input (b - 97)
kind_input n b h l =
    rw (
      ne_eqb b 33 (λ e. omega arith),
      ne_eqb b 40 (λ e. omega arith),
      ne_eqb b 48 (λ e. omega arith),
      ne_eqb b 49
          (λ e. omega arith),
      le-ltb b 97 h,
      lt-ltb b (97 + n) l,
    )

pub kind_other : (n b : ℕ) → (b ≡ 33 → ⊥) → (b ≡ 40 → ⊥) → (b ≡ 48 → ⊥) → (b ≡ 49 → ⊥) → (97 ≤ b → b < 97 + n → ⊥)
    → kind n b ≡ other
kind_other n b h1 h2 h3 h4 h5 = go (view n b)
  where
    go : {t : Kind} → View n b t → t ≡ other
    go (v_bang e) = absurd (h1 e)
    go (v_open e) = absurd (h2 e)
    go (v_zero e) = absurd (h3 e)
    go (v_one e) = absurd (h4 e)
    go (v_input j l e) = absurd (h5 (omega arith) (omega arith))
    go v_other = refl
