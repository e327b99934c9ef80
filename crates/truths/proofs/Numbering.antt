-- Variables by their numbers: each that is named has a number of its own, so that values of the variables are values of
-- the numbers. Assumes nothing.
use mathlib.Core.Path.{◌≡◌, ap, ap₂, ◌∙◌}
use mathlib.Core.Bool.{Bool, true, cond, not}
use mathlib.Core.List.{List, [], ◌∷◌, map}
use Prim.Native.Nat.{ℕ, ◌+◌, ◌-◌, ◌*◌, ◌/◌, ◌%◌, ◌<◌}
use native.Mathlib.Nat.{mul-add-div_right, mul-add-mod_self_right, div-eq_of_lt, mod-eq_of_lt}
use native.Mathlib.Nat.{mul-le-mul_right, suc-mul}
use native.Mathlib.Omega.{arith}
use lib.Dec.{ltb, eqb}
use borrow.Author.Tests.{lt-ltb, le-ltb}
use Rattle.bits.specs.Numbers.{flipped}
use Rattle.bits.proofs.Bools.{or_left, or_right}
use Rattle.clauses.specs.declared.variables.Size.{Size}
use Rattle.clauses.specs.declared.variables.Variable.{Variable}
use Rattle.clauses.specs.declared.variables.Variable.TheVariants.{Reads, Many, Differ, Apart, Same}
use Rattle.clauses.specs.declared.variables.Literal.{Literal}
use Rattle.clauses.specs.declared.variables.Literal.TheVariants.{Said, Denied}
use Rattle.clauses.specs.Variables.{signals, reads_many, many_many, differ_many, apart_many}
use Rattle.clauses.specs.Variables.{differ_from, apart_from, same_from, number_of, Named, literal_of, variable_of}
use Rattle.truths.specs.Meaning.{is_true, says, some_true}
use Rattle.truths.proofs.OneTrue.{OneTrue, here, next}

-- ---- digits

high : (a b k : ℕ) → b < k → (a * k + b) / k ≡ a
high a b k h = mul-add-div_right {m = k} (omega arith) a b ∙ ap (λ (d : ℕ). a + d) (div-eq_of_lt h) ∙ omega arith

low : (a b k : ℕ) → b < k → (a * k + b) % k ≡ b
low a b k h = mul-add-mod_self_right a k b ∙ mod-eq_of_lt h

fits : {a n b k : ℕ} → a < n → b < k → a * k + b < n * k
fits {a} {n} {b} {k} h l = omega (arith, mul-le-mul_right k h, suc-mul a k)

-- a variable of a number's three digits, the lower two below k and l
digits : (ℕ → ℕ → ℕ → Variable) → ℕ → ℕ → ℕ → Variable
digits x k l u = x (u / l / k) (u / l % k) (u % l)

digits_back : (x : ℕ → ℕ → ℕ → Variable) (k l a b c : ℕ) → b < k → c < l → digits x k l ((a * k + b) * l + c) ≡ x a b c
unfolding digits
digits_back x k l a b c h g =
    ap₂ (λ (v w : ℕ). x (v / k) (v % k) w) (high (a * k + b) c l g) (low (a * k + b) c l g)
    ∙ ap₂ (λ (v w : ℕ). x v w c) (high a b k h) (low a b k h)

-- ---- the variable with a number
module _ (z : Size) where
  abbrev many_at : ℕ → Variable
  many_at = digits Many (signals z + 1) (z.cell + 2)

  abbrev differ_at : ℕ → Variable
  differ_at = digits Differ z.rows z.rows

  abbrev apart_at : ℕ → Variable
  apart_at = digits (λ w. Apart (w / z.cells) (w % z.cells)) z.rows z.rows

  abbrev same_at : ℕ → Variable
  same_at = digits Same z.inputs (z.cells + 1)

  pub variable_at : ℕ → Variable
  variable_at v =
      cond (ltb v (reads_many z)) (Reads (v / signals z) (v % signals z))
      (cond (ltb v (differ_from z)) (many_at (v - reads_many z))
      (cond (ltb v (apart_from z)) (differ_at (v - differ_from z))
      (cond (ltb v (same_from z)) (apart_at (v - apart_from z)) (same_at (v - same_from z)))))

  -- behind the numbers below f
  behind : (f u : ℕ) → f + u - f ≡ u
  behind f u = omega arith

  pub variable_back : (x : Variable) → Named z x → variable_at (number_of z x) ≡ x
  unfolding variable_at number_of reads_many many_many differ_many apart_many
  variable_back (Reads i p) e =
      rw (lt-ltb (i * signals z + p) (reads_many z) (fits e.0 e.1))
      (ap₂ Reads (high i p (signals z) e.1) (low i p (signals z) e.1))
  variable_back (Many i p t) e =
      let u = (i * (signals z + 1) + p) * (z.cell + 2) + t in
      let g : u < many_many z = fits (fits e.0 e.1) e.2 in
      rw (le-ltb (reads_many z + u) (reads_many z) (omega arith), lt-ltb (reads_many z + u) (differ_from z) (omega arith))
      (ap many_at (behind (reads_many z) u) ∙ digits_back Many (signals z + 1) (z.cell + 2) i p t e.1 e.2)
  variable_back (Differ i a b) e =
      let u = (i * z.rows + a) * z.rows + b in
      let v = differ_from z + u in
      let g : u < differ_many z = fits (fits e.0 e.1) e.2 in
      rw (
        le-ltb v (reads_many z) (omega arith),
        le-ltb v (differ_from z) (omega arith),
        lt-ltb v (apart_from z) (omega arith),
      ) (ap differ_at (behind (differ_from z) u) ∙ digits_back Differ z.rows z.rows i a b e.1 e.2)
  variable_back (Apart i j a b) e =
      let w = i * z.cells + j in
      let u = (w * z.rows + a) * z.rows + b in
      let v = apart_from z + u in
      let g : u < apart_many z = fits (fits (fits e.0 e.1) e.2) e.3 in
      rw (
        le-ltb v (reads_many z) (omega arith),
        le-ltb v (differ_from z) (omega arith),
        le-ltb v (apart_from z) (omega arith),
        lt-ltb v (same_from z) (omega arith),
      )
      (ap apart_at (behind (apart_from z) u)
      ∙ digits_back (λ w. Apart (w / z.cells) (w % z.cells)) z.rows z.rows w a b e.2 e.3
      ∙ ap₂ (λ (i j : ℕ). Apart i j a b) (high i j z.cells e.1) (low i j z.cells e.1))
  variable_back (Same p q i) e =
      let u = (p * z.inputs + q) * (z.cells + 1) + i in
      let v = same_from z + u in
      rw (
        le-ltb v (reads_many z) (omega arith),
        le-ltb v (differ_from z) (omega arith),
        le-ltb v (apart_from z) (omega arith),
        le-ltb v (same_from z) (omega arith),
      ) (ap same_at (behind (same_from z) u) ∙ digits_back Same z.inputs (z.cells + 1) p q i e.1 e.2)

  -- ---- values of variables as values of their numbers
  module _ (h : Variable → Bool) where
    abbrev pub numbered : ℕ → Bool
    numbered v = h (variable_at v)

    says_is : (l : Literal) → Named z (variable_of l) → says numbered (literal_of z l) ≡ is_true h l
    says_is (Said x) e =
        let k = number_of z x in
        let a : 2 * k % 2 ≡ 0 = omega arith in
        let b : 2 * k / 2 ≡ k = omega arith in
        ap₂ (λ (r d : ℕ). flipped (eqb r 1) (numbered d)) a b ∙ ap h (variable_back x e)
    says_is (Denied x) e =
        let k = number_of z x in
        let a : (2 * k + 1) % 2 ≡ 1 = omega arith in
        let b : (2 * k + 1) / 2 ≡ k = omega arith in
        ap₂ (λ (r d : ℕ). flipped (eqb r 1) (numbered d)) a b ∙ ap (λ (x : Variable). not (h x)) (variable_back x e)

    pub one-says : (ls : List Literal) → OneTrue z h ls → some_true numbered (map (literal_of z) ls) ≡ true
    one-says [] t = elim t [ ]
    one-says (l ∷ ls) (here e t) =
        or_left (says numbered (literal_of z l)) (some_true numbered (map (literal_of z) ls)) (says_is l e ∙ t)
    one-says (l ∷ ls) (next t) =
        or_right (says numbered (literal_of z l)) (some_true numbered (map (literal_of z) ls)) (one-says ls t)
