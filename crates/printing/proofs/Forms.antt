-- The forms of tables: which tables have one, that it gives the table's bits, and its mark's level. Assumes nothing.
use mathlib.Core.Path.{◌≡◌, refl, sym, ap, ap₂, ◌∙◌}
use mathlib.Core.Bool.{Bool, true, false, cond, not, ◌&&◌, beq}
use Prim.Native.Nat.{ℕ, zero, suc, ◌+◌, ◌*◌, ◌^◌, ◌<◌, ◌≤◌}
use native.Mathlib.Omega.{arith}
use lib.Dec.{eqb, ltb}
use borrow.Author.Tests.{ne_eqb, eqb-true, lt-ltb, ltb-true}
use Rattle.bits.specs.Numbers.{bit, val, number}
use Rattle.bits.specs.Below.{every}
use Rattle.bits.proofs.Bools.{beq_same}
use Rattle.bits.proofs.Below.{every_at}
use Rattle.bits.proofs.Numbers.{bit-number, number_lt}
use Rattle.tables.specs.Depends.{DependsOn}
use Rattle.tables.specs.Counting.{counts, support}
use Rattle.tables.proofs.Depending.{support_counting, support_all}
use Rattle.values.specs.Formula.{Formula, value, join}
use Rattle.formulas.specs.Text.{mark}
use Rattle.std.proofs.Common.{Some, None}
use Rattle.std.specs.Option.{is_some}
use Rattle.printing.specs.declared.pairs.Form.{Form}
use Rattle.printing.specs.Forms.{mark_of, flips_low, flips_high, the_form, form_of}
use Rattle.printing.specs.Print.{level_of, negated_if, one_formula, two_formula}

-- ---- a table has a mark exactly if it depends on both signals

same_test : ℕ → Bool
same_test t = beq (ltb 0 (mark_of t)) (bit (support 2 (bit t)) 0 && bit (support 2 (bit t)) 1)

all_same : every 16 same_test ≡ true
unfolding same_test support counts number
all_same = refl

marks : (t : ℕ) → t < 16 → ltb 0 (mark_of t) ≡ (bit (support 2 (bit t)) 0 && bit (support 2 (bit t)) 1)
unfolding same_test
marks t h = beq_same (ltb 0 (mark_of t)) _ (every_at 16 same_test all_same t h)

and_both : (s t : Bool) → (s && t) ≡ true → (s ≡ true) × (t ≡ true)
and_both true true e = (refl, refl)
and_both true false e = (refl, e)
and_both false t e = (e, cc)

pub mark_depends : (t : ℕ) → t < 16 → 0 < mark_of t → (j : ℕ) → j < 2 → DependsOn 2 (bit t) j
mark_depends t h g j l = support_counting 2 (bit t) j l (go j l)
  where
    both : (bit (support 2 (bit t)) 0 ≡ true) × (bit (support 2 (bit t)) 1 ≡ true)
    both = and_both (bit (support 2 (bit t)) 0) (bit (support 2 (bit t)) 1) (sym (marks t h) ∙ lt-ltb 0 (mark_of t) g)

    go : (j : ℕ) → j < 2 → bit (support 2 (bit t)) j ≡ true
    go zero l = both.0
    go (suc zero) l = both.1
    go (suc (suc j)) l = absurd (omega arith)

pub depends_mark : (t : ℕ) → t < 16 → ((j : ℕ) → j < 2 → DependsOn 2 (bit t) j) → 0 < mark_of t
depends_mark t h d =
    ltb-true 0 (mark_of t) (marks t h ∙ ap₂ (λ (a b : Bool). a && b)
    (support_all 2 (bit t) 0 (omega arith) (d 0 (omega arith)))
    (support_all 2 (bit t) 1 (omega arith) (d 1 (omega arith))))

-- ---- the form of a table

pub form_is : (t : ℕ) {f : Form} → Some f ≡ form_of t → f ≡ the_form t
form_is t {f} h = go (ltb 0 (mark_of t)) h
  where
    go : (b : Bool) → Some f ≡ cond b (Some (the_form t)) None → f ≡ the_form t
    go true e = cc
    go false e = cc

pub form_some : (t : ℕ) → is_some (form_of t) ≡ ltb 0 (mark_of t)
form_some t = go (ltb 0 (mark_of t))
  where
    go : (b : Bool) → is_some (cond b (Some (the_form t)) None) ≡ b
    go true = refl
    go false = refl

-- ---- its mark is that of its level

pub level_le : (t : ℕ) → level_of t ≤ 2
level_le t = go (eqb (mark_of t) 38) (eqb (mark_of t) 94)
  where
    go : (a b : Bool) → cond a 0 (cond b 1 2) ≤ 2
    go true b = omega arith
    go false true = omega arith
    go false false = omega arith

right_mark : ℕ → Bool
right_mark t = cond (eqb (mark_of t) 0) true (eqb (mark_of t) (mark (level_of t)))

all_marks : every 16 right_mark ≡ true
unfolding right_mark
all_marks = refl

pub mark-of : (t : ℕ) → t < 16 → 0 < mark_of t → mark_of t ≡ mark (level_of t)
unfolding right_mark
mark-of t h l =
    eqb-true (mark_of t) (mark (level_of t))
    (ap (λ (u : Bool). cond u true (eqb (mark_of t) (mark (level_of t)))) (sym (ne_eqb (mark_of t) 0 (λ e. omega arith)))
    ∙ every_at 16 right_mark all_marks t h)

-- ---- it gives the table's bits

flip : Bool → Bool → Bool
flip true b = not b
flip false b = b

value-flip : (f : Bool) (F : Formula) (x : ℕ) → value (negated_if f F) x ≡ flip f (value F x)
unfolding value flip
value-flip true F x = refl
value-flip false F x = refl

right_bit : ℕ → ℕ → Bool
right_bit t z = beq (join (level_of t) (flip (flips_low t) (bit z 0)) (flip (flips_high t) (bit z 1))) (bit t z)

right_bits : ℕ → Bool
right_bits t = cond (eqb (mark_of t) 0) true (every 4 (right_bit t))

all_bits : every 16 right_bits ≡ true
unfolding right_bits right_bit flip
all_bits = refl

pub two-value : (t : ℕ) → t < 16 → 0 < mark_of t → (F G : Formula) (x : ℕ) (f : ℕ → Bool) → value F x ≡ f 0 → value G x
    ≡ f 1
    → value (two_formula t F G) x ≡ bit t (number 2 f)
unfolding value right_bits right_bit
two-value t h l F G x f p q =
    let z = number 2 f in
    ap₂ (join (level_of t))
    (value-flip (flips_low t) F x ∙ ap (flip (flips_low t)) (p ∙ sym (bit-number 2 f 0 (omega arith))))
    (value-flip (flips_high t) G x ∙ ap (flip (flips_high t)) (q ∙ sym (bit-number 2 f 1 (omega arith))))
    ∙ beq_same (join (level_of t) (flip (flips_low t) (bit z 0)) (flip (flips_high t) (bit z 1))) (bit t z)
    (every_at 4 (right_bit t)
    (ap (λ (u : Bool). cond u true (every 4 (right_bit t))) (sym (ne_eqb (mark_of t) 0 (λ e. omega arith)))
    ∙ every_at 16 right_bits all_bits t h)
    z (number_lt 2 f))

pub one_value : (t : ℕ) → t < 4 → (F : Formula) (x : ℕ) (f : ℕ → Bool) → value F x ≡ f 0 → value (one_formula t F) x
    ≡ bit t (number 1 f)
unfolding value number
one_value t h F x f p = go t h (f 0) p
  where
    go : (t : ℕ) → t < 4 → (b : Bool) → value F x ≡ b → value (one_formula t F) x ≡ bit t (0 + val b * 2 ^ 0)
    go zero h true e = refl
    go zero h false e = refl
    go (suc zero) h true e = ap not e
    go (suc zero) h false e = ap not e
    go (suc (suc zero)) h true e = e
    go (suc (suc zero)) h false e = e
    go (suc (suc (suc zero))) h true e = refl
    go (suc (suc (suc zero))) h false e = refl
    go (suc (suc (suc (suc t)))) h b e = absurd (omega arith)
