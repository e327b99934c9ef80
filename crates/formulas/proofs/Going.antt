-- What was read before a refusal can be continued to a formula. Assumes nothing.
use mathlib.Core.Path.{◌≡◌, refl, ap, ◌∙◌}
use mathlib.Core.Bool.{Bool, false, cond}
use Prim.Native.Nat.{ℕ, zero, suc, ◌<◌, ◌≤◌}
use native.Mathlib.Omega.{arith}
use lib.Dec.{eqb}
use borrow.Author.Tests.{eq-eqb, ne_eqb}
use Rattle.values.specs.Formula.{Formula, constant, negated, joined}
use Rattle.formulas.specs.Text.{mark, Spells, a_zero, a_not, a_nest, only, more}
use Rattle.formulas.specs.Reading.{bang, opening, stuck}
use Rattle.formulas.proofs.Steps.{Run, r_tired, r_other, r_deep_not, r_deep_open, r_not-bad, r_open_bad}
use Rattle.formulas.proofs.Steps.{r_open_left, r_first-bad, r_next-bad}
use Rattle.formulas.proofs.ByteKinds.{viewed, is_bang, is_open}
use Rattle.formulas.proofs.Grammar.{spells_lt, spells_same, sound}
use Rattle.formulas.proofs.Reaching.{from}

-- the bytes before b can be continued to what is spelled from p
pub record Goes (c : ℕ → ℕ) (n k d p b : ℕ) : Type 0 where
  pub bytes : ℕ → ℕ
  pub tree : Formula
  pub end : ℕ
  pub same : (i : ℕ) → i < b → bytes i ≡ c i
  pub past : b ≤ end
  pub spells : Spells bytes n k d tree p end

-- c with the byte v at p
abbrev put : (ℕ → ℕ) → ℕ → ℕ → ℕ → ℕ
put c p v i = cond (eqb i p) v (c i)

put_there : (c : ℕ → ℕ) (p v : ℕ) → put c p v p ≡ v
put_there c p v = ap (λ (t : Bool). cond t v (c p)) (eq-eqb p p refl)

put_else : (c : ℕ → ℕ) (p v i : ℕ) → (i ≡ p → ⊥) → put c p v i ≡ c i
put_else c p v i h = ap (λ (t : Bool). cond t v (c i)) (ne_eqb i p h)

module _ (c : ℕ → ℕ) (n : ℕ) where
  -- a 0 for a factor
  goes_zero : (k d p : ℕ) → Spells (put c p 48) n k d (constant false) p (suc p)
  goes_zero zero d p = a_zero (put_there c p 48)
  goes_zero (suc k) d p = only (goes_zero k d p)

  goes_here : (k d p : ℕ) → Goes c n k d p p
  goes_here k d p =
      record {
        bytes = put c p 48;
        tree = constant false;
        end = suc p;
        same = λ i l. put_else c p 48 i (λ e. omega arith);
        past = omega arith;
        spells = goes_zero k d p;
      }

  goes_not : (d p b : ℕ) → c p ≡ 33 → p < b → Goes c n 0 d (suc p) b → Goes c n 0 (suc d) p b
  goes_not d p b e l g =
      record {
        bytes = g.bytes;
        tree = negated g.tree;
        end = g.end;
        same = g.same;
        past = g.past;
        spells = a_not (g.same p l ∙ e) g.spells;
      }

  goes_open : (d p b : ℕ) → c p ≡ 40 → p < b → Goes c n 3 d (suc p) b → Goes c n 0 (suc d) p b
  goes_open d p b e l g =
      record {
        bytes = put g.bytes g.end 41;
        tree = g.tree;
        end = suc g.end;
        same = λ i a. put_else g.bytes g.end 41 i (λ z. omega (arith, g.past)) ∙ g.same i a;
        past = omega (arith, g.past);
        spells = a_nest (put_else g.bytes g.end 41 p (λ z. omega (arith, g.past)) ∙ g.same p l ∙ e)
            (spells_same g.bytes (put g.bytes g.end 41) n g.spells
            (λ i a j. put_else g.bytes g.end 41 i (λ z. omega arith)))
            (put_there g.bytes g.end 41);
      }

  goes_left : (d p b : ℕ) (F : Formula) → c p ≡ 40 → Spells c n 3 d F (suc p) b → Goes c n 0 (suc d) p b
  goes_left d p b F e h =
      let l = spells_lt c n h in
      record {
        bytes = put c b 41;
        tree = F;
        end = suc b;
        same = λ i a. put_else c b 41 i (λ z. omega arith);
        past = omega arith;
        spells = a_nest (put_else c b 41 p (λ z. omega arith) ∙ e)
            (spells_same c (put c b 41) n h (λ i a j. put_else c b 41 i (λ z. omega arith))) (put_there c b 41);
      }

  goes_only : (k d p b : ℕ) → Goes c n k d p b → Goes c n (suc k) d p b
  goes_only k d p b g = record {
    bytes = g.bytes;
    tree = g.tree;
    end = g.end;
    same = g.same;
    past = g.past;
    spells = only g.spells;
  }

  goes_more : (k d p q b : ℕ) (F : Formula) → Spells c n k d F p q → c q ≡ mark k → q < b → Goes c n (suc k) d (suc q) b
      → Goes c n (suc k) d p b
  goes_more k d p q b F h e l g =
      record {
        bytes = g.bytes;
        tree = joined k F g.tree;
        end = g.end;
        same = g.same;
        past = g.past;
        spells = more (spells_same c g.bytes n h (λ i a j. g.same i (omega arith))) (g.same q l ∙ e) g.spells;
      }

  pub goes : {m k d p b : ℕ} → Run c n m k d p (stuck b) → Goes c n k d p b
  goes (r_tired {k = k} {d = d} {p = p}) = goes_here k d p
  goes {d = d} {p = p} (r_other h) = goes_here 0 d p
  goes {p = p} (r_deep_not h) = goes_here 0 0 p
  goes {p = p} (r_deep_open h) = goes_here 0 0 p
  goes {p = p} {b = b} (r_not-bad {d = d} h i) = let l = from c n i
      in goes_not d p b (is_bang n (c p) (viewed n (c p) bang h)) (omega arith) (goes i)
  goes {p = p} {b = b} (r_open_bad {d = d} h i) = let l = from c n i
      in goes_open d p b (is_open n (c p) (viewed n (c p) opening h)) (omega arith) (goes i)
  goes {p = p} {b = b} (r_open_left {d = d} F h i l) = goes_left d p b F (is_open n (c p) (viewed n (c p) opening h))
      (sound c n i)
  goes {d = d} {p = p} {b = b} (r_first-bad {k = k} i) = goes_only k d p b (goes i)
  goes {d = d} {p = p} {b = b} (r_next-bad {k = k} {q = q} F i l j) =
      let a = from c n j in
      goes_more k d p q b F (sound c n i) l (omega arith) (goes j)
