-- The best over r of the table over the inputs that count, its masks spread back, is the best over r over them:
-- spreading keeps sizes. Assumes nothing.
use mathlib.Core.Path.{◌≡◌, refl, sym, ap, ap₂, ◌∙◌, fun_ext}
use mathlib.Core.Bool.{Bool, true, false, cond}
use mathlib.Core.List.{List}
use Prim.Native.Nat.{ℕ, zero, suc, ◌+◌, ◌^◌}
use lib.Dec.{ltb}
use Rattle.bits.specs.Numbers.{bit, number}
use Rattle.bits.specs.Sets.{size}
use Rattle.bits.proofs.Members.{size-spread}
use Rattle.tables.specs.Table.{table_bit}
use Rattle.tables.specs.declared.counting.CountingInputs.{CountingInputs}
use Rattle.tables.specs.Counting.{CountingIn, table_over}
use Rattle.best.specs.Search.{Answer, none, split, best}
use Rattle.best.specs.Counting.{spread_answer}
use Rattle.best.proofs.Counting.{counting_found}
use Rattle.choices.specs.Search.{Choice, nothing, choice, better, first_over, best_up_to, best_over, spread_choice}

module _ (n : ℕ) (s : ℕ → Bool) where
  spread-cond : (t : Bool) (c d : Choice) → spread_choice n s (cond t c d)
      ≡ cond t (spread_choice n s c) (spread_choice n s d)
  spread-cond true c d = refl
  spread-cond false c d = refl

  spread-better : (r : ℕ) (c : Choice) (a : Answer)
      → spread_choice n s (better (size n s) r c a) ≡ better n r (spread_choice n s c) (spread_answer n s a)
  spread-better r c none = refl
  spread-better r nothing (split A B) = refl
  spread-better r (choice q C D) (split A B) =
      spread-cond (ltb (size (size n s) (bit C) + r) (size (size n s) (bit A) + q)) (choice r A B) (choice q C D)
      ∙ ap₂ (λ (x y : ℕ). cond (ltb (x + r) (y + q)) (spread_choice n s (choice r A B))
      (spread_choice n s (choice q C D)))
      (sym (size-spread n s C)) (sym (size-spread n s A))

  spread-first : (f : ℕ → Answer) (m : ℕ) → spread_choice n s (first_over (size n s) f m)
      ≡ first_over n (λ r. spread_answer n s (f r)) m
  unfolding first_over
  spread-first f zero = refl
  spread-first f (suc m) =
      spread-better (suc m) (first_over (size n s) f m) (f (suc m))
      ∙ ap (λ (c : Choice). better n (suc m) c (spread_answer n s (f (suc m)))) (spread-first f m)

-- where the table over the inputs that count stands in front of a list of bytes, the search there finds it
pub over_found : (n m K : ℕ) (F : ℕ → Bool) (c : CountingInputs) (work : List ℕ) → CountingIn n F c
    → number (2 ^ size n (bit c.mask)) (table_bit work) ≡ table_over n (bit c.mask) F
    → spread_choice n (bit c.mask) (best_up_to c.many (table_bit work) K m) ≡ best_over n F K m
over_found n m K F c work w over =
    ap (λ (k : ℕ). spread_choice n (bit c.mask) (first_over k found m))
    (w.count ∙ ap (λ (s : ℕ). size n (bit s)) (sym w.is))
    ∙ spread-first n (bit c.mask) found m
    ∙ ap (λ (f : ℕ → Answer). first_over n f m) (fun_ext (λ r. counting_found n r K F c work w over))
  where
    found : ℕ → Answer
    found r = best c.many r (table_bit work) K
