-- A tree reads an input that does not count for nothing: with 0 in its place it gives the same. So it is one question
-- whether some tree computes F and reads each input at most once, or each that counts once whatever else it reads, or
-- each that counts once and no other. Assumes nothing.
use mathlib.Core.Path.{◌≡◌, refl, sym, ap, ◌∙◌}
use mathlib.Core.Bool.{Bool, true, false, cond, ◌&&◌}
use Prim.Native.Nat.{ℕ, ◌^◌, ◌<◌, ◌≤◌}
use native.Mathlib.Decide.{dec_lt}
use native.Mathlib.Omega.{arith}
use lib.Dec.{eqb}
use borrow.Author.Tests.{ne_eqb}
use Rattle.bits.specs.Numbers.{bit, val}
use Rattle.bits.specs.Sets.{size, gather, spread}
use Rattle.bits.proofs.Bools.{clash, false_of}
use Rattle.bits.proofs.Numbers.{number_lt, bit_high}
use Rattle.bits.proofs.Spreading.{bit-spread, spread-lt, spread-gather}
use Rattle.tables.specs.Depends.{DependsOn}
use Rattle.tables.specs.Counting.{counts, support}
use Rattle.tables.proofs.Depending.{support_sees, support_counting, support_all}
use Rattle.tables.proofs.Over.{cleared}
use Rattle.trees.specs.Tree.{Tree, constant, input, value, uses, TreeOf}
use Rattle.trees.proofs.Graft.{graft, value_graft, uses_graft, uses-none, Computes, counted_read}

module _ (n : ℕ) (F : ℕ → Bool) where
  -- the inputs that count
  abbrev S : ℕ → Bool
  S = bit (support n F)

  high_out : (j : ℕ) → n ≤ j → S j ≡ false
  unfolding support
  high_out j h = bit_high (support n F) n j (number_lt n (counts n F)) h

  member_below : (j : ℕ) → S j ≡ true → j < n
  member_below j e = elim (dec_lt j n) [ yes l ↦ l | no l ↦ absurd (clash e (high_out j (omega arith))) ]

  -- an input that counts stays, another is 0
  prune : ℕ → Tree
  prune j = cond (S j) (input false j) (constant false)

  -- so the tree is asked at x with what does not count cleared
  prune_stands : (x j : ℕ) (s : Bool) → S j ≡ s → value (cond s (input false j) (constant false)) (bit x)
      ≡ bit (spread n S (gather n S x)) j
  prune_stands x j true e = sym (spread-gather n S x j (member_below j e) e)
  prune_stands x j false e = sym (elim (dec_lt j n) [
    | yes l ↦ bit-spread n S (gather n S x) j l ∙ ap (λ (s : Bool). s && bit (gather n S x) (size j S)) e
    | no l ↦ bit_high (spread n S (gather n S x)) n j (spread-lt n S (gather n S x)) (omega arith)
  ])

  -- a tree that computes F and reads each input that counts once, whatever else it reads
  module _ (t : Tree) (once : (j : ℕ) → j < n → DependsOn n F j → uses j t ≡ 1)
      (gives : (x : ℕ) → x < 2 ^ n → value t (bit x) ≡ F x) where
    off : (j : ℕ) → S j ≡ false → uses j (graft prune t) ≡ 0
    unfolding prune
    off j e = uses-none prune t j (λ i _. none i (S i) refl)
      where
        none : (i : ℕ) (s : Bool) → S i ≡ s → uses j (cond s (input false i) (constant false)) ≡ 0
        none i true g = ap val (ne_eqb i j (λ z. clash g (ap S z ∙ e)))
        none i false g = refl

    at_most : (j : ℕ) (s : Bool) → S j ≡ s → uses j (graft prune t) ≤ 1
    unfolding prune
    at_most j true e =
        let l = member_below j e in
        omega (arith, once j l (support_counting n F j l e), uses_graft prune t j j (λ i _. few i (S i)))
      where
        few : (i : ℕ) (s : Bool) → uses j (cond s (input false i) (constant false)) ≤ val (eqb i j)
        few i true = omega arith
        few i false = omega arith
    at_most j false e = omega (arith, off j e)

    pruned_computes : Computes n F (graft prune t)
    unfolding prune
    pruned_computes = record {
      most = λ j. at_most j (S j) refl;
      within = λ j h. off j (high_out j h);
      computes = λ x h.
          value_graft prune t (bit x) (bit (spread n S (gather n S x))) (λ j _. prune_stands x j (S j) refl)
          ∙ gives (spread n S (gather n S x)) (spread-lt n S (gather n S x)) ∙ cleared n F S (support_sees n F) x h;
    }

    pub pruned : (u : Tree) × TreeOf n F u
    pruned = (
      graft prune t,
      record {
        once = λ j l c. counted_read pruned_computes j c;
        only = λ j f. off j (false_of (S j) (λ e. f (member_below j e) (support_counting n F j (member_below j e) e)));
        computes = pruned_computes.computes;
      },
    )

  -- at most once is enough
  pub computes_tree : (t : Tree) → Computes n F t → (u : Tree) × TreeOf n F u
  computes_tree t W = pruned t (λ j l c. counted_read W j c) W.computes

  -- and no more than that
  pub tree_computes : (t : Tree) → TreeOf n F t → Computes n F t
  tree_computes t I = record {
    most = λ j. each j (S j) refl;
    within = λ j h. I.only j (λ l. absurd (omega arith));
    computes = I.computes;
  }
    where
      each : (j : ℕ) (s : Bool) → S j ≡ s → uses j t ≤ 1
      each j true e = let l = member_below j e in omega (arith, I.once j l (support_counting n F j l e))
      each j false e = omega (arith, I.only j (λ l c. clash (support_all n F j l c) e))
