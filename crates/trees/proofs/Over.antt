-- A table and the table over a set that it sees alone have the same trees: members are read by their numbers, and back.
-- Assumes nothing.
use mathlib.Core.Path.{◌≡◌, refl, sym, ap, ◌∙◌}
use mathlib.Core.Bool.{Bool, true, false, cond, ◌&&◌}
use Prim.Native.Nat.{ℕ, ◌<◌, ◌≤◌}
use native.Mathlib.Omega.{arith}
use lib.Dec.{eqb}
use borrow.Author.Tests.{eq-eqb, ne_eqb, eqb-true}
use Rattle.bits.specs.Numbers.{bit, val}
use Rattle.bits.specs.Sets.{size, gather, spread}
use Rattle.bits.proofs.Sizes.{size-lt}
use Rattle.bits.proofs.Spreading.{gather-lt, gather-bit, bit-spread, spread-lt}
use Rattle.tables.specs.Counting.{Sees, table_over}
use Rattle.tables.proofs.Over.{over_at, over_gather}
use Rattle.trees.specs.Tree.{Tree, constant, input, value, uses}
use Rattle.trees.proofs.Graft.{graft, Computes, computes_graft}
use Rattle.trees.proofs.Members.{val-le, nth, nth_rank, nth_below, nth_member, rank_nth}

module _ (n : ℕ) (F : ℕ → Bool) (S : ℕ → Bool) (sees : Sees n F S) where
  abbrev c : ℕ
  c = size n S

  abbrev G : ℕ → Bool
  G = bit (table_over n S F)

  -- a member is read by its number; another input is 0
  pub narrow : ℕ → Tree
  narrow p = cond (S p) (input false (size p S)) (constant false)

  pub tree_over : (t : Tree) → Computes n F t → Computes c G (graft narrow t)
  unfolding narrow
  tree_over t W =
      computes_graft n F t W c G narrow (spread n S) (nth n S)
      (λ v p l. go v p (S p) ∙ sym (bit-spread n S v p l)) (spread-lt n S) (λ v h. sym (over_at n S F v h))
      (λ q p h l. once q p h l (S p) refl) (λ q p h l. none q p h l (S p) refl)
    where
      go : (v p : ℕ) (t : Bool) → value (cond t (input false (size p S)) (constant false)) (bit v)
          ≡ (t && bit v (size p S))
      go v p true = refl
      go v p false = refl

      once : (q p : ℕ) → q < c → p < n → (t : Bool) → S p ≡ t
          → uses q (cond t (input false (size p S)) (constant false)) ≤ val (eqb p (nth n S q))
      once q p h l true e =
          val-le (eqb (size p S) q) (eqb p (nth n S q)) (λ r.
          eq-eqb p (nth n S q) (sym (nth_rank n S p l e) ∙ ap (nth n S) (eqb-true (size p S) q r)))
      once q p h l false e = omega arith

      none : (q p : ℕ) → c ≤ q → p < n → (t : Bool) → S p ≡ t
          → uses q (cond t (input false (size p S)) (constant false)) ≡ 0
      none q p h l true e = ap val (ne_eqb (size p S) q (λ r. omega (arith, size-lt n S p l e)))
      none q p h l false e = refl

  -- a number is read as its member
  pub wide : ℕ → Tree
  wide q = input false (nth n S q)

  pub tree_whole : (t : Tree) → Computes c G t → Computes n F (graft wide t)
  unfolding wide
  tree_whole t W =
      computes_graft c G t W n F wide (gather n S) (λ p. size p S)
      at (gather-lt n S) (over_gather n F S sees)
      (λ p q h l. val-le (eqb (nth n S q) p) (eqb q (size p S)) (λ r.
      eq-eqb q (size p S) (sym (rank_nth n S q l) ∙ ap (λ (i : ℕ). size i S) (eqb-true (nth n S q) p r))))
      (λ p q h l. ap val (ne_eqb (nth n S q) p (λ r. omega (arith, nth_below n S q l))))
    where
      at : (x q : ℕ) → q < c → bit x (nth n S q) ≡ bit (gather n S x) q
      at x q l = sym (ap (bit (gather n S x)) (sym (rank_nth n S q l))
          ∙ gather-bit n S x (nth n S q) (nth_below n S q l) (nth_member n S q l))
