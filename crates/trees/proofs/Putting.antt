-- A tree of H makes a tree of F: the first cell's node is put in place of its output, and the other inputs are read by
-- their positions. Assumes nothing.
use mathlib.Core.Path.{◌≡◌, refl, sym, ap, ap₂, ◌∙◌}
use mathlib.Core.Bool.{Bool, true, false, cond}
use Prim.Native.Nat.{ℕ, ◌+◌, ◌<◌, ◌≤◌}
use native.Mathlib.Omega.{arith}
use lib.Dec.{eqb}
use borrow.Author.Tests.{eq-eqb, ne_eqb, eqb-true, eqb-false}
use Rattle.bits.specs.Numbers.{bit, val}
use Rattle.bits.specs.Sets.{size}
use Rattle.bits.proofs.Bools.{clash}
use Rattle.splits.specs.Split.{reads_h, Possible}
use Rattle.splits.specs.Pair.{table_h}
use Rattle.best.specs.Best.{Candidate}
use Rattle.trees.specs.Tree.{Tree, input, node, value, uses}
use Rattle.trees.proofs.Graft.{graft, Computes, computes_graft}
use Rattle.trees.proofs.Members.{val-le, nth, nth_below, nth_member, rank_nth}
use Rattle.trees.proofs.Pairs as pairs
use Rattle.trees.proofs.Pairs.{Pair, pair_of}

module _ (n : ℕ) (F : ℕ → Bool) (A B : ℕ) (c : Candidate n 2 1 A B) (Q : Possible n F (bit A) (bit B) 1) where
  abbrev s_h : ℕ → Bool
  s_h = reads_h (bit A) (bit B)

  abbrev k : ℕ
  k = size n (reads_h (bit A) (bit B))

  abbrev H : ℕ → Bool
  H = bit (table_h n F (bit A) (bit B) 1)

  abbrev P : Pair n A B
  P = pair_of n A B c

  abbrev gives : ℕ → Bool
  gives = pairs.gives n F A B c Q

  abbrev ask : ℕ → Bool → ℕ
  ask = pairs.ask n F A B c Q

  -- in place of H's last input the first cell's node, of another the input that it stands for
  by : Bool → ℕ → Tree
  by last q = cond last (node (pairs.D n F A B c Q) (input false P.a) (input false P.b))
      (input false (nth n s_h q))

  put : ℕ → Tree
  put q = by (eqb q k) q

  less : (q : ℕ) → q < k + 1 → eqb q k ≡ false → q < k
  less q l e = let z = eqb-false q k e in omega arith

  value_at : (x q : ℕ) → q < k + 1 → (last : Bool) → eqb q k ≡ last → value (by last q) (bit x)
      ≡ bit (ask x (gives x)) q
  unfolding by
  value_at x q l true r =
      pairs.first_cell_lem n F A B c Q x
      ∙ sym (ap (bit (ask x (gives x))) (eqb-true q k r) ∙ pairs.ask_top n F A B c Q x (gives x))
  value_at x q l false r =
      let g = less q l r in
      sym (pairs.ask_low n F A B c Q x (gives x) q g
      (record { at = nth n s_h q; below = nth_below n s_h q g; member = nth_member n s_h q g; rank = rank_nth n s_h q g }))

  -- the node reads either of its two inputs once
  pair_once : (p : ℕ) → val (eqb P.a p) + val (eqb P.b p) ≤ 1
  pair_once p = go (eqb P.a p) (eqb P.b p) refl refl
    where
      go : (s t : Bool) → eqb P.a p ≡ s → eqb P.b p ≡ t → val s + val t ≤ 1
      go true true e f = absurd (P.differ (eqb-true P.a p e ∙ sym (eqb-true P.b p f)))
      go true false e f = omega arith
      go false t e f = omega (arith, val-le t true (λ _. refl))

  -- input p is read in place of its number among H's, and of H's last input where it is one of the two
  once : (p q : ℕ) → q < k + 1 → (s last : Bool) → s_h p ≡ s → eqb q k ≡ last
      → uses p (by last q) ≤ val (eqb q (cond s (size p s_h) k))
  unfolding by
  once p q l true true e r =
      omega (
        arith,
        ap val (ne_eqb P.a p (λ z. pairs.not_a n F A B c Q p e (sym z))),
        ap val (ne_eqb P.b p (λ z. pairs.not_b n F A B c Q p e (sym z))),
      )
  once p q l false true e r = omega (arith, pair_once p, ap val r)
  once p q l true false e r =
      val-le (eqb (nth n s_h q) p) (eqb q (size p s_h)) (λ z.
      eq-eqb q (size p s_h) (sym (rank_nth n s_h q (less q l r)) ∙ ap (λ (i : ℕ). size i s_h) (eqb-true (nth n s_h q) p z)))
  once p q l false false e r =
      val-le (eqb (nth n s_h q) p) (eqb q k) (λ z.
      absurd (clash (nth_member n s_h q (less q l r)) (ap s_h (eqb-true (nth n s_h q) p z) ∙ e)))

  none : (p q : ℕ) → n ≤ p → q < k + 1 → (last : Bool) → eqb q k ≡ last → uses p (by last q) ≡ 0
  unfolding by
  none p q h l true r =
      ap₂ ◌+◌ (ap val (ne_eqb P.a p (λ z. omega (arith, P.below_a))))
      (ap val (ne_eqb P.b p (λ z. omega (arith, P.below_b))))
  none p q h l false r = ap val (ne_eqb (nth n s_h q) p (λ z. omega (arith, nth_below n s_h q (less q l r))))

  pub tree_back : (t : Tree) → Computes (k + 1) H t → (u : Tree) × Computes n F u
  unfolding put
  tree_back t W = (
    graft put t,
    computes_graft (k + 1) H t W n F put (λ x. ask x (gives x)) (λ p. cond (s_h p) (size p s_h) k)
        (λ x q l. value_at x q l (eqb q k) refl) (λ x. pairs.ask_lt n F A B c Q x (gives x))
        (λ x h. sym (pairs.asked_gives n F A B c Q x h)) (λ p q h l. once p q l (s_h p) (eqb q k) refl refl)
        (λ p q h l. none p q h l (eqb q k) refl),
  )
