-- With cells of two inputs a sheet is made exactly where the table has a tree. A sheet's cells make a tree, each node
-- put in place of its output; and where there is a tree, three inputs that count have a split, and every split keeps a
-- tree of H, so the chain comes to its end. Assumes nothing.
use mathlib.Core.Path.{◌≡◌, refl, sym, ◌∙◌, subst}
use mathlib.Core.Logic.{◌↔◌}
use mathlib.Core.Bool.{Bool}
use mathlib.Core.List.{List, [], ◌∷◌}
use Prim.Native.Nat.{ℕ, zero, suc, ◌+◌, ◌^◌, ◌<◌, ◌≤◌}
use native.Mathlib.Decide.{dec_lt}
use native.Mathlib.Omega.{arith}
use lib.ListN.{length}
use Rattle.bits.specs.Numbers.{bit, number}
use Rattle.bits.specs.Sets.{size}
use Rattle.bits.proofs.Sizes.{size-le}
use Rattle.tables.specs.Counting.{Counting, AllCount, kept, table_over}
use Rattle.tables.proofs.Depending.{support_counting}
use Rattle.tables.proofs.Keeping.{kept_sees, two-kept}
use Rattle.tables.proofs.Over.{over_counts}
use Rattle.splits.specs.Split.{reads_h}
use Rattle.splits.specs.Pair.{table_h}
use Rattle.best.specs.Best.{Best}
use Rattle.best.specs.Search.{Answer, none, split, best}
use Rattle.best.proofs.Best.{best_split}
use Rattle.best.proofs.Next.{next-counts}
use Rattle.sheets.specs.Network.{Cell}
use Rattle.chains.specs.Chain.{pick, first_cell, next_signals, next_table, last_cell, Made, stuck, made, inputs}
use Rattle.chains.specs.Aside.{sheet_aside}
use Rattle.chains.specs.Words.{Makes, ends, goes}
use Rattle.chains.proofs.Lists.{pick-length}
use Rattle.chains.proofs.One.{next-inputs, next-shorter}
use Rattle.chains.proofs.Aside.{sheet_made}
use Rattle.trees.specs.Tree.{Tree, TreeOf}
use Rattle.trees.proofs.Graft.{graft, Computes}
use Rattle.trees.proofs.Prune.{computes_tree, tree_computes}
use Rattle.trees.proofs.Small.{small_tree}
use Rattle.trees.proofs.Over.{narrow, tree_over, wide, tree_whole}
use Rattle.trees.proofs.Pairs.{Pair, pair_of}
use Rattle.trees.proofs.Putting.{tree_back}
use Rattle.trees.proofs.Fixing.{tree_fore}
use Rattle.trees.proofs.Splits.{tree_splits}

-- some tree computes F
abbrev Some : ℕ → (ℕ → Bool) → Type 0
Some n F = (t : Tree) × Computes n F t

-- ---- a sheet makes a tree

makes_tree : {i : ℕ} {l : List ℕ} {T : ℕ} {cs : List Cell} → Makes 2 i l T cs → Some (length l) (bit T)
makes_tree (ends {l = l} {T = T} h) = small_tree (length l) (bit T) h
makes_tree (goes {i = i} {l = l} {T = T} {A = A} {B = B} h b m) = go (makes_tree m)
  where
    go : Some (length (next_signals l A B i)) (bit (next_table l T A B)) → Some (length l) (bit T)
    go w =
        tree_back (length l) (bit T) A B b.candidate b.possible w.0
        (subst (λ (m : ℕ). Computes m (bit (next_table l T A B)) w.0) (next-inputs l A B i) w.1)

-- ---- a tree makes a sheet

tree_makes : (k i : ℕ) (l : List ℕ) (T : ℕ) → (2 < length l → AllCount (length l) (bit T)) → Some (length l) (bit T)
    → length l ≤ k + 2 → (cs : List Cell) × Makes 2 i l T cs
tree_makes zero i l T all w h = (last_cell l T ∷ [], ends h)
tree_makes (suc k) i l T all w h = elim (dec_lt 2 (length l)) [
  | no g ↦ let few : length l ≤ 2 = omega arith in (last_cell l T ∷ [], ends few)
  | yes g ↦ more g (best (length l) 1 (bit T) 2) refl (tree_makes k (suc i))
]
  where
    n : ℕ
    n = length l

    more : 2 < n → (a : Answer) → best n 1 (bit T) 2 ≡ a
        → ((l : List ℕ) (T : ℕ) → (2 < length l → AllCount (length l) (bit T)) → Some (length l) (bit T) → length l ≤ k
        + 2
        → (cs : List Cell) × Makes 2 (suc i) l T cs)
        → (cs : List Cell) × Makes 2 i l T cs
    more g none e ih = absurd (tree_splits n (bit T) w.0 g (all g) w.1 e)
    more g (split A B) e ih = go (tree_fore n (bit T) A B b.candidate b.possible w.0 w.1
        (all g p.a p.below_a))
      where
        b : Best n 2 1 (bit T) A B
        b = best_split n 1 (bit T) 2 A B e

        p : Pair n A B
        p = pair_of n A B b.candidate

        go : Some (size n (reads_h (bit A) (bit B)) + 1) (bit (table_h n (bit T) (bit A) (bit B) 1)) → (cs : List Cell)
            × Makes 2 i l T cs
        go u =
            let q = sym (next-inputs l A B i) in
            let r = ih (next_signals l A B i) (next_table l T A B)
            (λ _. subst (λ (m : ℕ). AllCount m (bit (next_table l T A B))) q (next-counts n 2 (bit T) A B b (all g)))
            (u.0, subst (λ (m : ℕ). Computes m (bit (next_table l T A B)) u.0) q u.1)
            (omega (arith, next-shorter l i b)) in
            (first_cell l T A B ∷ r.0, goes g b r.1)

-- ---- the sheet of the gate's table F
module _ (n : ℕ) (F : ℕ → Bool) (p : 1 ≤ n) where
  -- the inputs that are kept, as signals, and the table over them
  abbrev S : ℕ → Bool
  S = bit (kept n F)

  abbrev l : List ℕ
  l = pick n (bit (kept n F)) (inputs n)

  abbrev U : ℕ
  U = table_over n (bit (kept n F)) F

  size_is : length l ≡ size n S
  size_is = pick-length n S (inputs n)

  -- made: there is a tree
  pub made_tree : (cs : List Cell) → sheet_aside n 2 (number (2 ^ n) F) ≡ made cs → (t : Tree) × TreeOf n F t
  made_tree cs e = go (makes_tree ((sheet_made n 2 F p (omega arith) cs).0 e))
    where
      go : Some (length l) (bit U) → (t : Tree) × TreeOf n F t
      go w =
          computes_tree n F (graft (wide n F S (kept_sees n F)) w.0)
          (tree_whole n F S (kept_sees n F) w.0 (subst (λ (m : ℕ). Computes m (bit U) w.0) size_is w.1))

  -- a tree: it is made
  pub tree_made : (t : Tree) → TreeOf n F t → (cs : List Cell) × (sheet_aside n 2 (number (2 ^ n) F) ≡ made cs)
  tree_made t I = go (tree_makes n n l U all over (omega (arith, size_is, size-le n S)))
    where
      counting : 2 < length l → Counting n F S
      counting g = subst (λ (m : ℕ). Counting n F (bit m)) (sym (two-kept n F (omega (arith, size_is))))
          (support_counting n F)

      all : 2 < length l → AllCount (length l) (bit U)
      all g = subst (λ (m : ℕ). AllCount m (bit U)) (sym size_is) (over_counts n F S (kept_sees n F) (counting g))

      over : Some (length l) (bit U)
      over = (
        graft (narrow n F S (kept_sees n F)) t,
        subst (λ (m : ℕ). Computes m (bit U) (graft (narrow n F S (kept_sees n F)) t)) (sym size_is)
            (tree_over n F S (kept_sees n F) t (tree_computes n F t I)),
      )

      go : (cs : List Cell) × Makes 2 n l U cs → (cs : List Cell) × (sheet_aside n 2 (number (2 ^ n) F) ≡ made cs)
      go w = (w.0, (sheet_made n 2 F p (omega arith) w.0).1 w.1)

  -- stuck exactly where no tree of two-input nodes reads each of the inputs that count once and computes the table
  pub stuck_treeless : (sheet_aside n 2 (number (2 ^ n) F) ≡ stuck) ↔ ((t : Tree) → TreeOf n F t → ⊥)
  stuck_treeless = (λ e t I. never e (tree_made t I), λ f. back (sheet_aside n 2 (number (2 ^ n) F)) refl f)
    where
      never : sheet_aside n 2 (number (2 ^ n) F) ≡ stuck → (cs : List Cell)
          × (sheet_aside n 2 (number (2 ^ n) F) ≡ made cs) → ⊥
      never e w = let q : made w.0 ≡ stuck = sym w.1 ∙ e in let z : ◌≡◌ {A = ℕ} 0 1 = cc in omega arith

      back : (r : Made) → sheet_aside n 2 (number (2 ^ n) F) ≡ r → ((t : Tree) → TreeOf n F t → ⊥) → r ≡ stuck
      back stuck e f = refl
      back (made cs) e f = let w = made_tree cs e in absurd (f w.0 w.1)
