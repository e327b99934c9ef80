-- The smallest trees: a constant is the tree of a constant table, an input of a table that has its bits, plain or
-- flipped; and every table of at most two inputs has a tree. Assumes nothing.
use mathlib.Core.Path.{◌≡◌, refl, sym, ap, ◌∙◌, subst}
use mathlib.Core.Bool.{Bool, true, false}
use Prim.Native.Nat.{ℕ, zero, suc, ◌+◌, ◌*◌, ◌^◌, ◌<◌, ◌≤◌}
use native.Mathlib.Omega.{arith}
use lib.Dec.{eqb}
use lib.Pow.{pow_pos}
use borrow.Author.Tests.{eq-eqb, ne_eqb, eqb-false}
use Rattle.bits.specs.Numbers.{bit, val, number}
use Rattle.bits.proofs.Bools.{clash}
use Rattle.bits.proofs.Numbers.{number_lt, number_bit, bit-number, bit-zero}
use Rattle.tables.specs.Depends.{DependsOn}
use Rattle.trees.specs.Tree.{Tree, constant, input, node, flipped, TreeOf}
use Rattle.trees.proofs.Graft.{Computes}
use Rattle.trees.proofs.Members.{val-le}

pub constant_tree : (n : ℕ) (F : ℕ → Bool) (b : Bool) → ((x : ℕ) → x < 2 ^ n → F x ≡ b) → TreeOf n F (constant b)
constant_tree n F b is = record {
  once = λ j l c. absurd (c.differ (is c.x c.below_x ∙ sym (is c.y c.below_y)));
  only = λ j f. refl;
  computes = λ x h. sym (is x h);
}

module _ (n : ℕ) (F : ℕ → Bool) (j : ℕ) (l : j < n) (f : Bool) (is : (x : ℕ) → x < 2 ^ n → F x ≡ flipped f (bit x j))
  where
    -- input j counts: 0 and the assignment that has input j alone differ
    input_counts : DependsOn n F j
    input_counts = record {
      x = 0;
      y = alone;
      below_x = pow_pos n;
      below_y = number_lt n (λ i. eqb i j);
      alike = λ i h ne. bit-zero i ∙ sym (bit-number n (λ i. eqb i j) i h ∙ ne_eqb i j ne);
      differ = λ e. differ f (
          sym (ap (flipped f) (bit-zero j)) ∙ sym (is 0 (pow_pos n)) ∙ e ∙ is alone (number_lt n (λ i. eqb i j))
          ∙ ap (flipped f) (bit-number n (λ i. eqb i j) j l ∙ eq-eqb j j refl));
    }
      where
        alone : ℕ
        alone = number n (λ i. eqb i j)

        differ : (f : Bool) → flipped f false ≡ flipped f true → ⊥
        differ true e = clash refl e
        differ false e = clash e refl

    pub input_tree : TreeOf n F (input f j)
    input_tree = record {
      once = λ i h c. once i c (eqb j i) refl;
      only = λ i out. ap val (ne_eqb j i (λ e. out (omega arith) (subst (DependsOn n F) e input_counts)));
      computes = λ x h. sym (is x h);
    }
      where
        once : (i : ℕ) → DependsOn n F i → (t : Bool) → eqb j i ≡ t → val t ≡ 1
        once i c true e = refl
        once i c false e =
            absurd (c.differ (is c.x c.below_x ∙ ap (flipped f) (c.alike j l (eqb-false j i e))
            ∙ sym (is c.y c.below_y)))

-- at most two inputs: a constant or one node
pub small_tree : (n : ℕ) (F : ℕ → Bool) → n ≤ 2 → (t : Tree) × Computes n F t
unfolding number
small_tree zero F h = (
  constant (F 0),
  record {
    most = λ j. omega arith;
    within = λ j l. refl;
    computes = λ x l. let e : x ≡ 0 = omega arith
        in ap F (sym e);
  },
)
small_tree (suc zero) F h = (
  node (λ p q. F (0 + val p * 2 ^ 0)) (input false 0) (constant false),
  record {
    most = λ j. omega (arith, val-le (eqb 0 j) true (λ _. refl));
    within = λ j l. omega (arith, ap val (ne_eqb 0 j (λ e. omega arith)));
    computes = λ x l. ap F (number_bit 1 x l);
  },
)
small_tree (suc (suc zero)) F h = (
  node (λ p q. F (0 + val p * 2 ^ 0 + val q * 2 ^ 1)) (input false 0) (input false 1),
  record {
    most = most;
    within = λ j l. omega (arith, ap val (ne_eqb 0 j (λ e. omega arith)), ap val (ne_eqb 1 j (λ e. omega arith)));
    computes = λ x l. ap F (number_bit 2 x l);
  },
)
  where
    most : (j : ℕ) → val (eqb 0 j) + val (eqb 1 j) ≤ 1
    most zero = omega arith
    most (suc zero) = omega arith
    most (suc (suc j)) =
        omega (
          arith,
          ap val (ne_eqb 0 (suc (suc j)) (λ e. omega arith)),
          ap val
              (ne_eqb 1 (suc (suc j)) (λ e. omega arith)),
        )
small_tree (suc (suc (suc n))) F h = absurd (omega arith)
