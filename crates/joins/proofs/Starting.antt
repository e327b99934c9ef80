-- The start of deciding: what does not count is fixed, and what is left is the gate. Assumes nothing.
use mathlib.Core.Path.{◌≡◌, refl, sym, ap, ◌∙◌}
use mathlib.Core.Bool.{Bool, true, false, cond, not}
use Prim.Native.Nat.{ℕ, ◌+◌, ◌^◌, ◌<◌}
use native.Mathlib.Omega.{arith}
use lib.Pow.{pow_pos}
use Rattle.bits.specs.Numbers.{bit, number}
use Rattle.bits.specs.Sets.{spread}
use Rattle.bits.proofs.Bools.{clash}
use Rattle.bits.proofs.Numbers.{number_lt, bit-number, bit-zero}
use Rattle.bits.proofs.Sums.{off-sum}
use Rattle.bits.proofs.Spreading.{spread-zero, gather-zero}
use Rattle.tables.specs.Counting.{counts, support}
use Rattle.tables.proofs.Depending.{support_sees, support_counting}
use Rattle.trees.specs.Tree.{Tree, IsTree}
use Rattle.trees.proofs.Graft.{Computes}
use Rattle.trees.proofs.Prune.{computes_tree, tree_computes}
use Rattle.joins.specs.declared.pairs.Left.{Left}
use Rattle.joins.specs.Left.{with_fixed, gate_left, Unfixed, Reduced, DecidedFrom}
use Rattle.joins.proofs.Leaving.{fixed_lt, fixed_bit}

-- some tree that reads each input at most once computes the gate: what inductions carry, and what it is
pub to_tree : (n : ℕ) (F : ℕ → Bool) → (t : Tree) × Computes n F t → IsTree n F
to_tree n F w = computes_tree n F w.0 w.1

pub of_tree : (n : ℕ) (F : ℕ → Bool) → IsTree n F → (t : Tree) × Computes n F t
of_tree n F w = (w.0, tree_computes n F w.0 w.1)

-- the inputs that count are a mask of n places
pub support-lt : (n : ℕ) (F : ℕ → Bool) → support n F < 2 ^ n
unfolding support
support-lt n F = number_lt n (counts n F)

-- ---- the start: what does not count is fixed at 0, and nothing is decided
module _ (n : ℕ) (F : ℕ → Bool) (idle : ℕ) (sum : idle + support n F + 1 ≡ 2 ^ n) where
  abbrev start : Left
  start = record { fixed = idle; at = 0; decided = 0 }

  idle_is : idle ≡ number n (λ p. not (bit (support n F) p))
  idle_is = omega (arith, off-sum n (support n F) (support-lt n F))

  idle_bit : (p : ℕ) → p < n → bit idle p ≡ not (bit (support n F) p)
  idle_bit p l = ap (λ (m : ℕ). bit m p) idle_is ∙ bit-number n (λ p. not (bit (support n F) p)) p l

  -- what is left is the gate
  same : (x : ℕ) → x < 2 ^ n → gate_left n F start x ≡ F x
  same x h = support_sees n F (with_fixed n idle 0 x) x (fixed_lt n idle 0 x) h (λ p l e.
      fixed_bit n idle 0 x p l ∙ ap (λ (t : Bool). cond t (bit 0 p) (bit x p)) (idle_bit p l ∙ ap not e))

  tree_ext : (G K : ℕ → Bool) → ((x : ℕ) → x < 2 ^ n → G x ≡ K x) → IsTree n G → IsTree n K
  tree_ext G K e w =
      let u = of_tree n G w in
      to_tree n K (
        u.0,
        record {
          most = u.1.most;
          within = u.1.within;
          computes = λ x h. u.1.computes x h ∙ e x h;
        },
      )

  pub reduced_start : Reduced n F start
  reduced_start = record {
    fixing = record {
      below = omega (arith, sum);
      within = sym (ap (spread n (bit idle)) (gather-zero n (bit idle)) ∙ spread-zero n (bit idle));
    };
    below = pow_pos n;
    tree = (tree_ext F (gate_left n F start) (λ x h. sym (same x h)), tree_ext (gate_left n F start) F same);
    counts = λ j w. let c = support_counting n F j w.0 (counting j w) in record {
      x = c.x;
      y = c.y;
      below_x = c.below_x;
      below_y = c.below_y;
      alike = c.alike;
      differ = λ e. c.differ (sym (same c.x c.below_x) ∙ e ∙ same c.y c.below_y);
    };
    unfixed = λ j e. absurd (clash e (bit-zero j));
    apart = λ i j e. absurd (clash e (bit-zero i));
  }
    where
      counting : (j : ℕ) → Unfixed n start j → bit (support n F) j ≡ true
      counting j w = go (bit (support n F) j) (sym (idle_bit j w.0) ∙ w.1)
        where
          go : (t : Bool) → not t ≡ false → t ≡ true
          go true e = refl
          go false e = sym e

  pub from_start : DecidedFrom n start n
  from_start = record {
    all = λ i l w. absurd (omega (arith, w.0));
    above = λ i e. absurd (clash e (bit-zero i));
  }
