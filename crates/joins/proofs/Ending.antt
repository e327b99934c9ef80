-- The end of deciding: one decided input is a tree, and two are none. Assumes nothing.
use mathlib.Core.Path.{◌≡◌, refl, sym, ap, ◌∙◌}
use mathlib.Core.Bool.{Bool, true, false, cond}
use Prim.Native.Nat.{ℕ, ◌<◌, ◌≤◌}
use native.Mathlib.Decide.{dec_lt}
use native.Mathlib.Omega.{arith}
use Rattle.bits.specs.Numbers.{bit}
use Rattle.bits.specs.Sets.{size}
use Rattle.bits.proofs.Bools.{clash, false_of}
use Rattle.bits.proofs.Members.{Place, place, same_bits}
use Rattle.tables.specs.Counting.{Sees}
use Rattle.trees.specs.Tree.{Tree, uses, TreeOf, IsTree}
use Rattle.trees.proofs.Graft.{graft, Computes}
use Rattle.trees.proofs.Prune.{tree_computes}
use Rattle.trees.proofs.Small.{small_tree}
use Rattle.trees.proofs.Over.{wide, tree_whole}
use Rattle.trees.proofs.Shape.{Joined}
use Rattle.trees.proofs.Splits.{two-joined}
use Rattle.joins.specs.declared.pairs.Left.{Left}
use Rattle.joins.specs.StandsFor.{StandsFor}
use Rattle.joins.specs.Left.{with_fixed, gate_left, Unfixed, Reduced, DecidedFrom}
use Rattle.joins.proofs.Joining.{stands_of}
use Rattle.joins.proofs.Leaving.{fixed_lt, fixed_bit}
use Rattle.joins.proofs.Starting.{to_tree}

-- ---- the end: the decided inputs are all that are left
module _ (n : ℕ) (F : ℕ → Bool) (g : Left) (R : Reduced n F g) (from : DecidedFrom n g 0) where
  abbrev H : ℕ → Bool
  H = gate_left n F g

  sees : Sees n H (bit g.decided)
  sees x y hx hy agree = ap F (
      same_bits n (with_fixed n g.fixed g.at x) (with_fixed n g.fixed g.at y)
      (fixed_lt n g.fixed g.at x) (fixed_lt n g.fixed g.at y) (λ p l.
      fixed_bit n g.fixed g.at x p l ∙ go p l (bit g.fixed p) refl
      ∙ sym (fixed_bit n g.fixed g.at y p l)))
    where
      go : (p : ℕ) → p < n → (s : Bool) → bit g.fixed p ≡ s → cond s (bit g.at p) (bit x p)
          ≡ cond s (bit g.at p) (bit y p)
      go p l true e = refl
      go p l false e = agree p l (from.all p (omega arith) (l, e))

  -- one: a tree
  pub few_tree : size n (bit g.decided) < 2 → IsTree n F
  few_tree h =
      let w = small_tree (size n (bit g.decided)) _ (omega arith) in
      R.tree.1 (to_tree n H (
        graft (wide n H (bit g.decided) sees) w.0,
        tree_whole n H (bit g.decided) sees w.0 w.1,
      ))

  -- a fixed input is not read by a tree that reads what counts alone
  read_unfixed : (t : Tree) → TreeOf n H t → (p : ℕ) → p < n → 1 ≤ uses p t → Unfixed n g p
  read_unfixed t I p l r = (
    l,
    false_of (bit g.fixed p) (λ e. omega (
      arith,
      I.only p (λ _ c. c.differ (
          sees c.x c.y c.below_x c.below_y (λ k b s. c.alike k b (λ z.
          clash (ap (bit g.fixed) z ∙ e) (R.unfixed k s).1)))),
    )),
  )

  -- two: no tree, since a node would join two of them
  pub many_none : 2 ≤ size n (bit g.decided) → IsTree n F → ⊥
  many_none h w = joined (R.tree.0 w)
    where
      p : Place n (bit g.decided) 0
      p = place n (bit g.decided) 0 (omega arith)

      q : Place n (bit g.decided) 1
      q = place n (bit g.decided) 1 (omega arith)

      joined : IsTree n H → ⊥
      joined (t, I) = go (two-joined n H t W p.at q.at (λ e. omega (
        arith,
        ap (λ (i : ℕ). size i (bit g.decided)) e,
        p.rank,
        q.rank,
      )) (R.counts p.at (R.unfixed p.at p.member)) (R.counts q.at (R.unfixed q.at q.member)))
        where
          W : Computes n H t
          W = tree_computes n H t I

          below : (k : ℕ) → 1 ≤ uses k t → k < n
          below k r = elim (dec_lt k n) [ yes l ↦ l | no l ↦ absurd (omega (arith, W.within k (omega arith))) ]

          go : Joined t → ⊥
          go J = elim (dec_lt J.a J.b) [
            | yes l ↦ never J.b J.a fb fa l (stands_of n H J.b J.a fb.0 fa.0
                (λ e. J.differ (sym e)) J.D J.H J.others (λ x b. sym (W.computes x b) ∙ J.gives (bit x))
                (R.counts J.a fa))
            | no l ↦ never J.a J.b fa fb (lower l) (stands_of n H J.a J.b fa.0 fb.0 J.differ
                (λ s u. J.D u s) J.H (λ e v w f. J.others e v w (λ k a b. f k b a))
                (λ x b. sym (W.computes x b) ∙ J.gives (bit x)) (R.counts J.b fb))
          ]
            where
              fa : Unfixed n g J.a
              fa = read_unfixed t I J.a (below J.a J.read_a) J.read_a

              fb : Unfixed n g J.b
              fb = read_unfixed t I J.b (below J.b J.read_b) J.read_b

              lower : (J.a < J.b → ⊥) → J.b < J.a
              lower l = elim (dec_lt J.b J.a) [
                | yes k ↦ k
                | no k ↦ absurd (J.differ (omega arith))
              ]

              never : (i j : ℕ) → Unfixed n g i → Unfixed n g j → j < i → (v : Bool) × StandsFor n H i j v → ⊥
              never i j a b l N = R.apart i j (from.all i (omega arith) a) (from.all j (omega arith) b) l N.0
                  N.1
