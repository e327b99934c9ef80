-- Where one input can stand for two, the other may be fixed: the gate is a tree exactly if what is left is one; what is
-- left counts its inputs; and two others of which one stands for both in what is left are such inputs of the gate. A
-- tree of which two inputs count has such inputs. Assumes nothing.
use mathlib.Core.Path.{◌≡◌, refl, sym, ap, ap₂, ◌∙◌}
use mathlib.Core.Bool.{Bool, true, false, cond}
use Prim.Native.Nat.{ℕ, ◌+◌, ◌^◌, ◌<◌, ◌≤◌}
use native.Mathlib.Decide.{dec_lt}
use native.Mathlib.Omega.{arith}
use lib.Dec.{eqb}
use borrow.Author.Tests.{ne_eqb, eqb-true, eqb-false}
use Rattle.bits.specs.Numbers.{bit, val}
use Rattle.bits.proofs.Numbers.{bit_high}
use Rattle.tables.specs.Depends.{DependsOn}
use Rattle.trees.specs.Tree.{Tree, constant, input, node, flipped, value, uses}
use Rattle.trees.proofs.Graft.{graft, Computes, computes_graft}
use Rattle.trees.proofs.Members.{val-le}
use Rattle.trees.proofs.Fixing.{undone}
use Rattle.joins.specs.StandsFor.{set_to, fixed_at, StandsFor}
use Rattle.joins.proofs.Setting.{set-lt, set-bit, set_here, set-off, set_twice, set_swap}

-- ---- a gate's tree, with a constant in place of input i, is a tree of what is left
module _ (n : ℕ) (G : ℕ → Bool) (i : ℕ) (v : Bool) where
  fixed : ℕ → Tree
  fixed p = cond (eqb p i) (constant v) (input false p)

  pub tree_left : (t : Tree) → Computes n G t → (u : Tree) × Computes n (fixed_at n G i v) u
  unfolding fixed
  tree_left t W = (
    graft fixed t,
    computes_graft n G t W n (fixed_at n G i v) fixed (set_to n i v) (λ q. q)
        (λ x p l. stands x p (eqb p i) ∙ sym (set-bit n i v x p l)) (set-lt n i v) (λ x h. refl)
        (λ q p h l. once q p (eqb p i)) (λ q p h l. none q p h l (eqb p i)),
  )
    where
      stands : (x p : ℕ) (s : Bool) → value (cond s (constant v) (input false p)) (bit x) ≡ cond s v (bit x p)
      stands x p true = refl
      stands x p false = refl

      once : (q p : ℕ) (s : Bool) → uses q (cond s (constant v) (input false p)) ≤ val (eqb p q)
      once q p true = omega arith
      once q p false = omega arith

      none : (q p : ℕ) → n ≤ q → p < n → (s : Bool) → uses q (cond s (constant v) (input false p)) ≡ 0
      none q p h l true = refl
      none q p h l false = ap val (ne_eqb p q (λ e. omega arith))

-- ---- input j stands for i and j, where i is fixed at v
module _ (n : ℕ) (G : ℕ → Bool) (i j : ℕ) (v : Bool) (li : i < n) (lj : j < n) (ne : i ≡ j → ⊥)
    (J : StandsFor n G i j v)
  where
    abbrev left : ℕ → Bool
    left = fixed_at n G i v

    -- the assignment at which what is left gives what the gate gives at x
    asked : ℕ → ℕ
    asked x = set_to n j (J.D (bit x j) (bit x i)) x

    asked-lt : (x : ℕ) → asked x < 2 ^ n
    unfolding asked
    asked-lt x = set-lt n j (J.D (bit x j) (bit x i)) x

    gives : (x : ℕ) → x < 2 ^ n → G x ≡ left (asked x)
    unfolding asked
    gives = J.gives

    -- in place of j the node that joins the two
    by : Bool → Bool → ℕ → Tree
    by s t p = cond s (constant v) (cond t (node J.D (input false j) (input false i)) (input false p))

    joining : ℕ → Tree
    joining p = by (eqb p i) (eqb p j) p

    pub tree_joined : (t : Tree) → Computes n left t → (u : Tree) × Computes n G u
    unfolding joining asked by
    tree_joined t W = (
      graft joining t,
      computes_graft n left t W n G joining (λ x. set_to n i v (asked x)) (λ q. cond (eqb q i) j q)
          (λ x p l. stands x p (eqb p i) (eqb p j)
          ∙ sym (set-bit n i v (asked x) p l
          ∙ ap (cond (eqb p i) v) (set-bit n j (J.D (bit x j) (bit x i)) x p l)))
          (λ x. set-lt n i v (asked x)) (λ x h. ap G (set_twice n i v v (asked x)) ∙ sym (gives x h))
          (λ q p h l. once q p (eqb p i) (eqb p j) (eqb q i) refl refl refl)
          (λ q p h l. none q p h l (eqb p i) (eqb p j)),
    )
      where
        stands : (x p : ℕ) (s t : Bool) → value (by s t p) (bit x)
            ≡ cond s v (cond t (J.D (bit x j) (bit x i)) (bit x p))
        stands x p true t = refl
        stands x p false true = refl
        stands x p false false = refl

        once : (q p : ℕ) (s t u : Bool) → eqb p i ≡ s → eqb p j ≡ t → eqb q i ≡ u → uses q (by s t p)
            ≤ val (eqb p (cond u j q))
        once q p true t u e f g = omega arith
        once q p false true true e f g =
            omega (
              arith,
              ap val f,
              ap val (ne_eqb j q (λ z. ne (sym (eqb-true q i g) ∙ sym z))),
              val-le (eqb i q) true (λ _. refl),
            )
        once q p false true false e f g =
            omega (
              arith,
              ap val (ne_eqb i q (λ z. eqb-false q i g (sym z))),
              ap (λ (m : ℕ). val (eqb m q)) (eqb-true p j f),
            )
        once q p false false true e f g =
            omega (arith, ap val (ne_eqb p q (λ z. eqb-false p i e (z ∙ eqb-true q i g))))
        once q p false false false e f g = omega arith

        none : (q p : ℕ) → n ≤ q → p < n → (s t : Bool) → uses q (by s t p) ≡ 0
        none q p h l true t = refl
        none q p h l false true = ap₂ ◌+◌ (ap val (ne_eqb j q (λ z. omega arith)))
            (ap val (ne_eqb i q (λ z. omega arith)))
        none q p h l false false = ap val (ne_eqb p q (λ z. omega arith))

    -- what counts still counts
    pub counts-left : (k : ℕ) → (k ≡ i → ⊥) → DependsOn n G k → DependsOn n left k
    unfolding asked
    counts-left k f c = record {
      x = asked c.x;
      y = asked c.y;
      below_x = asked-lt c.x;
      below_y = asked-lt c.y;
      alike = λ p l g. set-bit n j _ c.x p l ∙ same p l g (eqb p j) refl ∙ sym (set-bit n j _ c.y p l);
      differ = λ e. c.differ (gives c.x c.below_x ∙ e ∙ sym (gives c.y c.below_y));
    }
      where
        same : (p : ℕ) → p < n → (p ≡ k → ⊥) → (s : Bool) → eqb p j ≡ s
            → cond s (J.D (bit c.x j) (bit c.x i)) (bit c.x p)
            ≡ cond s (J.D (bit c.y j) (bit c.y i)) (bit c.y p)
        same p l g true e = ap₂ J.D (c.alike j lj (λ z. g (eqb-true p j e ∙ z))) (c.alike i li (λ z. f (sym z)))
        same p l g false e = c.alike p l g

    -- two other inputs
    pub stands_before : (k l : ℕ) (w : Bool) → k < n → l < n → (k ≡ i → ⊥) → (k ≡ j → ⊥) → (l ≡ i → ⊥) → (l ≡ j → ⊥)
        → StandsFor n left k l w → StandsFor n G k l w
    unfolding asked
    stands_before k l w bk bl ki kj li' lj' N = record {
      D = N.D;
      gives = λ x h. gives x h ∙ N.gives (asked x) (asked-lt x) ∙ ap left (same x)
          ∙ sym (gives (there x) (set-lt n k w _));
    }
      where
        there : ℕ → ℕ
        there x = set_to n k w (set_to n l (N.D (bit x l) (bit x k)) x)

        -- k and l are set, and the others as they were
        off : (x p : ℕ) → p < n → (p ≡ k → ⊥) → (p ≡ l → ⊥) → bit (there x) p ≡ bit x p
        off x p b f g = set-off n k w _ p b f ∙ set-off n l (N.D (bit x l) (bit x k)) x p b g

        same : (x : ℕ) → set_to n k w (set_to n l (N.D (bit (asked x) l) (bit (asked x) k)) (asked x)) ≡ asked (there x)
        same x =
            let d = J.D (bit x j) (bit x i) in
            let e = N.D (bit x l) (bit x k) in
            ap₂ (λ (s t : Bool). set_to n k w (set_to n l (N.D s t) (asked x))) (set-off n j d x l bl lj')
            (set-off n j d x k bk kj)
            ∙ ap (set_to n k w) (set_swap n l j e d x lj') ∙ set_swap n k j w d (set_to n l e x) kj
            ∙ ap₂ (λ (s t : Bool). set_to n j (J.D s t) (there x))
            (sym (off x j lj (λ z. kj (sym z)) (λ z. lj' (sym z))))
            (sym (off x i li (λ z. ki (sym z)) (λ z. li' (sym z))))

-- ---- two inputs that a function joins, of which the lower counts
module _ (n : ℕ) (G : ℕ → Bool) (i j : ℕ) (li : i < n) (lj : j < n) (ne : i ≡ j → ⊥) (D : Bool → Bool → Bool)
    (H : Bool → (ℕ → Bool) → Bool)
    (others : (e : Bool) (v w : ℕ → Bool) → ((p : ℕ) → (p ≡ j → ⊥) → (p ≡ i → ⊥) → v p ≡ w p) → H e v ≡ H e w)
    (gives : (x : ℕ) → x < 2 ^ n → G x ≡ H (D (bit x j) (bit x i)) (bit x)) where
  -- assignments that agree on all inputs but the two
  blind : (e : Bool) (x y : ℕ) → x < 2 ^ n → y < 2 ^ n
      → ((p : ℕ) → p < n → (p ≡ j → ⊥) → (p ≡ i → ⊥) → bit x p ≡ bit y p) → H e (bit x) ≡ H e (bit y)
  blind e x y hx hy same = others e (bit x) (bit y) (λ p f g. elim (dec_lt p n) [
    | yes l ↦ same p l f g
    | no l ↦ bit_high x n p hx (omega arith) ∙ sym (bit_high y n p hy (omega arith))
  ])

  pub stands_of : DependsOn n G j → (v : Bool) × StandsFor n G i j v
  stands_of c =
      let w = undone (λ y. D y v) (bit c.x j) (bit c.y j) differ in
      (v, record { D = λ p q. flipped w.0 (D p q); gives = λ x h. back w.0 w.1 x h })
    where
      v : Bool
      v = bit c.x i

      -- i is the same at both
      here : bit c.y i ≡ v
      here = sym (c.alike i li ne)

      differ : D (bit c.x j) v ≡ D (bit c.y j) v → ⊥
      differ e =
          c.differ (gives c.x c.below_x
          ∙ ap (λ (b : Bool). H b (bit c.x)) (e ∙ ap (D (bit c.y j)) (sym here))
          ∙ blind _ c.x c.y c.below_x c.below_y (λ p l f g. c.alike p l f) ∙ sym (gives c.y c.below_y))

      back : (f : Bool) → ((y : Bool) → D (flipped f y) v ≡ y) → (x : ℕ) → x < 2 ^ n
          → G x ≡ fixed_at n G i v (set_to n j (flipped f (D (bit x j) (bit x i))) x)
      back f undo x h =
          let d = flipped f (D (bit x j) (bit x i)) in
          let z = set_to n i v (set_to n j d x) in
          let at_j : bit z j ≡ d = set-off n i v (set_to n j d x) j lj (λ e. ne (sym e)) ∙ set_here n j d x lj in
          gives x h
          ∙ blind (D (bit x j) (bit x i)) x z h (set-lt n i v (set_to n j d x))
          (λ p l f g. sym (set-off n i v (set_to n j d x) p l g ∙ set-off n j d x p l f))
          ∙ ap (λ (b : Bool). H b (bit z))
          (sym (ap₂ D at_j (set_here n i v (set_to n j d x) li) ∙ undo (D (bit x j) (bit x i))))
          ∙ sym (gives z (set-lt n i v (set_to n j d x)))
