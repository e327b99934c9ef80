-- A tree that reads each input at most once is constant, or a function of one input, or has two inputs that a single
-- node joins. Assumes nothing.
use mathlib.Core.Path.{◌≡◌, refl, ap, ap₂, ◌∙◌}
use mathlib.Core.Bool.{Bool}
use Prim.Native.Nat.{ℕ, ◌+◌, ◌≤◌}
use native.Mathlib.Omega.{arith}
use borrow.Author.Tests.{eq-eqb}
use Rattle.bits.specs.Numbers.{val}
use Rattle.trees.specs.Tree.{Tree, constant, input, node, flipped, value, uses}
use Rattle.trees.proofs.Graft.{value-reads}

-- two inputs of a tree that a single function joins
pub record Joined (t : Tree) : Type 0 where
  pub a : ℕ
  pub b : ℕ
  pub differ : a ≡ b → ⊥
  pub read_a : 1 ≤ uses a t
  pub read_b : 1 ≤ uses b t
  pub D : Bool → Bool → Bool
  pub H : Bool → (ℕ → Bool) → Bool
  pub others : (e : Bool) (v w : ℕ → Bool) → ((j : ℕ) → (j ≡ a → ⊥) → (j ≡ b → ⊥) → v j ≡ w j) → H e v ≡ H e w
  pub gives : (v : ℕ → Bool) → value t v ≡ H (D (v a) (v b)) v

-- the three cases
pub data Shape (t : Tree) : Type 0 where
  flat : ((v w : ℕ → Bool) → value t v ≡ value t w) → Shape t
  single : (j : ℕ) → 1 ≤ uses j t → ((v w : ℕ → Bool) → v j ≡ w j → value t v ≡ value t w) → Shape t
  joined : Joined t → Shape t

-- what a tree joins is joined in every tree that is a function of it and of inputs beside the two
module _ (s u : Tree) (J : Joined s) (K : Bool → (ℕ → Bool) → Bool) where
  inside : ((j : ℕ) → uses j s ≤ uses j u)
      → ((z : Bool) (v w : ℕ → Bool) → ((j : ℕ) → (j ≡ J.a → ⊥) → (j ≡ J.b → ⊥) → v j ≡ w j) → K z v ≡ K z w)
      → ((v : ℕ → Bool) → value u v ≡ K (value s v) v) → Joined u
  inside reads blind gives = record {
    a = J.a;
    b = J.b;
    differ = J.differ;
    read_a = omega (arith, J.read_a, reads J.a);
    read_b = omega (arith, J.read_b, reads J.b);
    D = J.D;
    H = λ e v. K (J.H e v) v;
    others = λ e v w h. ap (λ (z : Bool). K z v) (J.others e v w h) ∙ blind (J.H e w) v w h;
    gives = λ v. gives v ∙ ap (λ (z : Bool). K z v) (J.gives v);
  }

-- an input that one tree reads is none that the other reads
out : (s t : Tree) → ((j : ℕ) → uses j s + uses j t ≤ 1) → (a : ℕ) → 1 ≤ uses a s → (j : ℕ) → 1 ≤ uses j t → j ≡ a → ⊥
out s t most a p j q e = omega (arith, most a, ap (λ (i : ℕ). uses i t) e)

module _ (g : Bool → Bool → Bool) (s t : Tree) (most : (j : ℕ) → uses j s + uses j t ≤ 1) where
  -- what a child joins the node joins, since the other child reads neither
  left : Joined s → Joined (node g s t)
  left J = inside s (node g s t) J (λ z v. g z (value t v)) (λ j. omega arith)
      (λ z v w h. ap (g z) (value-reads t v w (λ j r. h j (out s t most J.a J.read_a j r)
      (out s t most J.b J.read_b j r)))) (λ v. refl)

  right : Joined t → Joined (node g s t)
  right J = inside t (node g s t) J (λ z v. g (value s v) z) (λ j. omega arith)
      (λ z v w h. ap (λ (y : Bool). g y z) (value-reads s v w (λ j r. h j (off J.a J.read_a j r)
      (off J.b J.read_b j r)))) (λ v. refl)
    where
      off : (a : ℕ) → 1 ≤ uses a t → (j : ℕ) → 1 ≤ uses j s → j ≡ a → ⊥
      off = out t s (λ j. omega (arith, most j))

  -- two functions of one input each
  join : (i j : ℕ) → 1 ≤ uses i s → 1 ≤ uses j t → ((v w : ℕ → Bool) → v i ≡ w i → value s v ≡ value s w)
      → ((v w : ℕ → Bool) → v j ≡ w j → value t v ≡ value t w) → Joined (node g s t)
  join i j p q f h = record {
    a = i;
    b = j;
    differ = λ e. apart e;
    read_a = omega arith;
    read_b = omega arith;
    D = λ x y. g (value s (λ k. x)) (value t (λ k. y));
    H = λ e v. e;
    others = λ e v w k. refl;
    gives = λ v. ap₂ g (f v (λ k. v i) refl) (h v (λ k. v j) refl);
  }
    where
      apart : i ≡ j → ⊥
      apart e = omega (arith, most i, ap (λ (k : ℕ). uses k t) e)

  both : Shape s → Shape t → Shape (node g s t)
  both (flat f) (flat h) = flat (λ v w. ap₂ g (f v w) (h v w))
  both (flat f) (single j q h) = single j (omega arith) (λ v w e. ap₂ g (f v w) (h v w e))
  both (flat f) (joined J) = joined (right J)
  both (single i p f) (flat h) = single i (omega arith) (λ v w e. ap₂ g (f v w e) (h v w))
  both (single i p f) (single j q h) = joined (join i j p q f h)
  both (single i p f) (joined J) = joined (right J)
  both (joined J) (flat h) = joined (left J)
  both (joined J) (single j q h) = joined (left J)
  both (joined J) (joined J') = joined (left J)

pub shape : (t : Tree) → ((j : ℕ) → uses j t ≤ 1) → Shape t
shape (constant b) h = flat (λ v w. refl)
shape (input f j) h = single j (omega (arith, ap val (eq-eqb j j refl))) (λ v w e. ap (flipped f) e)
shape (node g s t) h = both g s t h (shape s (λ j. omega (arith, h j))) (shape t (λ j. omega (arith, h j)))
