-- Trees put in place of a tree's inputs: what the new tree gives, and how often it reads. Every law by which a tree of
-- one table makes a tree of another is an instance of `computes_graft`. Assumes nothing.
use mathlib.Core.Path.{◌≡◌, refl, sym, ap, ap₂, ◌∙◌}
use mathlib.Core.Bool.{Bool, true, false}
use Prim.Native.Nat.{ℕ, ◌+◌, ◌^◌, ◌<◌, ◌≤◌}
use native.Mathlib.Decide.{dec_lt}
use native.Mathlib.Omega.{arith}
use lib.Dec.{eqb}
use borrow.Author.Tests.{eq-eqb}
use Rattle.bits.specs.Numbers.{bit, val}
use Rattle.tables.specs.Depends.{DependsOn}
use Rattle.trees.specs.Tree.{Tree, constant, input, node, flipped, value, uses}

-- a tree flipped or not
flip : Bool → Tree → Tree
flip f (constant b) = constant (flipped f b)
flip f (input e j) = input (flipped f e) j
flip f (node g s t) = node (λ p q. flipped f (g p q)) s t

value-flip : (f : Bool) (t : Tree) (v : ℕ → Bool) → value (flip f t) v ≡ flipped f (value t v)
unfolding flip
value-flip f (constant b) v = refl
value-flip f (input e j) v = twice f e (v j)
  where
    twice : (f e b : Bool) → flipped (flipped f e) b ≡ flipped f (flipped e b)
    twice true true true = refl
    twice true true false = refl
    twice true false b = refl
    twice false e b = refl
value-flip f (node g s t) v = refl

uses-flip : (f : Bool) (t : Tree) (j : ℕ) → uses j (flip f t) ≡ uses j t
unfolding flip
uses-flip f (constant b) j = refl
uses-flip f (input e i) j = refl
uses-flip f (node g s t) j = refl

-- the tree t with the tree σ j in place of each input j
pub graft : (ℕ → Tree) → Tree → Tree
graft σ (constant b) = constant b
graft σ (input f j) = flip f (σ j)
graft σ (node g s t) = node g (graft σ s) (graft σ t)

-- an input reads itself
here : (j : ℕ) → 1 ≤ val (eqb j j)
here j = omega (arith, ap val (eq-eqb j j refl))

module _ (σ : ℕ → Tree) where
  pub value_graft : (t : Tree) (v w : ℕ → Bool) → ((j : ℕ) → 1 ≤ uses j t → value (σ j) v ≡ w j) → value (graft σ t) v
      ≡ value t w
  unfolding graft
  value_graft (constant b) v w h = refl
  value_graft (input f j) v w h = value-flip f (σ j) v ∙ ap (flipped f) (h j (here j))
  value_graft (node g s t) v w h = ap₂ g (value_graft s v w (λ j l. h j (omega arith)))
      (value_graft t v w (λ j l. h j (omega arith)))

  pub uses_graft : (t : Tree) (q k : ℕ) → ((j : ℕ) → 1 ≤ uses j t → uses q (σ j) ≤ val (eqb j k)) → uses q (graft σ t)
      ≤ uses k t
  unfolding graft
  uses_graft (constant b) q k h = omega arith
  uses_graft (input f j) q k h = omega (arith, uses-flip f (σ j) q, h j (here j))
  uses_graft (node g s t) q k h = omega (
    arith,
    uses_graft s q k (λ j l. h j (omega arith)),
    uses_graft t q k
        (λ j l. h j (omega arith)),
  )

  pub uses-none : (t : Tree) (q : ℕ) → ((j : ℕ) → 1 ≤ uses j t → uses q (σ j) ≡ 0) → uses q (graft σ t) ≡ 0
  unfolding graft
  uses-none (constant b) q h = refl
  uses-none (input f j) q h = uses-flip f (σ j) q ∙ h j (here j)
  uses-none (node g s t) q h = ap₂ ◌+◌ (uses-none s q (λ j l. h j (omega arith)))
      (uses-none t q (λ j l. h j (omega arith)))

-- a tree sees what it reads alone
pub value-reads : (t : Tree) (v w : ℕ → Bool) → ((j : ℕ) → 1 ≤ uses j t → v j ≡ w j) → value t v ≡ value t w
value-reads (constant b) v w h = refl
value-reads (input f j) v w h = ap (flipped f) (h j (here j))
value-reads (node g s t) v w h = ap₂ g (value-reads s v w (λ j l. h j (omega arith)))
    (value-reads t v w (λ j l. h j (omega arith)))

-- ---- a tree that computes F, reads each input at most once, and none from n up: what inductions carry
pub record Computes (n : ℕ) (F : ℕ → Bool) (t : Tree) : Type 0 where
  pub most : (j : ℕ) → uses j t ≤ 1
  pub within : (j : ℕ) → n ≤ j → uses j t ≡ 0
  pub computes : (x : ℕ) → x < 2 ^ n → value t (bit x) ≡ F x

pub read_below : {n : ℕ} {F : ℕ → Bool} {t : Tree} → Computes n F t → (j : ℕ) → 1 ≤ uses j t → j < n
read_below {n} W j h = elim (dec_lt j n) [ yes l ↦ l | no l ↦ absurd (omega (arith, W.within j (omega arith))) ]

-- an input that counts is read
pub counted_read : {n : ℕ} {F : ℕ → Bool} {t : Tree} → Computes n F t → (j : ℕ) → DependsOn n F j → uses j t ≡ 1
counted_read {n} {F} {t} W j c = elim (dec_lt 0 (uses j t)) [
  | yes l ↦ omega (arith, W.most j)
  | no l ↦ absurd (c.differ (
      sym (W.computes c.x c.below_x)
      ∙ value-reads t (bit c.x) (bit c.y) (λ i r. c.alike i (read_below W i r) (λ e. l (subst_uses e r)))
      ∙ W.computes c.y c.below_y))
]
  where
    subst_uses : {i : ℕ} → i ≡ j → 1 ≤ uses i t → 0 < uses j t
    subst_uses e r = omega (arith, ap (λ (k : ℕ). uses k t) e)

-- σ makes a tree of G over m inputs into one of F over n: it stands for the assignment `point x`, and reads input q in
-- place of input `from q` alone
module _ (m : ℕ) (G : ℕ → Bool) (t : Tree) (W : Computes m G t) (n : ℕ) (F : ℕ → Bool) (σ : ℕ → Tree)
    (point from : ℕ → ℕ)
    (stands : (x j : ℕ) → j < m → value (σ j) (bit x) ≡ bit (point x) j)
    (below : (x : ℕ) → point x < 2 ^ m)
    (same : (x : ℕ) → x < 2 ^ n → G (point x) ≡ F x)
    (once : (q j : ℕ) → q < n → j < m → uses q (σ j) ≤ val (eqb j (from q)))
    (none : (q j : ℕ) → n ≤ q → j < m → uses q (σ j) ≡ 0) where
  pub computes_graft : Computes n F (graft σ t)
  computes_graft = record {
    most = λ q. elim (dec_lt q n) [
      | yes l ↦ omega (arith, W.most (from q), uses_graft σ t q (from q) (λ j r. once q j l (read_below W j r)))
      | no l ↦ omega (arith, unread q (omega arith))
    ];
    within = unread;
    computes = λ x l. value_graft σ t (bit x) (bit (point x)) (λ j r. stands x j (read_below W j r))
        ∙ W.computes (point x) (below x) ∙ same x l;
  }
    where
      unread : (q : ℕ) → n ≤ q → uses q (graft σ t) ≡ 0
      unread q h = uses-none σ t q (λ j r. none q j h (read_below W j r))
