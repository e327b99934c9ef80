-- How many inputs m cells can count. The first cell brings at most K signals to its output, which is one signal of the
-- others: each cell adds at most K - 1 to the signals that the output can depend on, of which there is one at the end.
-- Assumes nothing.
use mathlib.Core.Path.{◌≡◌, refl, sym, ap, ap₂, ◌∙◌, subst}
use mathlib.Core.Bool.{Bool, true, false, cond, ◌&&◌, ◌||◌, or-false}
use mathlib.Core.List.{List, [], ◌∷◌}
use Prim.Native.Nat.{ℕ, zero, suc, ◌+◌, ◌-◌, ◌*◌, ◌<◌, ◌≤◌}
use native.Mathlib.Nat.{not-suc-le-zero, suc-mul}
use native.Mathlib.Omega.{arith}
use lib.Dec.{eqb}
use lib.ListN.{length}
use borrow.Author.Tests.{eq-eqb, ne_eqb, eqb-true, eqb-false}
use Rattle.bits.specs.Numbers.{bit, val}
use Rattle.bits.specs.Sets.{size}
use Rattle.bits.specs.Lists.{member}
use Rattle.bits.proofs.Bools.{clash, or_left, or_right}
use Rattle.bits.proofs.Sizes.{size_ext}
use Rattle.bits.proofs.Counting.{size-one, size-or, size-part}
use Rattle.tables.specs.Depends.{DependsOn}
use Rattle.tables.specs.Counting.{Counting}
use Rattle.sheets.specs.Network.{Cell, output, run, Wired, Gives, Carries}
use Rattle.networks.proofs.Values.{member_below, size-member, output_ext}

-- ---- the signals that the output can depend on

-- with cells from signal i on: the last one's output, and what a cell on the way to it reads
unfoldable pub needed : ℕ → List Cell → ℕ → Bool
needed i [] s = eqb (suc s) i
needed i (c ∷ cs) s = needed (suc i) cs s || (needed (suc i) cs i && member s c.signals)

pub needed_most : (K i : ℕ) (cs : List Cell) → Wired K i cs → size i (needed i cs) ≤ length cs * (K - 1) + 1
unfolding needed size
needed_most K zero [] w = omega arith
needed_most K (suc i) [] w = omega (
  arith,
  size-one (suc i) i,
  size_ext (suc i) (λ s. eqb (suc s) (suc i))
      (λ s. eqb s i) (λ j l. go j (eqb j i) refl),
)
  where
    go : (j : ℕ) (t : Bool) → eqb j i ≡ t → eqb (suc j) (suc i) ≡ t
    go j true e = eq-eqb (suc j) (suc i) (ap suc (eqb-true j i e))
    go j false e = ne_eqb (suc j) (suc i) (λ q. eqb-false j i e (omega arith))
needed_most K i (c ∷ cs) w = go (needed (suc i) cs i) (needed_most K (suc i) cs w.2)
  where
    go : (t : Bool) → size i (needed (suc i) cs) + val t ≤ length cs * (K - 1) + 1
        → size i (λ s. needed (suc i) cs s || (t && member s c.signals)) ≤ suc (length cs) * (K - 1) + 1
    go true ih =
        omega (
          arith,
          size-or i (needed (suc i) cs) (λ s. member s c.signals),
          size-member i c.signals,
          w.0,
          suc-mul (length cs) (K - 1),
        )
    go false ih =
        omega (
          arith,
          suc-mul (length cs) (K - 1),
          size_ext i (λ s. needed (suc i) cs s || false) (needed (suc i) cs)
              (λ j l. or-false (needed (suc i) cs j)),
        )

-- where those signals are the same, the output is: i is the signal of the cell before
needed-same : (K i : ℕ) (cs : List Cell) (v w : ℕ → Bool) (o p : Bool) → Wired K (suc i) cs
    → ((s : ℕ) → s < suc i → needed (suc i) cs s ≡ true → v s ≡ w s) → o ≡ v i → p ≡ w i → run o (suc i) cs v
    ≡ run p (suc i) cs w
unfolding needed run
needed-same K i [] v w o p d h a b = a ∙ h i (omega arith) (eq-eqb (suc i) (suc i) refl) ∙ sym b
needed-same K i (c ∷ cs) v w o p d h a b =
    needed-same K (suc i) cs v' w' (output c v) (output c w) d.2 agree (sym (new (output c v) v))
    (sym (new (output c w) w))
  where
    v' : ℕ → Bool
    v' s = cond (eqb s (suc i)) (output c v) (v s)

    w' : ℕ → Bool
    w' s = cond (eqb s (suc i)) (output c w) (w s)

    new : (o : Bool) (v : ℕ → Bool) → cond (eqb (suc i) (suc i)) o (v (suc i)) ≡ o
    new o v = ap (λ (t : Bool). cond t o (v (suc i))) (eq-eqb (suc i) (suc i) refl)

    agree : (s : ℕ) → s < suc (suc i) → needed (suc (suc i)) cs s ≡ true → v' s ≡ w' s
    agree s l e = go (eqb s (suc i)) refl
      where
        cell : needed (suc (suc i)) cs (suc i) ≡ true → output c v ≡ output c w
        cell q =
            output_ext c v w (λ s m. h s (member_below (suc i) c.signals d.1 s m)
            (or_right (needed (suc (suc i)) cs s) (needed (suc (suc i)) cs (suc i) && member s c.signals)
            (ap₂ ◌&&◌ q m)))

        go : (t : Bool) → eqb s (suc i) ≡ t → cond t (output c v) (v s) ≡ cond t (output c w) (w s)
        go true q = cell (ap (needed (suc (suc i)) cs) (sym (eqb-true s (suc i) q)) ∙ e)
        go false q =
            let ne : s ≡ suc i → ⊥ = eqb-false s (suc i) q in
            h s (omega arith) (or_left (needed (suc (suc i)) cs s)
            (needed (suc (suc i)) cs (suc i) && member s c.signals) e)

-- an input that counts is one of them
pub counted-needed : (n K : ℕ) (F : ℕ → Bool) (c : Cell) (cs : List Cell) → Gives n K F (c ∷ cs) → (j : ℕ) → j < n
    → DependsOn n F j
    → needed n (c ∷ cs) j ≡ true
unfolding run
counted-needed zero K F c cs N j l p = absurd (not-suc-le-zero l)
counted-needed (suc n) K F c cs N j l p = go (needed (suc n) (c ∷ cs) j) refl
  where
    go : (t : Bool) → needed (suc n) (c ∷ cs) j ≡ t → t ≡ true
    go true q = refl
    go false q =
        absurd (p.differ (
        sym (N.gives p.x p.below_x)
        ∙ same p.x p.y (λ s b a. p.alike s b (λ e. clash a (ap (needed (suc n) (c ∷ cs)) e ∙ q)))
        ∙ N.gives p.y p.below_y))
      where
        same : (x y : ℕ) → ((s : ℕ) → s < suc n → needed (suc n) (c ∷ cs) s ≡ true → bit x s ≡ bit y s)
            → run false (suc n) (c ∷ cs) (bit x) ≡ run false (suc n) (c ∷ cs) (bit y)
        same x y h = needed-same K n (c ∷ cs) (bit x) (bit y) (bit x n) (bit y n) N.wired h refl refl

-- m cells of size K that carry F: of the inputs, F depends on at most m (K - 1) + 1
pub reach : (n K m : ℕ) (F : ℕ → Bool) (S : ℕ → Bool) → Counting n F S → Carries n K m F → size n S ≤ m * (K - 1) + 1
reach n K m F S counts C = subst (λ (k : ℕ). size n S ≤ k * (K - 1) + 1) C.count (go C.cells C.network)
  where
    go : (cs : List Cell) → Gives n K F cs → size n S ≤ length cs * (K - 1) + 1
    go [] N = absurd (not-suc-le-zero N.some)
    go (c ∷ cs) N =
        omega (
          arith,
          size-part n S (needed n (c ∷ cs)) (λ j l e. counted-needed n K F c cs N j l (counts j l e)),
          needed_most K n (c ∷ cs) N.wired,
        )
