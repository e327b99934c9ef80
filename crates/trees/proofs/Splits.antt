-- A tree with three inputs that count has two inputs that a single node joins, and these are the own inputs of a split.
-- Assumes nothing.
use mathlib.Core.Path.{◌≡◌, refl, sym, ap₂, ◌∙◌}
use mathlib.Core.Bool.{Bool, true, false, not, ◌||◌}
use Prim.Native.Nat.{ℕ, ◌%◌, ◌^◌, ◌<◌}
use native.Mathlib.Nat.{mod-lt, mod-eq_of_lt}
use native.Mathlib.Decide.{ℕ_discrete, dec_lt}
use native.Mathlib.Omega.{arith}
use lib.Dec.{eqb}
use lib.Pow.{pow_pos}
use borrow.Author.Tests.{eq-eqb, ne_eqb}
use Rattle.bits.specs.Numbers.{bit, number}
use Rattle.bits.specs.Sets.{Agree, size}
use Rattle.bits.proofs.Bools.{clash, or_left, or_right}
use Rattle.bits.proofs.Numbers.{number_lt, bit-number, bit-zero, bit_high, bit-mod}
use Rattle.bits.proofs.Sizes.{size_ext}
use Rattle.bits.proofs.Counting.{size_none}
use Rattle.tables.specs.Depends.{DependsOn}
use Rattle.tables.specs.Counting.{AlikeBut, AllCount}
use Rattle.splits.specs.Split.{reads_h, Possible}
use Rattle.splits.proofs.Respect.{possible_of}
use Rattle.best.specs.Best.{Candidate}
use Rattle.best.specs.Search.{none, best}
use Rattle.best.proofs.Best.{best_none}
use Rattle.trees.specs.Tree.{Tree, value}
use Rattle.trees.proofs.Graft.{Computes, read_below}
use Rattle.trees.proofs.Two.{own_size}
use Rattle.trees.proofs.Shape.{Joined, Shape, flat, single, joined, shape}

-- ---- two inputs that a tree joins are a split
module _ (n : ℕ) (F : ℕ → Bool) (t : Tree) (W : Computes n F t) (J : Joined t) where
  abbrev a : ℕ
  a = J.a

  abbrev b : ℕ
  b = J.b

  la : J.a < n
  la = read_below W J.a J.read_a

  lb : J.b < n
  lb = read_below W J.b J.read_b

  -- the mask of the two
  pair : ℕ → Bool
  pair j = eqb j J.a || eqb j J.b

  own : ℕ
  own = number n pair

  own_bit : (j : ℕ) → j < n → bit own j ≡ (eqb j a || eqb j b)
  unfolding own pair
  own_bit j l = bit-number n pair j l

  pair_size : size n (bit own) ≡ 2
  pair_size = own_size n b a own lb la own_bit (λ e. J.differ (sym e))

  pair_candidate : Candidate n 2 1 own 0
  unfolding own
  pair_candidate = record {
    below_a = number_lt n pair;
    below_b = pow_pos n;
    apart = λ j l e. absurd (clash e (bit-zero j));
    more = omega (arith, pair_size);
    most = omega (arith, pair_size, size_ext n (bit 0) (λ j. false) (λ j l. bit-zero j), size_none n);
  }

  pair_possible : Possible n F (bit own) (bit 0) 1
  pair_possible =
      possible_of n F (bit own) (bit 0) 1 (λ t x. J.D (bit x a) (bit x b)) (λ d x. J.H (bit d 0) (bit (x % 2 ^ n)))
      (λ t x y h. ap₂ J.D (h a la (reads a la (or_left (eqb a a) (eqb a b) (eq-eqb a a refl))))
      (h b lb (reads b lb (or_right (eqb b a) (eqb b b) (eq-eqb b b refl)))))
      (λ d x y h. J.others (bit d 0) (bit (x % 2 ^ n)) (bit (y % 2 ^ n)) (same x y h))
      (λ x l. sym (W.computes x l) ∙ J.gives (bit x)
      ∙ ap₂ (λ (o : Bool) (m : ℕ). J.H o (bit m)) (sym (bit-number 1 (λ t. J.D (bit x a) (bit x b)) 0 (omega arith)))
      (sym (mod-eq_of_lt l)))
    where
      reads : (j : ℕ) → j < n → (eqb j a || eqb j b) ≡ true → (bit own j || bit 0 j) ≡ true
      reads j l e = or_left (bit own j) (bit 0 j) (own_bit j l ∙ e)

      -- what agrees on all inputs but the two is the same to H
      same : (x y : ℕ) → Agree n (reads_h (bit own) (bit 0)) x y → (j : ℕ) → (j ≡ a → ⊥) → (j ≡ b → ⊥)
          → bit (x % 2 ^ n) j ≡ bit (y % 2 ^ n) j
      same x y h j p q = elim (dec_lt j n) [
        | yes l ↦ bit-mod x n j l
            ∙ h j l (ap₂ (λ (s t : Bool). t || not (s || t)) (own_bit j l ∙ ap₂ ◌||◌ (ne_eqb j a p) (ne_eqb j b q))
            (bit-zero j))
            ∙ sym (bit-mod y n j l)
        | no l ↦ bit_high (x % 2 ^ n) n j (mod-lt x (pow_pos n)) (omega arith)
            ∙ sym (bit_high (y % 2 ^ n) n j (mod-lt y (pow_pos n)) (omega arith))
      ]

  pair_splits : best n 1 F 2 ≡ none → ⊥
  pair_splits e = best_none n 1 F 2 e own 0 pair_candidate pair_possible

-- a tree of which two inputs count has two that a single node joins
pub two-joined : (n : ℕ) (F : ℕ → Bool) (t : Tree) → Computes n F t → (p q : ℕ) → (p ≡ q → ⊥) → DependsOn n F p
    → DependsOn n F q → Joined t
two-joined n F t W p q ne cp cq = go (shape t W.most)
  where
    -- what takes no notice of an input is not F
    still : (j : ℕ) → DependsOn n F j → ((x y : ℕ) → AlikeBut n j x y → value t (bit x) ≡ value t (bit y)) → ⊥
    still j c f = c.differ (sym (W.computes c.x c.below_x) ∙ f c.x c.y c.alike
        ∙ W.computes c.y c.below_y)

    go : Shape t → Joined t
    go (flat f) = absurd (still p cp (λ x y _. f (bit x) (bit y)))
    go (single j r f) = elim (ℕ_discrete j p) [
      | yes e ↦ absurd (still q cq (λ x y alike. f (bit x) (bit y) (alike j (read_below W j r) (λ z. ne (sym e ∙ z)))))
      | no e ↦ absurd (still p cp (λ x y alike. f (bit x) (bit y) (alike j (read_below W j r) e)))
    ]
    go (joined J) = J

-- a tree with three inputs that count has a split
pub tree_splits : (n : ℕ) (F : ℕ → Bool) (t : Tree) → 2 < n → AllCount n F → Computes n F t → best n 1 F 2 ≡ none → ⊥
tree_splits n F t h all W e = pair_splits n F t W
    (two-joined n F t W 0 1 (λ z. omega arith) (all 0 (omega arith)) (all 1 (omega arith))) e
