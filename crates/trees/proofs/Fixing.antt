-- A tree of F makes a tree of H: one of the split's two own inputs is fixed so that the first cell is the other, plain
-- or flipped. So no split loses a tree. Assumes nothing.
use mathlib.Core.Path.{◌≡◌, refl, sym, ap, ap₂, ◌∙◌}
use mathlib.Core.Logic.{⊎_elim}
use mathlib.Core.Bool.{Bool, true, false, cond, not}
use Prim.Native.Nat.{ℕ, ◌+◌, ◌^◌, ◌<◌, ◌≤◌}
use native.Mathlib.Omega.{arith}
use lib.Dec.{eqb}
use borrow.Author.Tests.{eq-eqb, ne_eqb, eqb-true, eqb-false}
use Rattle.bits.specs.Numbers.{bit, val, number}
use Rattle.bits.specs.Sets.{size}
use Rattle.bits.proofs.Below.{below_suc}
use Rattle.bits.proofs.Numbers.{number_lt, bit-number}
use Rattle.bits.proofs.Sizes.{size-lt}
use Rattle.bits.proofs.Members.{Place, place, same_bits}
use Rattle.tables.specs.Depends.{DependsOn}
use Rattle.splits.specs.Split.{reads_h, Possible}
use Rattle.splits.specs.Pair.{table_h}
use Rattle.best.specs.Best.{Candidate}
use Rattle.trees.specs.Tree.{Tree, constant, input, flipped, value, uses}
use Rattle.trees.proofs.Graft.{graft, Computes, computes_graft}
use Rattle.trees.proofs.Members.{val-le, nth, nth_rank}
use Rattle.trees.proofs.Pairs as pairs
use Rattle.trees.proofs.Pairs.{Pair, pair_of}

-- a function of one bit that is not constant is the bit, plain or flipped
pub undone : (h : Bool → Bool) (u v : Bool) → (h u ≡ h v → ⊥) → (f : Bool) × ((y : Bool) → h (flipped f y) ≡ y)
undone h u v ne = go (h true) (h false) refl refl
  where
    same : (u v : Bool) → h true ≡ h false → h u ≡ h v
    same true true e = refl
    same true false e = e
    same false true e = sym e
    same false false e = refl

    go : (s t : Bool) → h true ≡ s → h false ≡ t → (f : Bool) × ((y : Bool) → h (flipped f y) ≡ y)
    go true true p q = absurd (ne (same u v (p ∙ sym q)))
    go true false p q = (false, at)
      where
        at : (y : Bool) → h y ≡ y
        at true = p
        at false = q
    go false true p q = (true, at)
      where
        at : (y : Bool) → h (not y) ≡ y
        at true = q
        at false = p
    go false false p q = absurd (ne (same u v (p ∙ sym q)))

module _ (n : ℕ) (F : ℕ → Bool) (A B : ℕ) (c : Candidate n 2 1 A B) (Q : Possible n F (bit A) (bit B) 1) where
  abbrev s_h : ℕ → Bool
  s_h = reads_h (bit A) (bit B)

  abbrev k : ℕ
  k = size n (reads_h (bit A) (bit B))

  abbrev H : ℕ → Bool
  H = bit (table_h n F (bit A) (bit B) 1)

  abbrev a : ℕ
  a = (pair_of n A B c).a

  abbrev b : ℕ
  b = (pair_of n A B c).b

  abbrev P : Pair n A B
  P = pair_of n A B c

  abbrev gives : ℕ → Bool
  gives = pairs.gives n F A B c Q

  abbrev ask : ℕ → Bool → ℕ
  ask = pairs.ask n F A B c Q

  abbrev D : Bool → Bool → Bool
  D = pairs.D n F A B c Q

  -- a value v of b at which the first cell is a, plain or flipped
  record Fixed : Type 0 where
    v : Bool
    f : Bool
    undo : (y : Bool) → D (flipped f y) v ≡ y

  fixing : DependsOn n F a → Fixed
  fixing e =
      let w = undone (λ y. D y (bit e.x b)) (bit e.x a) (bit e.y a) differ in
      record { v = bit e.x b; f = w.0; undo = w.1 }
    where
      b_same : bit e.x b ≡ bit e.y b
      b_same = e.alike b P.below_b (λ r. P.differ (sym r))

      differ : D (bit e.x a) (bit e.x b) ≡ D (bit e.y a) (bit e.x b) → ⊥
      differ q =
          let o : gives e.x ≡ gives e.y =
          sym (pairs.first_cell_lem n F A B c Q e.x) ∙ q ∙ ap (D (bit e.y a)) b_same
          ∙ pairs.first_cell_lem n F A B c Q e.y in
          e.differ (
          pairs.asked_gives n F A B c Q e.x e.below_x
          ∙ ap H (pairs.ask_sees n F A B c Q (gives e.x) e.x e.y
          (λ j l m. e.alike j l (pairs.not_a n F A B c Q j m))
          ∙ ap (ask e.y) o)
          ∙ sym (pairs.asked_gives n F A B c Q e.y e.below_y))

  module _ (w : Fixed) where
    -- in place of a H's last input, of b the constant, of another input its number in H
    by : Bool → Bool → ℕ → Tree
    by is-a is_b p = cond is-a (input w.f k) (cond is_b (constant w.v) (input false (size p s_h)))

    fixed : ℕ → Tree
    fixed p = by (eqb p a) (eqb p b) p

    -- the assignment that H's input y stands for
    bit_by : Bool → Bool → ℕ → ℕ → Bool
    bit_by is-a is_b y p = cond is-a (flipped w.f (bit y k)) (cond is_b w.v (bit y (size p s_h)))

    point : ℕ → ℕ
    point y = number n (λ p. bit_by (eqb p a) (eqb p b) y p)

    point_bit : (y p : ℕ) → p < n → bit (point y) p ≡ bit_by (eqb p a) (eqb p b) y p
    unfolding point
    point_bit y p l = bit-number n (λ p. bit_by (eqb p a) (eqb p b) y p) p l

    at_a : (y : ℕ) → bit (point y) a ≡ flipped w.f (bit y k)
    unfolding bit_by
    at_a y = point_bit y a P.below_a ∙ ap (λ (t : Bool). bit_by t (eqb a b) y a) (eq-eqb a a refl)

    at_b : (y : ℕ) → bit (point y) b ≡ w.v
    unfolding bit_by
    at_b y = point_bit y b P.below_b ∙ ap₂ (λ (s t : Bool). bit_by s t y b) (ne_eqb b a (λ z. P.differ (sym z)))
        (eq-eqb b b refl)

    at_other : (y p : ℕ) → p < n → s_h p ≡ true → bit (point y) p ≡ bit y (size p s_h)
    unfolding bit_by
    at_other y p l e =
        point_bit y p l
        ∙ ap₂ (λ (s t : Bool). bit_by s t y p) (ne_eqb p a (pairs.not_a n F A B c Q p e))
        (ne_eqb p b (pairs.not_b n F A B c Q p e))

    -- H is asked there at y
    point_asked : (y : ℕ) → y < 2 ^ (k + 1) → ask (point y) (gives (point y)) ≡ y
    point_asked y h =
        same_bits (k + 1) (ask (point y) (gives (point y))) y (pairs.ask_lt n F A B c Q (point y) (gives (point y))) h
        (λ q l. ⊎_elim (λ g. old q g (place n s_h q g)) (new q) (below_suc {j = q} {n = k} (omega arith)))
      where
        old : (q : ℕ) → q < k → Place n s_h q → bit (ask (point y) (gives (point y))) q ≡ bit y q
        old q g u =
            pairs.ask_low n F A B c Q (point y) (gives (point y)) q g u ∙ at_other y u.at u.below u.member
            ∙ ap (bit y) u.rank

        new : (q : ℕ) → q ≡ k → bit (ask (point y) (gives (point y))) q ≡ bit y q
        new q r =
            ap (bit (ask (point y) (gives (point y)))) r ∙ pairs.ask_top n F A B c Q (point y) (gives (point y))
            ∙ sym (pairs.first_cell_lem n F A B c Q (point y)) ∙ ap₂ D (at_a y) (at_b y) ∙ w.undo (bit y k)
            ∙ ap (bit y) (sym r)

    value_at : (y p : ℕ) (s t : Bool) → value (by s t p) (bit y) ≡ bit_by s t y p
    unfolding by bit_by
    value_at y p true t = refl
    value_at y p false true = refl
    value_at y p false false = refl

    in_H : (p : ℕ) → p < n → eqb p a ≡ false → eqb p b ≡ false → s_h p ≡ true
    in_H p l e g = pairs.others n F A B c Q p l (eqb-false p a e) (eqb-false p b g)

    -- H's input q is read in place of the input that it stands for, the last in place of a
    once : (q p : ℕ) → p < n → (s t : Bool) → eqb p a ≡ s → eqb p b ≡ t → (u : Bool) → eqb q k ≡ u
        → uses q (by s t p) ≤ val (eqb p (cond u a (nth n s_h q)))
    unfolding by
    once q p l true t e g true r = val-le (eqb k q) (eqb p a) (λ _. e)
    once q p l true t e g false r = val-le (eqb k q) (eqb p (nth n s_h q))
        (λ z. absurd (eqb-false q k r (sym (eqb-true k q z))))
    once q p l false true e g u r = omega arith
    once q p l false false e g true r =
        val-le (eqb (size p s_h) q) (eqb p a) (λ z.
        absurd (omega (arith, eqb-true (size p s_h) q z, eqb-true q k r, size-lt n s_h p l (in_H p l e g))))
    once q p l false false e g false r =
        val-le (eqb (size p s_h) q) (eqb p (nth n s_h q)) (λ z.
        eq-eqb p (nth n s_h q) (sym (nth_rank n s_h p l (in_H p l e g)) ∙ ap (nth n s_h) (eqb-true (size p s_h) q z)))

    none : (q p : ℕ) → k + 1 ≤ q → p < n → (s t : Bool) → eqb p a ≡ s → eqb p b ≡ t → uses q (by s t p) ≡ 0
    unfolding by
    none q p h l true t e g = ap val (ne_eqb k q (λ z. omega arith))
    none q p h l false true e g = refl
    none q p h l false false e g = ap val (ne_eqb (size p s_h) q (λ z. omega (arith, size-lt n s_h p l (in_H p l e g))))

    tree_fixed : (t : Tree) → Computes n F t → Computes (k + 1) H (graft fixed t)
    unfolding fixed point
    tree_fixed t W =
        computes_graft n F t W (k + 1) H fixed point (λ q. cond (eqb q k) a (nth n s_h q))
        (λ y p l. value_at y p (eqb p a) (eqb p b) ∙ sym (point_bit y p l))
        (λ y. number_lt n (λ p. bit_by (eqb p a) (eqb p b) y p))
        (λ y h. pairs.asked_gives n F A B c Q (point y) (number_lt n (λ p. bit_by (eqb p a) (eqb p b) y p))
        ∙ ap H (point_asked y h))
        (λ q p h l. once q p l (eqb p a) (eqb p b) refl refl (eqb q k) refl)
        (λ q p h l. none q p h l (eqb p a) (eqb p b) refl refl)

  pub tree_fore : (t : Tree) → Computes n F t → DependsOn n F (pair_of n A B c).a → (u : Tree) × Computes (k + 1) H u
  tree_fore t W e = let w = fixing e in (graft (fixed w) t, tree_fixed w t W)
