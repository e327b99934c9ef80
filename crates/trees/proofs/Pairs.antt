-- A split of cells of two inputs has two own inputs and shares none. So its first cell is a function of two bits, and H
-- is asked at the other inputs and, behind them, at what the first cell gives. Assumes nothing.
use mathlib.Core.Path.{◌≡◌, refl, sym, ap, ap₂, ◌∙◌}
use mathlib.Core.Logic.{◌⊎◌, inl, inr, ⊎_elim}
use mathlib.Core.Bool.{Bool, true, false, cond, not, ◌||◌}
use Prim.Native.Nat.{ℕ, zero, suc, ◌+◌, ◌*◌, ◌^◌, ◌<◌}
use native.Mathlib.Omega.{arith}
use lib.Dec.{eqb}
use borrow.Author.Tests.{eq-eqb, ne_eqb}
use Rattle.bits.specs.Numbers.{bit, val, number}
use Rattle.bits.specs.Sets.{Agree, size, gather}
use Rattle.bits.proofs.Bools.{clash}
use Rattle.bits.proofs.Numbers.{val-lt, bit-number, bit_top, number_bit}
use Rattle.bits.proofs.Sizes.{size-lt}
use Rattle.bits.proofs.Spreading.{gather-lt, gather_ext}
use Rattle.bits.proofs.Members.{Place, place}
use Rattle.splits.specs.Split.{reads_d, reads_h, input_h, Possible}
use Rattle.splits.specs.Pair.{bit_h, table_h}
use Rattle.splits.proofs.Asked as asked
use Rattle.best.specs.Best.{Candidate}
use Rattle.trees.proofs.Members.{rank_same}

-- the two own inputs
pub record Pair (n A B : ℕ) : Type 0 where
  pub a : ℕ
  pub b : ℕ
  pub below_a : a < n
  pub below_b : b < n
  pub own_a : bit A a ≡ true
  pub own_b : bit A b ≡ true
  pub differ : a ≡ b → ⊥
  pub only : (j : ℕ) → j < n → reads_d (bit A) (bit B) j ≡ true → (j ≡ a) ⊎ (j ≡ b)

pub pair_of : (n A B : ℕ) → Candidate n 2 1 A B → Pair n A B
pair_of n A B k = go (place n (bit A) 0 (omega (arith, k.more))) (place n (bit A) 1 (omega (arith, k.more)))
  where
    zero_one : (m : ℕ) → m < 2 → (m ≡ 0) ⊎ (m ≡ 1)
    zero_one zero h = inl refl
    zero_one (suc zero) h = inr refl
    zero_one (suc (suc m)) h = absurd (omega arith)

    own : (s t : Bool) → (t ≡ true → ⊥) → (s || t) ≡ true → s ≡ true
    own true t f e = refl
    own false t f e = absurd (f e)

    go : Place n (bit A) 0 → Place n (bit A) 1 → Pair n A B
    go p q = record {
      a = p.at;
      b = q.at;
      below_a = p.below;
      below_b = q.below;
      own_a = p.member;
      own_b = q.member;
      differ = λ e. omega (arith, ap (λ (i : ℕ). size i (bit A)) e, p.rank, q.rank);
      only = λ j l e. each j l (own (bit A j) (bit B j) (shared j l) e);
    }
      where
        shared : (j : ℕ) → j < n → bit B j ≡ true → ⊥
        shared j l t = omega (arith, k.more, k.most, size-lt n (bit B) j l t)

        is : (j m : ℕ) (w : Place n (bit A) m) → j < n → bit A j ≡ true → size j (bit A) ≡ m → j ≡ w.at
        is j m w l t e = rank_same n (bit A) j w.at l w.below t w.member (e ∙ sym w.rank)

        each : (j : ℕ) → j < n → bit A j ≡ true → (j ≡ p.at) ⊎ (j ≡ q.at)
        each j l t =
            ⊎_elim (λ e. inl (is j 0 p l t e)) (λ e. inr (is j 1 q l t e))
            (zero_one (size j (bit A)) (omega (arith, k.more, k.most, size-lt n (bit A) j l t)))

module _ (n : ℕ) (F : ℕ → Bool) (A B : ℕ) (c : Candidate n 2 1 A B) (Q : Possible n F (bit A) (bit B) 1) where
  abbrev s_h : ℕ → Bool
  s_h = reads_h (bit A) (bit B)

  abbrev k : ℕ
  k = size n (reads_h (bit A) (bit B))

  abbrev H : ℕ → Bool
  H = bit (table_h n F (bit A) (bit B) 1)

  abbrev P : Pair n A B
  P = pair_of n A B c

  -- ---- what the first cell gives at x, and H's input there

  pub gives : ℕ → Bool
  gives x = bit (asked.code n F (bit A) (bit B) c.apart 1 Q x) 0

  abbrev pub ask : ℕ → Bool → ℕ
  ask x d = input_h n (bit A) (bit B) x (val d)

  pub gives_sees : (x y : ℕ) → Agree n (reads_d (bit A) (bit B)) x y → gives x ≡ gives y
  unfolding gives
  gives_sees x y h = ap (λ (m : ℕ). bit m 0) (asked.code_sees n F (bit A) (bit B) c.apart 1 Q x y h)

  pub ask_sees : (d : Bool) (x y : ℕ) → Agree n s_h x y → ask x d ≡ ask y d
  ask_sees d x y h = ap (λ (g : ℕ). g + val d * 2 ^ k) (gather_ext n s_h x y h)

  pub ask_lt : (x : ℕ) (d : Bool) → ask x d < 2 ^ (k + 1)
  ask_lt x d = asked.input_lt n F (bit A) (bit B) c.apart 1 Q x (val d) (val-lt d)

  pub ask_low : (x : ℕ) (d : Bool) (q : ℕ) → q < k → (w : Place n s_h q) → bit (ask x d) q ≡ bit x w.at
  ask_low x d = asked.input_low n F (bit A) (bit B) c.apart 1 Q x (val d)

  pub ask_top : (x : ℕ) (d : Bool) → bit (ask x d) k ≡ d
  ask_top x d = bit_top (gather n s_h x) d k (gather-lt n s_h x)

  pub asked_gives : (x : ℕ) → x < 2 ^ n → F x ≡ H (ask x (gives x))
  unfolding gives number table_h
  asked_gives x h =
      let m = asked.code n F (bit A) (bit B) c.apart 1 Q x in
      let e : m ≡ val (bit m 0) = omega (arith, number_bit 1 m (asked.code_small n F (bit A) (bit B) c.apart 1 Q x))
      in
      asked.gives n F (bit A) (bit B) c.apart 1 Q x h
      ∙ ap (λ (d : ℕ). bit_h n F (bit A) (bit B) (input_h n (bit A) (bit B) x d)) e
      ∙ sym (bit-number (2 ^ (k + 1)) (bit_h n F (bit A) (bit B)) (ask x (gives x)) (ask_lt x (gives x)))

  -- ---- H reads every input but the two

  own_out : (p : ℕ) → p < n → bit A p ≡ true → s_h p ≡ false
  own_out p l e = go (bit A p) (bit B p) (c.apart p l) e
    where
      go : (s t : Bool) → (t ≡ true → s ≡ false) → s ≡ true → (t || not (s || t)) ≡ false
      go s true f e = sym e ∙ f refl
      go true false f e = refl
      go false false f e = sym e

  pub not_a : (p : ℕ) → s_h p ≡ true → p ≡ P.a → ⊥
  not_a p e r = clash e (ap s_h r ∙ own_out P.a P.below_a P.own_a)

  pub not_b : (p : ℕ) → s_h p ≡ true → p ≡ P.b → ⊥
  not_b p e r = clash e (ap s_h r ∙ own_out P.b P.below_b P.own_b)

  pub others : (p : ℕ) → p < n → (p ≡ P.a → ⊥) → (p ≡ P.b → ⊥) → s_h p ≡ true
  others p l f g = go (bit A p) (bit B p) (λ e. ⊎_elim f g (P.only p l e))
    where
      go : (s t : Bool) → ((s || t) ≡ true → ⊥) → (t || not (s || t)) ≡ true
      go true t h = absurd (h refl)
      go false true h = absurd (h refl)
      go false false h = refl

  -- ---- the first cell as a function of its two inputs

  two : Bool → Bool → ℕ → Bool
  two p q j = cond (eqb j P.a) p (cond (eqb j P.b) q false)

  pub D : Bool → Bool → Bool
  D p q = gives (number n (two p q))

  pub first_cell_lem : (x : ℕ) → D (bit x P.a) (bit x P.b) ≡ gives x
  unfolding D two
  first_cell_lem x =
      gives_sees (number n (two p q)) x (λ j l e. bit-number n (two p q) j l ∙ ⊎_elim (at_a j) (at_b j) (P.only j l e))
    where
      p : Bool
      p = bit x P.a

      q : Bool
      q = bit x P.b

      at_a : (j : ℕ) → j ≡ P.a → cond (eqb j P.a) p (cond (eqb j P.b) q false) ≡ bit x j
      at_a j e = ap (λ (t : Bool). cond t p (cond (eqb j P.b) q false)) (eq-eqb j P.a e) ∙ ap (bit x) (sym e)

      at_b : (j : ℕ) → j ≡ P.b → cond (eqb j P.a) p (cond (eqb j P.b) q false) ≡ bit x j
      at_b j e =
          ap₂ (λ (t u : Bool). cond t p (cond u q false)) (ne_eqb j P.a (λ r. P.differ (sym r ∙ e)))
          (eq-eqb j P.b e)
          ∙ ap (bit x) (sym e)
