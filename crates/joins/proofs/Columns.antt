-- Two inputs i and j of what is left of a gate: one can stand for both, the other being fixed at v, exactly where the
-- two columns at v are all that there are. Assumes nothing.
use mathlib.Core.Path.{◌≡◌, refl, sym, ap, ap₂, ◌∙◌}
use mathlib.Core.Logic.{◌⊎◌, inl, inr, ⊎_elim}
use mathlib.Core.Bool.{Bool, true, false, cond, not, ◌||◌}
use Prim.Native.Nat.{ℕ, ◌^◌, ◌<◌}
use native.Mathlib.Omega.{arith}
use lib.Dec.{eqb}
use Rattle.bits.specs.Numbers.{bit, number}
use Rattle.bits.specs.Sets.{rest, size, gather, spread}
use Rattle.bits.proofs.Bools.{clash}
use Rattle.bits.proofs.Numbers.{number_lt, bit-number}
use Rattle.bits.proofs.Members.{same_bits}
use Rattle.bits.proofs.Spreading.{gather-lt, gather_ext, gather-bit, gather-spread}
use Rattle.trees.proofs.Two.{two, own_i, own_j, gather-two}
use Rattle.splits.specs.Columns.{assign, column}
use Rattle.splits.proofs.Parts.{assign-lt, bit-assign}
use Rattle.columns.specs.declared.split.Split.{Split}
use Rattle.columns.specs.Reading.{Held, column_of}
use Rattle.joins.specs.StandsFor.{set_to, StandsFor}
use Rattle.joins.specs.Left.{with_fixed}
use Rattle.joins.proofs.Setting.{set-lt, set_here, set-off}

-- ---- the columns of a split with these two as own inputs, the fixed ones being shared
module _ (s : Split) (h : Held s) (F : ℕ → Bool) (at i j : ℕ) (li : i < s.n) (lt : j < i)
    (is : (p : ℕ) → p < s.n → bit s.own p ≡ (eqb p j || eqb p i)) where
  abbrev n : ℕ
  n = s.n

  abbrev B : ℕ → Bool
  B = bit s.shared

  abbrev C : ℕ → Bool
  C = rest (bit s.own) (bit s.shared)

  abbrev left : ℕ → Bool
  left x = F (with_fixed n s.shared at x)

  abbrev pub col : Bool → Bool → ℕ
  col p q = column_of s F (gather n B at) (two p q)

  lj : j < n
  lj = omega arith

  -- what is read at x
  reads : (x : ℕ) → with_fixed n s.shared at x ≡ assign n (bit s.own) B (gather n (bit s.own) x) (gather n B at)
      (gather n C x)
  unfolding with_fixed
  reads x =
      same_bits n (number n (λ p. cond (B p) (bit at p) (bit x p))) (assign n (bit s.own) B a b c)
      (number_lt n (λ p. cond (B p) (bit at p) (bit x p))) (assign-lt n (bit s.own) B a b c) (λ p l.
      bit-number n (λ p. cond (B p) (bit at p) (bit x p)) p l
      ∙ go p l (bit s.own p) (B p) refl refl ∙ sym (bit-assign n (bit s.own) B a b c p l))
    where
      a : ℕ
      a = gather n (bit s.own) x

      b : ℕ
      b = gather n B at

      c : ℕ
      c = gather n C x

      go : (p : ℕ) → p < n → (u w : Bool) → bit s.own p ≡ u → B p ≡ w → cond w (bit at p) (bit x p)
          ≡ cond u (bit (gather n (bit s.own) x) (size p (bit s.own)))
          (cond w (bit (gather n B at) (size p B)) (bit (gather n C x) (size p C)))
      go p l true true e f = absurd (clash e (h.apart p l f))
      go p l true false e f = sym (gather-bit n (bit s.own) x p l e)
      go p l false true e f = sym (gather-bit n B at p l f)
      go p l false false e f = sym (gather-bit n C x p l (ap₂ (λ (u w : Bool). not (u || w)) e f))

  -- what is left gives the bit of a column
  gate_is : (x : ℕ) → left x ≡ bit (col (bit x j) (bit x i)) (gather n C x)
  unfolding column
  gate_is x =
      ap F (reads x ∙ ap (λ (m : ℕ). assign n (bit s.own) B m (gather n B at) (gather n C x))
      (gather-two n i j s.own li lj is lt x))
      ∙ sym (bit-number (2 ^ size n C) (λ c. F (assign n (bit s.own) B (two (bit x j) (bit x i)) (gather n B at) c))
      (gather n C x) (gather-lt n C x))

  -- the two set to p and q, the others as in x
  abbrev point : Bool → Bool → ℕ → ℕ
  point p q x = set_to n i q (set_to n j p x)

  free_same : (p q : Bool) (x : ℕ) → gather n C (point p q x) ≡ gather n C x
  free_same p q x = gather_ext n C (point p q x) x (λ m l e.
      set-off n i q (set_to n j p x) m l (λ z. off (bit s.own m) (B m) e (ap (bit s.own) z
      ∙ own_i n i j s.own li lj is))
      ∙ set-off n j p x m l (λ z. off (bit s.own m) (B m) e (ap (bit s.own) z ∙ own_j n i j s.own li lj is)))
    where
      off : (u w : Bool) → not (u || w) ≡ true → u ≡ true → ⊥
      off true w e f = clash e refl
      off false w e f = clash f refl

  gate_at : (p q : Bool) (x : ℕ) → left (point p q x) ≡ bit (col p q) (gather n C x)
  gate_at p q x =
      gate_is (point p q x)
      ∙ ap₂ bit (ap₂ col (set-off n i q (set_to n j p x) j lj (λ e. omega arith) ∙ set_here n j p x lj)
      (set_here n i q (set_to n j p x) li)) (free_same p q x)

  -- columns are the same where what is left is
  same_columns : (p q p' q' : Bool) → ((x : ℕ) → left (point p q x) ≡ left (point p' q' x)) → col p q ≡ col p' q'
  unfolding column
  same_columns p q p' q' f =
      same_bits (2 ^ size n C) (col p q) (col p' q') (number_lt (2 ^ size n C) _) (number_lt (2 ^ size n C) _) (λ c l.
      let e = gather-spread n C c l in
      ap (bit (col p q)) (sym e) ∙ sym (gate_at p q (spread n C c)) ∙ f (spread n C c) ∙ gate_at p' q' (spread n C c)
      ∙ ap (bit (col p' q')) e)

  -- every column is one of the two at v
  abbrev pub Covers : Bool → Type 0
  Covers v = (p : Bool) → (col p (not v) ≡ col false v) ⊎ (col p (not v) ≡ col true v)

  pub stands_when : (v : Bool) → Covers v → StandsFor n left i j v
  stands_when v cover = record {
    D = λ p q. (among v q p cover).0;
    gives = λ x l. gate_is x
        ∙ ap (λ (m : ℕ). bit m (gather n C x)) (among v (bit x i) (bit x j) cover).1
        ∙ sym (gate_at (among v (bit x i) (bit x j) cover).0 v x);
  }
    where
      other : (v p : Bool) → Covers v → (d : Bool) × (col p (not v) ≡ col d v)
      other v p c = ⊎_elim {C = (d : Bool) × (col p (not v) ≡ col d v)} (λ e. (false, e)) (λ e. (true, e)) (c p)

      among : (v q p : Bool) → Covers v → (d : Bool) × (col p q ≡ col d v)
      among true true p c = (p, refl)
      among true false p c = other true p c
      among false true p c = other false p c
      among false false p c = (p, refl)

  pub stands_covers : (v : Bool) → StandsFor n left i j v → Covers v
  stands_covers v J p = go (J.D p (not v)) refl
    where
      same : col p (not v) ≡ col (J.D p (not v)) v
      same = same_columns p (not v) (J.D p (not v)) v (λ x.
          let y = point p (not v) x in
          J.gives y (set-lt n i (not v) (set_to n j p x))
          ∙ gate_at (J.D (bit y j) (bit y i)) v y
          ∙ ap₂ bit (ap (λ (d : Bool). col d v) (ap₂ J.D
          (set-off n i (not v) (set_to n j p x) j lj (λ e. omega arith) ∙ set_here n j p x lj)
          (set_here n i (not v) (set_to n j p x) li))) (free_same p (not v) x)
          ∙ sym (gate_at (J.D p (not v)) v x))

      go : (d : Bool) → J.D p (not v) ≡ d → (col p (not v) ≡ col false v) ⊎ (col p (not v) ≡ col true v)
      go true e = inr (same ∙ ap (λ (d : Bool). col d v) e)
      go false e = inl (same ∙ ap (λ (d : Bool). col d v) e)
