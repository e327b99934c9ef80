-- AND, OR and XOR of any size: an operation for which order and grouping do not matter lets any set of inputs be joined
-- first, in a cell of its own; and every input counts, since among neutral bits one other bit shows. So the sheet is
-- made, and is the fewest. Assumes nothing.
use mathlib.Core.Path.{◌≡◌, refl, sym, ap, ap₂, ◌∙◌, subst}
use mathlib.Core.Logic.{⊎_elim}
use mathlib.Core.Bool.{Bool, true, false, cond, not, ◌&&◌, ◌||◌, xor}
use mathlib.Core.Bool.{and-true, and_comm, and_assoc, or-false, or_comm, or_assoc}
use mathlib.Core.List.{List, [], ◌∷◌}
use Prim.Native.Nat.{ℕ, zero, suc, ◌+◌, ◌-◌, ◌*◌, ◌^◌, ◌<◌, ◌≤◌}
use native.Mathlib.Nat.{not-suc-le-zero}
use native.Mathlib.Decide.{dec_lt}
use native.Mathlib.Omega.{arith}
use lib.Dec.{eqb}
use lib.ListN.{length}
use borrow.Author.Tests.{eq-eqb, ne_eqb}
use Rattle.bits.specs.Numbers.{bit, number}
use Rattle.bits.specs.Sets.{Agree}
use Rattle.bits.proofs.Below.{below_suc}
use Rattle.bits.proofs.Numbers.{bit-number, number_lt}
use Rattle.tables.specs.Counting.{AllCount}
use Rattle.splits.proofs.Respect.{possible_of}
use Rattle.splits.proofs.Same.{possible_ext}
use Rattle.sheets.specs.Network.{Cell}
use Rattle.chains.specs.Chain.{last_cell, made, inputs}
use Rattle.chains.specs.Aside.{sheet_aside}
use Rattle.chains.specs.Words.{Makes, ends}
use Rattle.fewest.specs.Fewest.{Fewest}
use Rattle.fewest.specs.Joining.{Joining, joined, join_table, AnyOwn}
use Rattle.chains.proofs.Lists.{inputs-length}
use Rattle.chains.proofs.One.{made_exactly}
use Rattle.fewest.proofs.Enough.{enough_all}
use Rattle.chains.proofs.Aside.{sheet-plain, table_gives}
use Rattle.fewest.proofs.AnyOwn.{MadeFull, any_made}

module _ (op : Bool → Bool → Bool) (e : Bool) (J : Joining op e) where
  joined_ext : (n : ℕ) (v w : ℕ → Bool) → ((j : ℕ) → j < n → v j ≡ w j) → joined op e n v ≡ joined op e n w
  joined_ext zero v w h = refl
  joined_ext (suc n) v w h = ap₂ op (joined_ext n v w (λ j l. h j (omega arith))) (h n (omega arith))

  -- ---- any set of inputs is joined first

  -- the bits of a set, the others neutral
  only : (ℕ → Bool) → (ℕ → Bool) → ℕ → Bool
  only s v j = cond (s j) (v j) e

  only_ext : (n : ℕ) (s : ℕ → Bool) (x y : ℕ) → Agree n s x y → joined op e n (only s (bit x))
      ≡ joined op e n (only s (bit y))
  unfolding only
  only_ext n s x y h = joined_ext n (only s (bit x)) (only s (bit y)) (λ j l. go j l (s j) refl)
    where
      go : (j : ℕ) → j < n → (t : Bool) → s j ≡ t → cond t (bit x j) e ≡ cond t (bit y j) e
      go j l true q = h j l q
      go j l false q = refl

  two-parts : (n : ℕ) (s : ℕ → Bool) (v : ℕ → Bool) → joined op e n v
      ≡ op (joined op e n (only s v)) (joined op e n (only (λ j. not (s j)) v))
  unfolding only
  two-parts zero s v = sym (J.neutral e)
  two-parts (suc n) s v = ap (λ (t : Bool). op t (v n)) (two-parts n s v)
      ∙ go (s n) (joined op e n (only s v)) (joined op e n (only (λ j. not (s j)) v)) (v n)
    where
      go : (t a b c : Bool) → op (op a b) c ≡ op (op a (cond t c e)) (op b (cond (not t) c e))
      go true a b c =
          J.grouping a b c ∙ ap (op a) (J.order b c) ∙ sym (J.grouping a c b) ∙ ap (op (op a c)) (sym (J.neutral b))
      go false a b c = J.grouping a b c ∙ ap (λ (t : Bool). op t (op b c)) (sym (J.neutral a))

  joined_own : (n : ℕ) → AnyOwn n (λ x. joined op e n (bit x))
  joined_own n A =
      possible_of n (λ x. joined op e n (bit x)) A (λ j. false) 1 (λ t x. joined op e n (only A (bit x)))
      (λ d x. op (bit d 0) (joined op e n (only (λ j. not (A j)) (bit x))))
      (λ t x y h. only_ext n A x y (λ j l m. h j l (or-false (A j) ∙ m)))
      (λ d x y h. ap (op (bit d 0)) (only_ext n (λ j. not (A j)) x y (λ j l m. h j l (ap not (or-false (A j)) ∙ m))))
      (λ x h. two-parts n A (bit x)
      ∙ ap (λ (t : Bool). op t (joined op e n (only (λ j. not (A j)) (bit x))))
      (sym (bit-number 1 (λ t. joined op e n (only A (bit x))) 0 (omega arith))))

  -- ---- every input counts

  joined_neutral : (n : ℕ) (v : ℕ → Bool) → ((j : ℕ) → j < n → v j ≡ e) → joined op e n v ≡ e
  joined_neutral zero v h = refl
  joined_neutral (suc n) v h = ap₂ op (joined_neutral n v (λ j l. h j (omega arith))) (h n (omega arith)) ∙ J.neutral e

  joined-one : (n j : ℕ) (v : ℕ → Bool) → j < n → ((i : ℕ) → i < n → (i ≡ j → ⊥) → v i ≡ e) → joined op e n v ≡ v j
  joined-one zero j v l h = absurd (not-suc-le-zero l)
  joined-one (suc n) j v l h =
      ⊎_elim
      (λ g. ap₂ op (joined-one n j v g (λ i q r. h i (omega arith) r)) (h n (omega arith) (λ r. omega arith))
      ∙ J.neutral (v j))
      (λ q. ap (λ (t : Bool). op t (v n)) (joined_neutral n v (λ i r. h i (omega arith) (λ z. omega arith)))
      ∙ J.order e (v n) ∙ J.neutral (v n)
      ∙ ap v (sym q))
      (below_suc l)

  joined-counts : (n : ℕ) → AllCount n (λ x. joined op e n (bit x))
  joined-counts n j l = record {
    x = number n flat;
    y = number n turned;
    below_x = number_lt n flat;
    below_y = number_lt n turned;
    alike = λ i h q. bit-number n flat i h ∙ sym (bit-number n turned i h ∙ at_other i q);
    differ = λ q. differs e (sym (joined_neutral n (bit (number n flat)) (λ i h. bit-number n flat i h)) ∙ q
        ∙ joined-one n j (bit (number n turned)) l (λ i h r. bit-number n turned i h ∙ at_other i r)
        ∙ bit-number n turned j l ∙ at_j);
  }
    where
      flat : ℕ → Bool
      flat i = e

      turned : ℕ → Bool
      turned i = cond (eqb i j) (not e) e

      at_other : (i : ℕ) → (i ≡ j → ⊥) → turned i ≡ e
      at_other i q = ap (λ (t : Bool). cond t (not e) e) (ne_eqb i j q)

      at_j : turned j ≡ not e
      at_j = ap (λ (t : Bool). cond t (not e) e) (eq-eqb j j refl)

      differs : (t : Bool) → t ≡ not t → ⊥
      differs true q = let z : ◌≡◌ {A = ℕ} 0 1 = cc in omega arith
      differs false q = let z : ◌≡◌ {A = ℕ} 0 1 = cc in omega arith

  -- ---- the sheet

  pub joining_fewest : (n K : ℕ) → 1 ≤ n → 2 ≤ K → (cs : List Cell) × (sheet_aside n K (join_table op e n) ≡ made cs)
      × Fewest n K (λ x. joined op e n (bit x)) cs
  joining_fewest n K some two = elim (dec_lt 1 n) [
    | no h ↦
        let few : length (inputs n) ≤ K = omega (arith, inputs-length n) in
        let m = from (last_cell (inputs n) T ∷ []) (ends few) in (
          last_cell (inputs n) T ∷ [],
          m,
          record {
            network = table_gives n K F some (omega arith) (last_cell (inputs n) T ∷ []) m;
            least = λ k C. omega (arith, C.count, C.network.some);
          },
        )
    | yes h ↦ go (any_made n K n (inputs n) T two (omega (arith, inputs-length n)) (omega (arith, inputs-length n))
        (subst (λ (k : ℕ). AnyOwn k (bit T)) (sym (inputs-length n)) own))
  ]
    where
      F : ℕ → Bool
      F x = joined op e n (bit x)

      T : ℕ
      T = join_table op e n

      own : AnyOwn n (bit T)
      own A = possible_ext n F (bit T) (λ x h. sym (bit-number (2 ^ n) F x h)) A (λ j. false) 1 (joined_own n A)

      -- every input counts, so nothing is set aside
      from : (cs : List Cell) → Makes K n (inputs n) (join_table op e n) cs → sheet_aside n K (join_table op e n) ≡ made cs
      from cs m = sheet-plain n F K (joined-counts n) ∙ (made_exactly n K T cs some (omega arith)).1 m

      go : MadeFull K n (inputs n) T → (cs : List Cell) × (sheet_aside n K T ≡ made cs) × Fewest n K F cs
      go w =
          let m = from w.cells w.makes in
          let q : length w.cells - 1 ≡ w.p = omega (arith, w.count) in (
            w.cells,
            m,
            enough_all n K F w.cells (joined-counts n) (table_gives n K F some (omega arith) w.cells m)
                (subst (λ (z : ℕ). z * (K - 1) + 1 < n) (sym q) (omega (arith, w.full, inputs-length n))),
          )

-- ---- the three

pub and_joins : Joining ◌&&◌ true
and_joins = record { neutral = and-true; order = and_comm; grouping = and_assoc }

pub or_joins : Joining ◌||◌ false
or_joins = record { neutral = or-false; order = or_comm; grouping = or_assoc }

pub xor_joins : Joining xor false
unfolding xor
xor_joins = record { neutral = neutral; order = order; grouping = grouping }
  where
    neutral : (a : Bool) → xor a false ≡ a
    neutral true = refl
    neutral false = refl

    order : (a b : Bool) → xor a b ≡ xor b a
    order true true = refl
    order true false = refl
    order false true = refl
    order false false = refl

    grouping : (a b c : Bool) → xor (xor a b) c ≡ xor a (xor b c)
    grouping true true true = refl
    grouping true true false = refl
    grouping true false true = refl
    grouping true false false = refl
    grouping false true true = refl
    grouping false true false = refl
    grouping false false true = refl
    grouping false false false = refl
