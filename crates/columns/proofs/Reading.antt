-- Columns read by adding spread numbers. Assumes nothing.
use mathlib.Core.Path.{◌≡◌, refl, sym, ap, ap₂, ◌∙◌, subst}
use mathlib.Core.Bool.{Bool, true, false, not, ◌&&◌, ◌||◌}
use Prim.Native.Nat.{ℕ, ◌+◌, ◌^◌, ◌<◌}
use native.Mathlib.Omega.{arith}
use lib.Dec.{eqb}
use borrow.Author.Tests.{eqb-true}
use Rattle.bits.specs.Numbers.{bit, number}
use Rattle.bits.specs.Sets.{union, rest, size, gather, spread}
use Rattle.bits.proofs.Bools.{iff, beq_same, same-beq}
use Rattle.bits.proofs.Below.{every_at, every_all}
use Rattle.bits.proofs.Numbers.{number_lt, number_ext, bit-number}
use Rattle.bits.proofs.Sums.{number-join, sum_mask}
use Rattle.bits.proofs.Spreading.{spread-zero, gather-spread, gather-zero}
use Rattle.bits.proofs.Masks.{mask_lt, mask_bit, mask_size, mask_spread}
use Rattle.tables.proofs.Pieces.{apart-lt}
use Rattle.columns.specs.declared.split.Split.{Split}
use Rattle.splits.specs.Split.{reads_d, reads_h}
use Rattle.splits.specs.Columns.{assign, column}
use Rattle.columns.specs.Reading.{Held, Without, Within, alike, column_at}
use Rattle.splits.proofs.Parts.{assign-spread, rest-apart, column_same}

-- what each split carries, as one record
pub held : (s : Split) → Held s
held s = record {
  most = s.most;
  below_a = s.below_a;
  below_b = s.below_b;
  apart = s.apart;
  free = s.free_is;
  words = s.words_are;
  low = s.low_is;
}

-- what is read stays an assignment
pub read_lt : (n L x : ℕ) → Without n L x → (c : ℕ) → x + spread n (bit L) c < 2 ^ n
read_lt n L x w c = apart-lt n x L c w.below w.clear

-- a spread number has bits at the mask's members alone
pub within_spread : (n m v : ℕ) → v < 2 ^ size n (bit m) → Within n m (spread n (bit m) v)
within_spread n m v h = ap (spread n (bit m)) (sym (gather-spread n (bit m) v h))

pub within_zero : (n m : ℕ) → Within n m 0
within_zero n m = sym (ap (spread n (bit m)) (gather-zero n (bit m)) ∙ spread-zero n (bit m))

-- ---- the columns of a split, at the shared assignment in `base`
module _ (s : Split) (h : Held s) (F : ℕ → Bool) (base : ℕ) (shared : Within s.n s.shared base) where
  abbrev n : ℕ
  n = s.n

  abbrev A : ℕ → Bool
  A = bit s.own

  abbrev B : ℕ → Bool
  B = bit s.shared

  abbrev L : ℕ
  L = s.free

  abbrev b : ℕ
  b = gather n B base

  -- the assignment that is read
  pub reads : (z c : ℕ) → Within n s.own z → base + z + spread n (bit L) c ≡ assign n A B (gather n A z) b c
  reads z c own =
      omega (
        arith,
        shared,
        own,
        mask_spread n (rest A B) L h.free c,
        assign-spread n A B h.apart (gather n A z) b c,
      )

  same_size : size n (bit L) ≡ size n (rest A B)
  same_size = mask_size n (rest A B) L h.free

  -- comparing bit by bit is comparing columns
  pub alike_column : (z z' : ℕ) → Within n s.own z → Within n s.own z'
      → alike n F L (base + z) (base + z') ≡ eqb (column_at s F b z) (column_at s F b z')
  unfolding alike column
  alike_column z z' own own' = iff _ _ there (λ e. every_all (2 ^ size n (bit L)) _ (λ c l. same-beq _ _ (back e c l)))
    where
      there : alike n F L (base + z) (base + z') ≡ true → eqb (column_at s F b z) (column_at s F b z') ≡ true
      there e =
          column_same n F A B b (gather n A z) (gather n A z')
          (λ c l. sym (ap F (reads z c own)) ∙ beq_same _ _
          (every_at (2 ^ size n (bit L)) _ e c (subst (λ (m : ℕ). c < 2 ^ m) (sym same_size) l))
          ∙ ap F (reads z' c own'))

      back : eqb (column_at s F b z) (column_at s F b z') ≡ true → (c : ℕ) → c < 2 ^ size n (bit L)
          → F (base + z + spread n (bit L) c) ≡ F (base + z' + spread n (bit L) c)
      back e c l =
          let l' : c < 2 ^ size n (rest A B) = subst (λ (m : ℕ). c < 2 ^ m) same_size l in
          ap F (reads z c own)
          ∙ sym (bit-number (2 ^ size n (rest A B)) (λ i. F (assign n A B (gather n A z) b i)) c l')
          ∙ ap (λ (m : ℕ). bit m c) (eqb-true (column_at s F b z) (column_at s F b z') e)
          ∙ bit-number (2 ^ size n (rest A B)) (λ i. F (assign n A B (gather n A z') b i)) c l'
          ∙ sym (ap F (reads z' c own'))

  -- where the reading starts has no free position
  pub start : (z : ℕ) → Within n s.own z → Without n L (base + z)
  unfolding spread
  start z own = record { below = subst (λ (m : ℕ). m < 2 ^ n) (sym sum) (number_lt n (λ j. f j || g j)); clear = clear }
    where
      f : ℕ → Bool
      f j = B j && bit b (size j B)

      g : ℕ → Bool
      g j = A j && bit (gather n A z) (size j A)

      meet : (p q u v : Bool) → (p ≡ true → q ≡ false) → (p && u) ≡ true → (q && v) ≡ false
      meet true q u v k e = ap (λ (t : Bool). t && v) (k refl)
      meet false q u v k e = cc

      sum : base + z ≡ number n (λ j. f j || g j)
      sum = ap₂ ◌+◌ shared own ∙ number-join n f g (λ j l q. meet (B j) (A j) (bit b (size j B))
          (bit (gather n A z) (size j A)) (h.apart j l) q)

      none : (p q u v : Bool) → not (p || q) ≡ true → ((q && u) || (p && v)) ≡ false
      none true q u v k = cc
      none false true u v k = cc
      none false false u v k = refl

      clear : (j : ℕ) → j < n → bit L j ≡ true → bit (base + z) j ≡ false
      clear j l q =
          ap (λ (m : ℕ). bit m j) sum ∙ bit-number n (λ j. f j || g j) j l
          ∙ none (A j) (B j) (bit b (size j B)) (bit (gather n A z) (size j A))
          (sym (mask_bit n (rest A B) L h.free j l) ∙ q)

-- ---- the masks that the code makes

pub free_lt : (s : Split) → Held s → s.free < 2 ^ s.n
free_lt s h = mask_lt s.n (rest (bit s.own) (bit s.shared)) s.free h.free

pub below_mask : (s : Split) → Held s → s.own + s.shared ≡ number s.n (reads_d (bit s.own) (bit s.shared))
below_mask s h = sum_mask s.n s.own s.shared h.below_a h.below_b h.apart

pub beside_mask : (s : Split) → Held s → s.shared + s.free ≡ number s.n (reads_h (bit s.own) (bit s.shared))
beside_mask s h =
    sum_mask s.n s.shared s.free h.below_b (free_lt s h)
    (λ j l e. rest-apart s.n A B j l (sym (free_bit j l) ∙ e))
    ∙ number_ext s.n (union B (bit s.free)) (reads_h A B) (λ j l. ap (λ (t : Bool). B j || t) (free_bit j l))
  where
    A : ℕ → Bool
    A = bit s.own

    B : ℕ → Bool
    B = bit s.shared

    free_bit : (j : ℕ) → j < s.n → bit s.free j ≡ rest A B j
    free_bit = mask_bit s.n (rest A B) s.free h.free
