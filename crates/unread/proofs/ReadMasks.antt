-- The mask that the code keeps: from the last record back, it holds what the later records read, so that a record's
-- bit tells whether it is read. Assumes nothing.
use mathlib.Core.Path.{◌≡◌, refl, sym, ap, ap₂, ◌∙◌, subst}
use mathlib.Core.Bool.{Bool, true, false, not, ◌||◌}
use mathlib.Core.List.{List, [], ◌∷◌, ◌++◌}
use Prim.Native.Nat.{ℕ, zero, suc, ◌+◌, ◌-◌, ◌*◌, ◌/◌, ◌^◌, ◌<◌, ◌≤◌}
use native.Mathlib.Omega.{arith}
use lib.Dec.{ltb, eqb}
use lib.ListN.{length}
use lib.Bits.{bit_and, bit_or, and_mask, or_lt}
use lib.Pow.{pow-lt}
use borrow.Author.Tests.{ne_eqb, lt-ltb}
use Rattle.bits.specs.Numbers.{bit, val, number}
use Rattle.bits.specs.Lists.{list_of}
use Rattle.bits.proofs.Numbers.{number_bit, number_ext, number_lt, bit-number, none-zero}
use Rattle.bits.proofs.Lists.{list_more}
use Rattle.bits.proofs.Least.{LeastFrom, from_here, from_pass}
use Rattle.bits.proofs.Machine.{bit-or, bit-set, bit-clear}
use Rattle.bits.proofs.Single.{single}
use Rattle.sheets.specs.declared.kinds.Edition.{Edition}
use Rattle.sheets.specs.Network.{Cell}
use Rattle.sheets.specs.Edition.{IsEdition}
use Rattle.sheets.specs.Record.{byte_at, cell_of, Readable}
use Rattle.sheets.specs.Sheet.{record_bytes, record_at, cells_from, AllReadable}
use Rattle.sheets.specs.Reading.{times, reads, none_reads, unread, also_read}
use Rattle.unread.specs.ReadMasks.{read_mask}
use Rattle.sheets.proofs.Places.{record_within, record_length}
use Rattle.sheets.proofs.Unread.{later_cells}

times-append : (x : ℕ) (l m : List ℕ) → times x (l ++ m) ≡ times x l + times x m
times-append x [] m = omega arith
times-append x (y ∷ l) m = omega (arith, times-append x l m)

-- ---- a mask with one signal more

-- at least one of two
some : (a b : ℕ) → ltb 0 (a + b) ≡ (ltb 0 a || ltb 0 b)
some zero b = let q : 0 + b ≡ b = omega arith in ap (ltb 0) q
some (suc a) b = lt-ltb 0 (suc a + b) (omega arith)
    ∙ ap (λ (t : Bool). t || ltb 0 b) (sym (lt-ltb 0 (suc a) (omega arith)))

or_assoc : (s t u : Bool) → ((s || t) || u) ≡ (s || (t || u))
or_assoc true t u = refl
or_assoc false t u = refl

some_digit : (t : Bool) → ltb 0 (val t + 0) ≡ t
some_digit true = refl
some_digit false = refl

bit_power : (y x : ℕ) → y < 32 → x < 32 → bit (2 ^ y) x ≡ eqb x y
bit_power y x h g = ap (λ (m : ℕ). bit m x) (sym (single 32 y h)) ∙ bit-number 32 (λ j. eqb j y) x g

-- the mask of w and the first j of a record's signals
abbrev pub Named : (ℕ → ℕ) → ℕ → ℕ → ℕ
Named b w j = number 32 (λ x. bit w x || ltb 0 (times x (list_of j (λ t. b (t + 1)))))

module _ (b : ℕ → ℕ) (w : ℕ) where
  pub named_none : w < 2 ^ 32 → w ≡ Named b w 0
  unfolding list_of
  named_none h = sym (number_bit 32 w h) ∙ number_ext 32 (bit w) (λ x. bit w x || false) (λ x l. or_no (bit w x))
    where
      or_no : (t : Bool) → t ≡ (t || false)
      or_no true = refl
      or_no false = refl

  pub named_more : (j : ℕ) → b (j + 1) < 32 → bit_or (Named b w j) (2 ^ b (j + 1)) ≡ Named b w (j + 1)
  named_more j h =
      let l = list_of j (λ t. b (t + 1)) in
      let y = b (j + 1) in
      sym (number_bit 32 (bit_or (Named b w j) (2 ^ y))
      (or_lt 32 (Named b w j) (2 ^ y) (number_lt 32 (λ x. bit w x || ltb 0 (times x l))) (pow-lt h)))
      ∙ number_ext 32 (bit (bit_or (Named b w j) (2 ^ y)))
      (λ x. bit w x || ltb 0 (times x (list_of (j + 1) (λ t. b (t + 1))))) (λ x g.
      bit-or (Named b w j) (2 ^ y) x
      ∙ ap₂ (λ (s t : Bool). s || t) (bit-number 32 (λ x. bit w x || ltb 0 (times x l)) x g) (bit_power y x h g)
      ∙ or_assoc (bit w x) (ltb 0 (times x l)) (eqb x y)
      ∙ ap (λ (t : Bool). bit w x || t) (ap (λ (t : Bool). ltb 0 (times x l) || t) (sym (some_digit (eqb x y)))
      ∙ sym (some (times x l) (times x (y ∷ [])))
      ∙ ap (ltb 0) (sym (times-append x l (y ∷ [])) ∙ ap (times x) (sym (list_more j (λ t. b (t + 1)))))))

-- ---- the mask of what the records from i on read

-- no cell reads a signal exactly where its bit is 0
pub mask_none : (cs : List Cell) (x w : ℕ) → x < 32 → w ≡ read_mask cs → not (bit w x) ≡ none_reads x cs
mask_none cs x w l q = ap (λ (v : ℕ). not (bit v x)) q ∙ ap not (bit-number 32 (λ x. ltb 0 (reads x cs)) x l)
    ∙ none (reads x cs)
  where
    none : (a : ℕ) → not (ltb 0 a) ≡ eqb a 0
    none zero = refl
    none (suc a) = ap not (lt-ltb 0 (suc a) (omega arith)) ∙ sym (ne_eqb (suc a) 0 (λ q. omega arith))

or_swap : (s t : Bool) → (s || t) ≡ (t || s)
or_swap true true = refl
or_swap true false = refl
or_swap false true = refl
or_swap false false = refl

module _ (e : Edition) (s : List ℕ) where
  mask_record : (i k w : ℕ) → w ≡ read_mask (cells_from e s (suc i) k) → also_read (record_at e s i) w
      ≡ read_mask (cells_from e s i (suc k))
  unfolding cells_from cell_of
  mask_record i k w q =
      let b = record_at e s i in
      let cs = cells_from e s (suc i) k in
      let l = list_of (b 0) (λ j. b (j + 1)) in
      number_ext 32 (λ x. bit w x || ltb 0 (times x l)) (λ x. ltb 0 (times x l + reads x cs)) (λ x h.
      ap (λ (t : Bool). t || ltb 0 (times x l)) (ap (λ (m : ℕ). bit m x) q
      ∙ bit-number 32 (λ x. ltb 0 (reads x cs)) x h)
      ∙ or_swap (ltb 0 (reads x cs)) (ltb 0 (times x l)) ∙ sym (some (times x l) (reads x cs)))

  -- the last record's
  pub mask_last : (m : ℕ) → 1 ≤ m → also_read (record_at e s (m - 1)) 0 ≡ read_mask (cells_from e s (m - 1) (m - (m - 1)))
  unfolding cells_from
  mask_last m h = let q : suc 0 ≡ m - (m - 1) = omega arith in
      mask_record (m - 1) 0 0 (sym (none-zero 32)) ∙ ap (λ (k : ℕ). read_mask (cells_from e s (m - 1) k)) q

  -- one record more
  pub mask_more : (i m w : ℕ) → 0 < i → i ≤ m → w ≡ read_mask (cells_from e s i (m - i))
      → also_read (record_at e s (i - 1)) w ≡ read_mask (cells_from e s (i - 1) (m - (i - 1)))
  mask_more i m w h g q =
      let a : i ≡ suc (i - 1) = omega arith in
      let b : suc (m - i) ≡ m - (i - 1) = omega arith in
      mask_record (i - 1) (m - i) w (q ∙ ap (λ (j : ℕ). read_mask (cells_from e s j (m - i))) a)
      ∙ ap (λ (k : ℕ). read_mask (cells_from e s (i - 1) k)) b

  -- record i - 1 is unread exactly where its bit is 0
  pub mask_tells : (n m i w : ℕ) → 0 < i → i ≤ m → n + (i - 1) < 32 → w ≡ read_mask (cells_from e s i (m - i))
      → unread e n s m (i - 1) ≡ not (bit w (n + (i - 1)))
  mask_tells n m i w h g l q =
      let a : suc (i - 1) ≡ i = omega arith in
      let x = n + (i - 1) in
      let cs = cells_from e s i (m - i) in
      ap (none_reads x) (later_cells e s (i - 1) m (omega arith) ∙ ap (λ (j : ℕ). cells_from e s j (m - j)) a)
      ∙ sym (mask_none cs x w l q)

  -- so, looking back from record i to the one before it, the first unread one is found
  module _ (n m i w f : ℕ) (some : 0 < i) (most : i < m) (low : n + (i - 1) < 32)
      (is : w ≡ read_mask (cells_from e s i (m - i))) where
    pub found_here : bit_and (w / 2 ^ (n + (i - 1))) 1 ≡ 0 → LeastFrom (i - 1) (m - 1) (unread e n s m) (i - 1)
    found_here h =
        from_here (m - 1) (unread e n s m) (i - 1) (omega arith)
        (mask_tells n m i w some (omega arith) low is ∙ ap not (bit-clear w (n + (i - 1)) (λ q. omega arith)))

    pub found_later : (bit_and (w / 2 ^ (n + (i - 1))) 1 ≡ 0 → ⊥) → LeastFrom i (m - 1) (unread e n s m) f
        → LeastFrom (i - 1) (m - 1) (unread e n s m) f
    found_later h g =
        let x = n + (i - 1) in
        let a : i ≡ suc (i - 1) = omega arith in
        let one : bit_and (w / 2 ^ x) 1 ≡ 1 = omega (arith, and_mask (w / 2 ^ x) 1) in
        from_pass (m - 1) (unread e n s m) (i - 1) f (mask_tells n m i w some (omega arith) low is
        ∙ ap not (bit-set w x one))
        (subst (λ (j : ℕ). LeastFrom j (m - 1) (unread e n s m) f) a g)

-- a record that can be run has its signals within it, each a bit of a mask
pub record_named : (e : Edition) → IsEdition e → (s : List ℕ) (m i : ℕ) (r : List ℕ) → i < m → e.size * m ≤ length s
    → AllReadable e s m
    → r ≡ record_bytes e s i → (byte_at r 0 < length r) × ((j : ℕ) → j < byte_at r 0 → byte_at r (j + 1) < 32)
record_named e o s m i r l h a q =
    let w = subst (λ (b : List ℕ). Readable e (byte_at b)) (sym q) (a i l) in (
      omega (
        arith,
        w.few,
        ap length q,
        record_length e s i (record_within e.size i m (length s) l h),
        o.order,
        o.ends,
      ),
      w.below,
    )
