-- Running a sheet: what a record's cell gives, and, with the signals as the bits of a word, one record more. Assumes
-- nothing.
use mathlib.Core.Path.{◌≡◌, refl, sym, ap, ap₂, subst, ◌∙◌, fun_ext}
use mathlib.Core.Bool.{Bool, true, false, cond, ◌&&◌}
use mathlib.Core.List.{List}
use Prim.Native.Nat.{ℕ, suc, ◌+◌, ◌-◌, ◌*◌, ◌/◌, ◌%◌, ◌^◌, ◌<◌, ◌≤◌}
use native.Mathlib.Nat.{pow-suc}
use native.Mathlib.Numerals.{add-one}
use native.Mathlib.Omega.{arith}
use native.Mathlib.Decide.{dec_lt}
use lib.Dec.{eqb, ltb}
use lib.ListN.{length, get_or, take, drop, length-drop}
use lib.Pow.{pow_mono, pow-add}
use lib.Seq.{get_or-take, get_or-drop, length-take-le}
use borrow.Author.Tests.{eqb-true, eqb-false, lt-ltb, le-ltb}
use Rattle.bits.specs.Numbers.{bit, val, number}
use Rattle.bits.proofs.Numbers.{bit_below, bit_top, bit_high, bit-number, number_ext, number_lt, none-zero, val-mul-le}
use Rattle.bits.proofs.Sums.{number_append}
use Rattle.tables.specs.Table.{table_bit}
use Rattle.sheets.specs.declared.kinds.Edition.{Edition}
use Rattle.sheets.specs.Network.{packed, output, run}
use Rattle.sheets.specs.Edition.{IsEdition}
use Rattle.bits.specs.Lists.{list_of}
use Rattle.sheets.specs.Record.{byte_at, cell_bit, cell_of, Readable}
use Rattle.runs.specs.Running.{input_at, Runnable}
use Rattle.sheets.proofs.Places.{table-bits, record_within, record_length}
use Rattle.sheets.specs.Sheet.{record_bytes, record_at, cells_from, sheet_bit, AllReadable}
use Rattle.bits.proofs.Lists.{length-list, list_at}

-- ---- a record's cell

-- bits that are 0 from k up
pub number_short : (k n : ℕ) (f : ℕ → Bool) → k ≤ n → number n (λ j. ltb j k && f j) ≡ number k f
number_short k n f h =
    let g : ℕ → Bool = λ j. ltb j k && f j in
    let q : n ≡ k + (n - k) = omega arith in
    ap (λ (m : ℕ). number m g) q ∙ number_append k (n - k) g
    ∙ ap₂ (λ (x y : ℕ). x + y * 2 ^ k) (number_ext k g f (λ j l. ap (λ (t : Bool). t && f j) (lt-ltb j k l)))
    (number_ext (n - k) (λ j. g (k + j)) (λ j. false)
    (λ j l. ap (λ (t : Bool). t && f (k + j)) (le-ltb (k + j) k (omega arith))) ∙ none-zero (n - k))
    ∙ omega arith

-- the cell reads its table at the number that its inputs make, those that it hasn't being 0
pub output_at : (e : Edition) (b : ℕ → ℕ) (v : ℕ → Bool) (n : ℕ) → b 0 ≤ n → output (cell_of e b) v
    ≡ cell_bit e b (number n (input_at b v))
unfolding output cell_of
output_at e b v n h =
    let l = list_of (b 0) (λ j. b (j + 1)) in
    let p : packed l v ≡ number (b 0) (λ j. v (b (j + 1))) =
    ap (λ (m : ℕ). number m (λ j. v (get_or l j 0))) (length-list (b 0) (λ j. b (j + 1)))
    ∙ number_ext (b 0) (λ j. v (get_or l j 0)) (λ j. v (b (j + 1))) (λ j h. ap v (list_at (b 0) (λ j. b (j + 1)) j 0 h))
    in
    ap (bit (number (2 ^ b 0) (cell_bit e b))) p
    ∙ bit-number (2 ^ b 0) (cell_bit e b) (number (b 0) (λ j. v (b (j + 1)))) (number_lt (b 0) (λ j. v (b (j + 1))))
    ∙ ap (cell_bit e b) (sym (number_short (b 0) n (λ j. v (b (j + 1))) h))

-- a record's table has room for 2 ^ k bits
pub table-room : (e : Edition) → IsEdition e → (k x : ℕ) → k ≤ e.most → x < 2 ^ k → x / 8 < e.size - e.start
table-room e o k x h l = omega (arith, table-bits e o, pow_mono {i = k} {j = e.most} h)

-- the record's last bytes are its table
pub table-part : (e : Edition) (r : List ℕ) (x : ℕ) → x / 8 < length r - e.start
    → table_bit (take (length r - e.start) (drop e.start r)) x ≡ cell_bit e (byte_at r) x
table-part e r x h =
    ap (λ (y : ℕ). bit y (x % 8)) (get_or-take (length r - e.start) (drop e.start r) (x / 8) 0 h
    ∙ get_or-drop e.start r (x / 8) 0)

pub part_length : (e : Edition) (r : List ℕ) → length (take (length r - e.start) (drop e.start r))
    ≡ length r - e.start
part_length e r = length-take-le (length r - e.start) (drop e.start r) (omega (arith, length-drop e.start r))

-- it has as many pairs of bits as one input less makes
pub pairs-room : (e : Edition) → IsEdition e → (r : ℕ) → r < e.most → 2 ^ r ≤ 4 * (e.size - e.start)
pairs-room e o r h = omega (arith, table-bits e o, pow_mono {i = suc r} {j = e.most} h, pow-suc 2 r)

-- a record that is read can be run
pub record_read : (e : Edition) → IsEdition e → (s : List ℕ) (m i : ℕ) (r : List ℕ) → i < m → e.size * m ≤ length s
    → AllReadable e s m
    → r ≡ record_bytes e s i → Runnable e r
record_read e o s m i r l h a q = record {
  sound = o;
  long = ap length q ∙ record_length e s i (record_within e.size i m (length s) l h);
  readable = subst (λ (b : List ℕ). Readable e (byte_at b)) (sym q) (a i l);
}

-- ---- one record more

-- the signals as the bits of a word: a new one on top
pub bit-step : (w t : ℕ) (o : Bool) (s : ℕ) → w < 2 ^ t → cond (eqb s t) o (bit w s) ≡ bit (w + val o * 2 ^ t) s
bit-step w t o s h = go (eqb s t) refl
  where
    less : (v : ℕ) → v ≤ 2 ^ t → w + v < 2 ^ (t + 1)
    less v l = omega (arith, pow-add 2 t 1)

    above : t ≤ s → (s ≡ t → ⊥) → t + 1 ≤ s
    above a b = omega arith

    go : (r : Bool) → eqb s t ≡ r → cond r o (bit w s) ≡ bit (w + val o * 2 ^ t) s
    go true q = sym (ap (bit (w + val o * 2 ^ t)) (eqb-true s t q) ∙ bit_top w o t h)
    go false q = elim (dec_lt s t) [
      | yes l ↦ sym (bit_below w (val o) t s l)
      | no l ↦ bit_high w t s h (omega arith)
          ∙ sym (bit_high (w + val o * 2 ^ t) (t + 1) s (less (val o * 2 ^ t) (val-mul-le o (2 ^ t)))
          (above (omega arith) (eqb-false s t q)))
    ]

-- i of m records are run: the last of them gave o, signal h is v h, and what is left to run gives X
module _ (e : Edition) (s : List ℕ) (m : ℕ) where
  abbrev pub Ran : Bool → (n i : ℕ) → Bool → (ℕ → Bool) → Type 0
  Ran X n i o v = X ≡ run o (n + i) (cells_from e s i (m - i)) v

  pub ran_none : (n x : ℕ) (v : ℕ → Bool) → ((h : ℕ) → v h ≡ bit x h) → Ran (sheet_bit e n s m x) n 0 false v
  unfolding sheet_bit
  ran_none n x v f =
      let p : m ≡ m - 0 = omega arith in
      let q : n ≡ n + 0 = omega arith in
      ap₂ (λ (r i : ℕ). run false i (cells_from e s 0 r) (bit x)) p q
      ∙ ap (run false (n + 0) (cells_from e s 0 (m - 0))) (sym (fun_ext f))

  pub ran_more : (X : Bool) (n i : ℕ) (o o' : Bool) (v v' : ℕ → Bool) → i < m → o'
      ≡ output (cell_of e (record_at e s i)) v
      → ((h : ℕ) → v' h ≡ cond (eqb h (n + i)) o' (v h)) → Ran X n i o v → Ran X n (i + 1) o' v'
  unfolding run cells_from
  ran_more X n i o o' v v' l q f g =
      let r = m - (i + 1) in
      let p : m - i ≡ suc r = omega arith in
      let t : suc (n + i) ≡ n + (i + 1) = omega arith in
      g ∙ ap (λ (k : ℕ). run o (n + i) (cells_from e s i k) v) p
      ∙ ap (λ (b : Bool). run b (suc (n + i)) (cells_from e s (suc i) r) (λ h. cond (eqb h (n + i)) b (v h))) (sym q)
      ∙ ap (run o' (suc (n + i)) (cells_from e s (suc i) r)) (sym (fun_ext f))
      ∙ ap₂ (λ (u j : ℕ). run o' u (cells_from e s j r) v') t (sym (add-one i))

  pub ran_all : (X : Bool) (n i : ℕ) (o : Bool) (v : ℕ → Bool) → m ≤ i → Ran X n i o v → X ≡ o
  unfolding run cells_from
  ran_all X n i o v h g = let q : m - i ≡ 0 = omega arith in g ∙ ap (λ (r : ℕ). run o (n + i) (cells_from e s i r) v) q
