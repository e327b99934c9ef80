-- Which records are read, in words: the test of a record is that a later one names its signal. Cells each of which but
-- the last is read make records of which that is so. Assumes nothing.
use mathlib.Core.Path.{◌≡◌, refl, sym, ap, ap₂, ◌∙◌, subst}
use mathlib.Core.Logic.{◌↔◌}
use mathlib.Core.Bool.{Bool, true, false}
use mathlib.Core.List.{List, [], ◌∷◌}
use Prim.Native.Nat.{ℕ, zero, suc, ◌+◌, ◌-◌, ◌<◌, ◌≤◌}
use native.Mathlib.Nat.{not-suc-le-zero}
use native.Mathlib.Omega.{arith}
use native.Mathlib.Decide.{dec_lt}
use lib.Dec.{eqb}
use lib.ListN.{length, get_or, drop}
use borrow.Author.Tests.{eq-eqb, ne_eqb, eqb-true, eqb-false}
use Rattle.bits.specs.Numbers.{val}
use Rattle.bits.specs.Lists.{list_of}
use Rattle.bits.proofs.Bools.{clash}
use Rattle.bits.proofs.Lists.{length-list, list_at}
use Rattle.bits.proofs.Least.{is_least, least-of}
use Rattle.sheets.specs.declared.kinds.Edition.{Edition}
use Rattle.sheets.specs.Network.{Cell}
use Rattle.sheets.specs.Edition.{IsEdition}
use Rattle.sheets.specs.Record.{cell_of}
use Rattle.sheets.specs.Sheet.{record_at, cells_from, sheet_cells}
use Rattle.sheets.specs.Writing.{FitsFrom, sheet_bytes}
use Rattle.sheets.specs.Reading.{times, reads, none_reads, AllRead, unread_cell, unread, first_unread, IsRead}
use Rattle.sheets.specs.Reading.{EachRead, IsFirstUnread}
use Rattle.sheets.proofs.Wholes.{cells_back}

-- a signal that is there stands at some place
record At (x : ℕ) (l : List ℕ) : Type 0 where
  place : ℕ
  within : place < length l
  is : get_or l place 0 ≡ x

there : (x : ℕ) (l : List ℕ) → 1 ≤ times x l → At x l
there x [] h = absurd (not-suc-le-zero h)
there x (y ∷ l) h = go (eqb x y) refl h (there x l)
  where
    go : (t : Bool) → eqb x y ≡ t → 1 ≤ val t + times x l → (1 ≤ times x l → At x l) → At x (y ∷ l)
    go true q h ih = record { place = 0; within = omega arith; is = sym (eqb-true x y q) }
    go false q h ih = let a = ih (omega arith) in record
        { place = suc a.place; within = omega (arith, a.within); is = a.is }

pub times_at : (l : List ℕ) (p : ℕ) → p < length l → 1 ≤ times (get_or l p 0) l
times_at [] p h = absurd (not-suc-le-zero h)
times_at (x ∷ l) zero h = omega (arith, ap val (eq-eqb x x refl))
times_at (x ∷ l) (suc p) h = omega (arith, times_at l p (omega arith))

module _ (e : Edition) (s : List ℕ) where
  drop_cells : (i a m : ℕ) → i ≤ m → drop i (cells_from e s a m) ≡ cells_from e s (a + i) (m - i)
  unfolding cells_from
  drop_cells zero a m h = let p : a ≡ a + 0 = omega arith in let q : m ≡ m - 0 = omega arith in ap₂ (cells_from e s) p q
  drop_cells (suc i) a zero h = absurd (not-suc-le-zero h)
  drop_cells (suc i) a (suc m) h =
      let p : suc a + i ≡ a + suc i = omega arith in
      let q : m - i ≡ suc m - suc i = omega arith in
      drop_cells i (suc a) m (omega arith) ∙ ap₂ (cells_from e s) p q

  pub later_cells : (i m : ℕ) → i < m → drop (suc i) (sheet_cells e s m) ≡ cells_from e s (suc i) (m - suc i)
  later_cells i m h = let p : 0 + suc i ≡ suc i = omega arith in
      drop_cells (suc i) 0 m h ∙ ap (λ (j : ℕ). cells_from e s j (m - suc i)) p

  -- one of the records a, .., a + k - 1 names x
  pub record Names (x a k : ℕ) : Type 0 where
    pub reader : ℕ
    pub from : a ≤ reader
    pub within : reader < a + k
    pub place : ℕ
    pub among : place < record_at e s reader 0
    pub names : record_at e s reader (place + 1) ≡ x

  read_names : (x k a : ℕ) → 1 ≤ reads x (cells_from e s a k) → Names x a k
  unfolding cells_from cell_of
  read_names x zero a h = absurd (not-suc-le-zero h)
  read_names x (suc k) a h = elim (dec_lt 0 (times x l))
      [ yes g ↦ here (there x l g) | no g ↦ later (read_names x k (suc a) (omega arith)) ]
    where
      l : List ℕ
      l = list_of (record_at e s a 0) (λ j. record_at e s a (j + 1))

      here : At x (list_of (record_at e s a 0) (λ j. record_at e s a (j + 1))) → Names x a (suc k)
      here w =
          let b = record_at e s a in
          let g : w.place < b 0 = omega (arith, w.within, length-list (b 0) (λ j. b (j + 1))) in record {
            reader = a;
            from = omega arith;
            within = omega arith;
            place = w.place;
            among = g;
            names = sym (list_at (b 0) (λ j. b (j + 1)) w.place 0 g) ∙ w.is;
          }

      later : Names x (suc a) k → Names x a (suc k)
      later w = record {
        reader = w.reader;
        from = omega (arith, w.from);
        within = omega (arith, w.within);
        place = w.place;
        among = w.among;
        names = w.names;
      }

  names_read : (x k a : ℕ) → Names x a k → 1 ≤ reads x (cells_from e s a k)
  unfolding cells_from cell_of
  names_read x zero a w = absurd (omega (arith, w.from, w.within))
  names_read x (suc k) a w = elim (dec_lt a w.reader) [
    | yes g ↦ omega (
      arith,
      names_read x k (suc a) (record {
        reader = w.reader;
        from = g;
        within = omega (arith, w.within);
        place = w.place;
        among = w.among;
        names = w.names;
      }),
    )
    | no g ↦ here w.reader w.place (omega (arith, w.from)) w.among w.names
  ]
    where
      here : (r p : ℕ) → r ≡ a → p < record_at e s r 0 → record_at e s r (p + 1) ≡ x
          → 1 ≤ times x (list_of (record_at e s a 0) (λ j. record_at e s a (j + 1))) + reads x (cells_from e s (suc a) k)
      here r p q g f =
          let b = record_at e s a in
          let l = list_of (b 0) (λ j. b (j + 1)) in
          let h : p < b 0 = subst (λ (i : ℕ). p < record_at e s i 0) q g in
          let v : get_or l p 0 ≡ x = list_at (b 0) (λ j. b (j + 1)) p 0 h ∙ ap (λ (i : ℕ). record_at e s i (p + 1)) (sym q)
          ∙ f in
          let one = subst (λ (y : ℕ). 1 ≤ times y l) v (times_at l p
          (omega (arith, length-list (b 0) (λ j. b (j + 1))))) in
          omega arith

  -- no cell of m reads x exactly where none of their records names it
  pub none_names : (x m : ℕ) → (none_reads x (sheet_cells e s m) ≡ true) ↔ (Names x 0 m → ⊥)
  none_names x m = (
    λ q w. omega (arith, eqb-true (reads x (sheet_cells e s m)) 0 q, names_read x m 0 w),
    λ none. elim (dec_lt 0 (reads x (sheet_cells e s m))) [
      | yes g ↦ absurd (none (read_names x m 0 g))
      | no g ↦ eq-eqb (reads x (sheet_cells e s m)) 0 (omega arith)
    ],
  )

  -- the test says that no later record names the record's signal
  module _ (n m i : ℕ) (h : i < m) where
    pub unread_is : unread e n s m i ≡ eqb (reads (n + i) (cells_from e s (suc i) (m - suc i))) 0
    unread_is = ap (λ (ds : List Cell). eqb (reads (n + i) ds) 0) (later_cells i m h)

    pub read_iff : (unread e n s m i ≡ false) ↔ IsRead e n s m i
    read_iff = (
      λ q. to (read_names (n + i) (m - suc i) (suc i) (some_read (sym unread_is ∙ q))),
      λ w. unread_is
          ∙ read (names_read (n + i) (m - suc i) (suc i) (of w)),
    )
      where
        some_read : {a : ℕ} → eqb a 0 ≡ false → 1 ≤ a
        some_read {a} q = let z = eqb-false a 0 q in omega arith

        read : {a : ℕ} → 1 ≤ a → eqb a 0 ≡ false
        read {a} q = ne_eqb a 0 (λ z. omega arith)

        to : Names (n + i) (suc i) (m - suc i) → IsRead e n s m i
        to w = record {
          reader = w.reader;
          later = w.from;
          within = omega (arith, w.within);
          place = w.place;
          among = w.among;
          names = w.names;
        }

        of : IsRead e n s m i → Names (n + i) (suc i) (m - suc i)
        of w = record {
          reader = w.reader;
          from = w.later;
          within = omega (arith, w.within);
          place = w.place;
          among = w.among;
          names = w.names;
        }

  -- none is found exactly where each record but the last is read
  pub each_read : (n m : ℕ) → first_unread e n s m ≡ m - 1 → EachRead e n s m
  each_read n m q i h = (read_iff n m i (omega arith)).0 ((is_least (m - 1) (unread e n s m)).before i (omega arith))

  pub none-unread : (n m : ℕ) → EachRead e n s m → first_unread e n s m ≡ m - 1
  none-unread n m r = least-of (m - 1) (unread e n s m) (m - 1) (record {
    within = omega arith;
    before = λ i h. (read_iff n m i (omega arith)).1 (r i (omega arith));
    here = λ h. absurd (omega arith);
  })

  -- one is found exactly where it is the first that isn't
  pub first-unread : (n m : ℕ) → first_unread e n s m < m - 1 → IsFirstUnread e n s m (first_unread e n s m)
  first-unread n m h =
      let w = is_least (m - 1) (unread e n s m) in record {
        within = omega arith;
        alone = λ r. clash (w.here h) ((read_iff n m (first_unread e n s m) (omega arith)).1 r);
        before = λ j l. (read_iff n m j (omega arith)).0 (w.before j l);
      }

  pub not_read : (n m i : ℕ) → i < m → (IsRead e n s m i → ⊥) → unread e n s m i ≡ true
  not_read n m i h alone = go (unread e n s m i) refl
    where
      go : (t : Bool) → unread e n s m i ≡ t → unread e n s m i ≡ true
      go true q = q
      go false q = absurd (alone ((read_iff n m i h).0 q))

  pub unread-first : (n m i : ℕ) → IsFirstUnread e n s m i → first_unread e n s m ≡ i
  unread-first n m i w = least-of (m - 1) (unread e n s m) i (record {
    within = omega (arith, w.within);
    before = λ j h. (read_iff n m j (omega (arith, w.within))).1 (w.before j h);
    here = λ h. not_read n m i (omega (arith, w.within)) w.alone;
  })

-- ---- cells

-- a cell that is read isn't unread
pub cell_read : (n : ℕ) (cs : List Cell) → AllRead n cs → (i : ℕ) → i + 1 < length cs → unread_cell n cs i ≡ false
cell_read n cs r i h = let a = r i h in ne_eqb (reads (n + i) (drop (suc i) cs)) 0 (λ q. omega arith)

-- written as records, each of those but the last is read
pub written_read : (e : Edition) → IsEdition e → (d n : ℕ) (cs : List Cell) → FitsFrom e n cs → AllRead n cs
    → EachRead e n (sheet_bytes e d cs) (length cs)
written_read e o d n cs fits r i h =
    (read_iff e (sheet_bytes e d cs) n (length cs) i (omega arith)).0
    (ap (λ (ds : List Cell). unread_cell n ds i) (cells_back e d o n cs fits) ∙ cell_read n cs r i h)
