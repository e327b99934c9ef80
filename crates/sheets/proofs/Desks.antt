-- The desk of a sheet: looked over for the desk that its first record says, a sheet breaks the rules exactly where a
-- record doesn't belong, and a sheet that keeps them is for that desk alone. Assumes nothing.
use mathlib.Core.Path.{◌≡◌, refl, sym, ap, ◌∙◌, subst}
use mathlib.Core.Bool.{Bool, true, false, cond, not}
use mathlib.Core.List.{List, [], ◌∷◌}
use Prim.Native.Nat.{ℕ, zero, suc, ◌+◌, ◌<◌, ◌≤◌}
use native.Mathlib.Nat.{mul-zero}
use native.Mathlib.Decide.{dec_le, dec_lt}
use native.Mathlib.Omega.{arith}
use lib.ListN.{get_or, take, drop, get_or-eq_default}
use lib.Seq.{get_or-take}
use borrow.Author.Tests.{le-leb, lt-leb, ne_eqb, not-true, not-false}
use Rattle.bits.proofs.Bools.{clash}
use Rattle.bits.proofs.Least.{is_least, least-of}
use Rattle.bits.proofs.Lists.{length-list, list_at}
use Rattle.sheets.specs.declared.kinds.Edition.{Edition}
use Rattle.sheets.specs.Edition.{IsEdition, most_desk}
use Rattle.sheets.specs.Network.{Cell}
use Rattle.sheets.specs.Record.{byte_at, Keeps, keeps}
use Rattle.sheets.specs.Sheet.{record_at, bad, first_bad, Good}
use Rattle.sheets.specs.Writing.{record_byte, encode, sheet_bytes}
use Rattle.sheets.specs.Desk.{desk_at, Belongs, FirstAmiss, OneDesk, desk_of}
use Rattle.sheets.proofs.Keeping.{rules, rules_kept}
use Rattle.sheets.proofs.Looks.{record_keeps}
use Rattle.sheets.proofs.Wholes.{first_record, next_record}

module _ (e : Edition) (s : List ℕ) where
  pub desk_said : desk_at e s 0 ≤ most_desk → desk_of e s ≡ desk_at e s 0
  unfolding desk_of
  desk_said h = ap (λ (t : Bool). cond t (desk_at e s 0) 0) (le-leb (desk_at e s 0) most_desk h)

  pub desk_none : most_desk < desk_at e s 0 → desk_of e s ≡ 0
  unfolding desk_of
  desk_none h = ap (λ (t : Bool). cond t (desk_at e s 0) 0) (lt-leb (desk_at e s 0) most_desk h)

  -- it is always one
  pub desk_most : desk_of e s ≤ most_desk
  desk_most = elim (dec_le (desk_at e s 0) most_desk) [
    | yes h ↦ omega (arith, desk_said h)
    | no h ↦ omega (arith, desk_none (omega arith))
  ]

  -- the first record's byte, as it lies in the sheet
  pub desk_lies : IsEdition e → desk_at e s 0 ≡ get_or s (e.most + 1) 0
  desk_lies ok =
      ap (λ (k : ℕ). get_or (take e.size (drop k s)) (e.most + 1) 0) (mul-zero e.size)
      ∙ get_or-take e.size s (e.most + 1) 0 (omega (arith, ok.ends, ok.order))

module _ (e : Edition) (n : ℕ) (s : List ℕ) where
  -- the rules for a desk d, in full: the record's byte is d
  for : (d i : ℕ) → Keeps e d (n + i) (record_at e s i) → Keeps e (desk_at e s i) (n + i) (record_at e s i)
  for d i k = subst (λ (x : ℕ). Keeps e x (n + i) (record_at e s i)) (sym k.desk) k

  keeps_belongs : (i : ℕ) → Keeps e (desk_of e s) (n + 0) (record_at e s 0)
      → Keeps e (desk_of e s) (n + i) (record_at e s i) → Belongs e n s i
  keeps_belongs i first k = record {
    rules = for (desk_of e s) i k;
    known = omega (arith, k.desk, desk_most e s);
    alike = k.desk ∙ sym first.desk;
  }

  belongs_keeps : (i : ℕ) → Belongs e n s i → Keeps e (desk_of e s) (n + i) (record_at e s i)
  belongs_keeps i b =
      subst (λ (x : ℕ). Keeps e x (n + i) (record_at e s i))
      (b.alike ∙ sym (desk_said e s (omega (arith, b.known, b.alike)))) b.rules

  module _ (ok : IsEdition e) (m : ℕ) where
    -- the first bad record is the first that doesn't belong
    pub bad_amiss : first_bad e (desk_of e s) n s m < m → FirstAmiss e n s m (first_bad e (desk_of e s) n s m)
    bad_amiss h =
        let l = is_least m (bad e (desk_of e s) n s) in
        let i = first_bad e (desk_of e s) n s m in
        let k : (j : ℕ) → j < i → Keeps e (desk_of e s) (n + j) (record_at e s j) =
        λ j g. rules e ok (desk_of e s) (n + j) (record_at e s j)
        (not-false (keeps e (desk_of e s) (n + j) (record_at e s j)) (l.before j g)) in
        record {
          within = h;
          amiss = λ b.
              clash (rules_kept e ok (desk_of e s) (n + i) (record_at e s i) (belongs_keeps i b))
              (not-true (keeps e (desk_of e s) (n + i) (record_at e s i)) (l.here h));
          before = λ j g. keeps_belongs j (k 0 (omega arith)) (k j g);
        }

    -- where those before it belong, a record that keeps the rules does
    belonging : (i : ℕ) → ((j : ℕ) → j < i → Belongs e n s j) → Keeps e (desk_of e s) (n + i) (record_at e s i)
        → Belongs e n s i
    belonging zero before k = keeps_belongs zero k k
    belonging (suc i) before k = keeps_belongs (suc i) (belongs_keeps 0 (before 0 (omega arith))) k

    pub amiss_bad : (i : ℕ) → FirstAmiss e n s m i → first_bad e (desk_of e s) n s m ≡ i
    amiss_bad i w = least-of m (bad e (desk_of e s) n s) i (record {
      within = omega (arith, w.within);
      before = λ j g. ap not (rules_kept e ok (desk_of e s) (n + j) (record_at e s j) (belongs_keeps j (w.before j g)));
      here = λ h. broken (keeps e (desk_of e s) (n + i) (record_at e s i)) refl;
    })
      where
        broken : (t : Bool) → keeps e (desk_of e s) (n + i) (record_at e s i) ≡ t → not t ≡ true
        broken true q = absurd (w.amiss (belonging i w.before (rules e ok (desk_of e s) (n + i) (record_at e s i) q)))
        broken false q = refl

    -- a good sheet, looked over for its own desk, is for that desk alone
    pub good_one_desk : Good e (desk_of e s) n s m → OneDesk e s m (desk_of e s)
    good_one_desk g = record {
      known = desk_most e s;
      alike = λ i h. (record_keeps e ok (desk_of e s) n s m g.rules i h).desk;
    }

    -- and one that is good for some desk has that as its own
    pub good_desk : (d : ℕ) → d ≤ most_desk → Good e d n s m → desk_of e s ≡ d
    good_desk d h g =
        let q = (record_keeps e ok d n s m g.rules 0 g.some).desk in desk_said e s (omega (arith, q)) ∙ q

-- ---- written for two desks, the same cells differ in the desk's byte alone

module _ (e : Edition) (d d' j : ℕ) (other : j ≡ e.most + 1 → ⊥) where
  past : (x : ℕ) (c : Cell) → e.size ≤ j → byte_at (encode e x c) j ≡ 0
  unfolding encode
  past x c h = get_or-eq_default (encode e x c) 0 (omega (arith, length-list e.size (record_byte e x c)))

  same_byte : (c : Cell) → byte_at (encode e d c) j ≡ byte_at (encode e d' c) j
  unfolding encode record_byte
  same_byte c = elim (dec_lt j e.size) [
    | yes l ↦ list_at e.size (record_byte e d c) j 0 l ∙ rw (ne_eqb j (e.most + 1) other) refl
        ∙ sym (list_at e.size (record_byte e d' c) j 0 l)
    | no l ↦ past d c (omega arith) ∙ sym (past d' c (omega arith))
  ]

  pub desk_alone : (cs : List Cell) (i : ℕ) → record_at e (sheet_bytes e d cs) i j ≡ record_at e (sheet_bytes e d' cs) i j
  desk_alone [] i = refl
  desk_alone (c ∷ cs) zero =
      ap (λ (l : List ℕ). byte_at l j) (first_record e d c (sheet_bytes e d cs)) ∙ same_byte c
      ∙ sym (ap (λ (l : List ℕ). byte_at l j) (first_record e d' c (sheet_bytes e d' cs)))
  desk_alone (c ∷ cs) (suc i) =
      ap (λ (l : List ℕ). byte_at l j) (next_record e d c (sheet_bytes e d cs) i) ∙ desk_alone cs i
      ∙ sym (ap (λ (l : List ℕ). byte_at l j) (next_record e d' c (sheet_bytes e d' cs) i))
