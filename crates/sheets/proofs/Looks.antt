-- What a look over a sheet says: where no record is bad each keeps the rules and can be run, and a sheet of the right
-- length that has no bad record is good. Assumes nothing.
use mathlib.Core.Path.{◌≡◌, refl, sym, ap, subst}
use mathlib.Core.Bool.{Bool, true, false, not, ◌||◌}
use mathlib.Core.List.{List}
use Prim.Native.Nat.{ℕ, zero, suc, ◌+◌, ◌*◌, ◌/◌, ◌%◌, ◌<◌, ◌≤◌}
use native.Mathlib.Nat.{div-add-mod', div-lt_iff_lt-mul, mul_comm}
use native.Mathlib.Omega.{arith}
use lib.Dec.{eqb, ltb}
use lib.ListN.{length}
use borrow.Author.Tests.{eq-eqb, ne_eqb, lt-ltb, le-ltb, eqb-true, eqb-false, ltb-false, not-false}
use Rattle.bits.proofs.Bools.{or_right}
use Rattle.bits.proofs.Least.{is_least}
use Rattle.sheets.specs.declared.kinds.Edition.{Edition}
use Rattle.sheets.specs.Edition.{IsEdition, most_records}
use Rattle.sheets.specs.Record.{Keeps, keeps}
use Rattle.sheets.specs.Sheet.{record_at, bad, first_bad, bad_length, records, Good, AllReadable}
use Rattle.sheets.proofs.Keeping.{rules}

module _ (e : Edition) (o : IsEdition e) (d n : ℕ) (s : List ℕ) (m : ℕ) (none : first_bad e d n s m ≡ m) where
  -- no record is bad, so each keeps the rules
  pub record_keeps : (i : ℕ) → i < m → Keeps e d (n + i) (record_at e s i)
  record_keeps i h =
      rules e o d (n + i) (record_at e s i)
      (not-false (keeps e d (n + i) (record_at e s i))
      ((is_least m (bad e d n s)).before i (subst (λ (k : ℕ). i < k) (sym none) h)))

  -- and can be run
  pub all_readable : n + m ≤ 32 → AllReadable e s m
  all_readable h i l =
      record {
        few = (record_keeps i l).most;
        below = λ j g. let k = (record_keeps i l).known j g in omega arith;
      }

-- ---- a sheet of the right length

module _ (e : Edition) (s : List ℕ) where
  pub bad-empty : length s ≡ 0 → bad_length e s ≡ true
  bad-empty h = rw (eq-eqb (length s) 0 h)

  pub bad_odd : (length s % e.size ≡ 0 → ⊥) → bad_length e s ≡ true
  bad_odd h = or_right (eqb (length s) 0) (not (eqb (length s % e.size) 0) || long)
      (ap (λ (t : Bool). not t || long) (ne_eqb (length s % e.size) 0 h))
    where
      long : Bool
      long = ltb (e.size * most_records) (length s)

  pub bad_long : e.size * most_records < length s → bad_length e s ≡ true
  bad_long h =
      or_right (eqb (length s) 0) (odd || ltb (e.size * most_records) (length s))
      (or_right odd (ltb (e.size * most_records) (length s)) (lt-ltb (e.size * most_records) (length s) h))
    where
      odd : Bool
      odd = not (eqb (length s % e.size) 0)

  pub right_length : (length s ≡ 0 → ⊥) → length s % e.size ≡ 0 → length s ≤ e.size * most_records → bad_length e s
      ≡ false
  right_length h g l = rw (
    ne_eqb (length s) 0 h,
    eq-eqb (length s % e.size) 0 g,
    le-ltb (e.size * most_records)
        (length s) l,
  )

or-false : (a b c : Bool) → (a || (not b || c)) ≡ false → (a ≡ false) × (b ≡ true) × (c ≡ false)
or-false true b c h = let z : ◌≡◌ {A = ℕ} 0 1 = cc in absurd (omega arith)
or-false false true c h = (refl, refl, h)
or-false false false c h = let z : ◌≡◌ {A = ℕ} 0 1 = cc in absurd (omega arith)

pub record Counted (e : Edition) (s : List ℕ) : Type 0 where
  pub whole : e.size * records e s ≡ length s
  pub most : records e s ≤ most_records

pub counted : (e : Edition) → IsEdition e → (s : List ℕ) → length s % e.size ≡ 0 → length s ≤ e.size * most_records
    → Counted e s
counted e o s g l = record {
  whole = omega (arith, div-add-mod' (length s) e.size, mul_comm e.size (length s / e.size));
  most = less ((div-lt_iff_lt-mul {k = e.size} {x = length s} {y = suc most_records}
      (omega (arith, o.ends, o.order))).1 (omega (arith, o.ends, o.order)));
}
  where
    less : {a : ℕ} → a < suc most_records → a ≤ most_records
    less h = omega arith

pub good : (e : Edition) → IsEdition e → (d n : ℕ) (s : List ℕ) → bad_length e s ≡ false → first_bad e d n s (records e s)
    ≡ records e s
    → Good e d n s (records e s)
good e o d n s h g =
    let f = or-false (eqb (length s) 0) (eqb (length s % e.size) 0) (ltb (e.size * most_records) (length s)) h in
    let c = counted e o s (eqb-true (length s % e.size) 0 f.1) (ltb-false (e.size * most_records) (length s) f.2)
    in
    record {
      some = some (records e s) c.whole (eqb-false (length s) 0 f.0);
      most = c.most;
      whole = c.whole;
      rules = g;
    }
  where
    some : (k : ℕ) → e.size * k ≡ length s → (length s ≡ 0 → ⊥) → 1 ≤ k
    some zero q h = absurd (h (omega arith))
    some (suc k) q h = omega arith
