-- Lines 9, 10 and 15: what a look at a sheet says of it. Assumes nothing.
use Rattle.std.proofs.Common.{Ok, Err}
use mathlib.Core.Path.{◌≡◌, sym, ap, ◌∙◌, subst}
use mathlib.Core.Bool.{true, false}
use mathlib.Core.List.{List}
use Prim.Native.Nat.{ℕ, ◌-◌, ◌*◌, ◌/◌, ◌%◌, ◌<◌, ◌≤◌}
use native.Mathlib.Nat.{le_of_eq, le_antisymm, mul_comm, mul-le-mul_left, mul-div_cancel, mul-mod_right}
use native.Mathlib.Omega.{arith}
use lib.ListN.{length}
use borrow.Author.Tests.{lt-ltb, le-ltb, ltb-true, ltb-false}
use Rattle.bits.proofs.Least.{is_least}
use Rattle.tables.specs.Table.{most_inputs}
use Rattle.sheets.specs.declared.kinds.Edition.{Edition}
use Rattle.records.specs.declared.rules.BadSheet.{BadSheet}
use Rattle.records.specs.declared.rules.BadSheet.TheVariants.{Length, Record}
use Rattle.sheets.specs.Edition.{IsEdition, most_records}
use Rattle.sheets.specs.Sheet.{bad, first_bad, records, Good, AllReadable}
use Rattle.records.specs.Look.{Saw}
use Rattle.sheets.specs.Reading.{unread, first_unread, EachRead, IsFirstUnread}
use Rattle.sheets.proofs.Looks.{good, all_readable, right_length}
use Rattle.sheets.proofs.Unread.{each_read, none-unread, first-unread, unread-first}
use Rattle.refusals.specs.Verdicts.{Refused}
use Rattle.refusals.specs.Lines.{InOrder, refusal, verdict}
use Rattle.refusals.specs.Results.{refusal_of}
use Rattle.refusals.specs.Looks.{why_bad}
use Rattle.refusals.proofs.Lines.{here, later, decides}
use Rattle.refusals.specs.Refusals.{bad_record, sheet_lines, unread_record}

module _ (e : Edition) (d n : ℕ) (s : List ℕ) where
  pub record_bad : (i : ℕ) → Saw e d n s (Err (Record i)) → (bad_record e d n s).holds ≡ true
  record_bad i w = lt-ltb (first_bad e d n s (records e s)) (records e s)
      (subst (λ (j : ℕ). j < records e s) (sym w.1) w.2)

  pub records_fine : (m : ℕ) → Saw e d n s (Ok m) → (bad_record e d n s).holds ≡ false
  records_fine m w = le-ltb (first_bad e d n s (records e s)) (records e s) (omega (arith, w.1, w.2))

  -- what was seen of a sheet that can't be read is what lines 9 and 10 say
  pub said_bad : (bad : BadSheet) → Saw e d n s (Err bad) → Refused (refusal_of (why_bad bad)) ≡ verdict (sheet_lines e d n s)
  said_bad Length w = decides (sheet_lines e d n s) (here w)
  said_bad (Record i) w = ap (λ (j : ℕ). Refused (refusal 10 j)) (sym w.1)
      ∙ decides (sheet_lines e d n s) (later w.0 (here (record_bad i w)))

  module _ (ok : IsEdition e) where
    -- lines 9 and 10 let through exactly the good sheets
    pub good_sheet : InOrder (sheet_lines e d n s) → Good e d n s (records e s)
    good_sheet w =
        let m = records e s in
        good e ok d n s w.0 (le_antisymm (is_least m (bad e d n s)).within
        (ltb-false (first_bad e d n s m) m w.1.0))

    -- a good sheet of m records
    module _ (m : ℕ) (g : Good e d n s m) where
      pub counted : records e s ≡ m
      counted = ap (λ (k : ℕ). k / e.size) (sym g.whole ∙ mul_comm e.size m)
          ∙ mul-div_cancel m {n = e.size} (omega (arith, ok.ends, ok.order))

      pub sheet_fine : InOrder (sheet_lines e d n s)
      sheet_fine = (
        right_length e s (λ h. omega (arith, g.whole, h, mul-le-mul_left e.size g.some, ok.ends, ok.order))
            (ap (λ (k : ℕ). k % e.size) (sym g.whole) ∙ mul-mod_right e.size m)
            (subst (λ (k : ℕ). k ≤ e.size * most_records) g.whole (mul-le-mul_left e.size g.most)),
        (le-ltb (first_bad e d n s (records e s)) (records e s) (rw counted (le_of_eq (sym g.rules))), tt),
      )

    -- a good sheet can be run
    pub runnable : (m : ℕ) → n ≤ most_inputs → Good e d n s m → IsEdition e × (m ≤ most_records) × (n ≤ most_inputs)
        × (e.size * m ≤ length s) × AllReadable e s m
    runnable m h g = (
      ok,
      g.most,
      h,
      le_of_eq g.whole,
      all_readable e ok d n s m g.rules
          (omega (arith, g.most)),
    )

-- ---- line 15

module _ (e : Edition) (n : ℕ) (s : List ℕ) where
  -- it lets through exactly the sheets in which each record but the last is read
  pub all_read : (unread_record e n s).holds ≡ false → EachRead e n s (records e s)
  all_read h =
      let m = records e s in
      each_read e s n m (le_antisymm (is_least (m - 1) (unread e n s m)).within
      (ltb-false (first_unread e n s m) (m - 1) h))

  pub read_fine : EachRead e n s (records e s) → (unread_record e n s).holds ≡ false
  read_fine r = let m = records e s in le-ltb (first_unread e n s m) (m - 1) (le_of_eq (sym (none-unread e s n m r)))

  -- and names the first that isn't
  pub unread_named : (unread_record e n s).holds ≡ true
      → IsFirstUnread e n s (records e s) (first_unread e n s (records e s))
  unread_named h = let m = records e s in first-unread e s n m (ltb-true (first_unread e n s m) (m - 1) h)

  pub named_unread : (i : ℕ) → IsFirstUnread e n s (records e s) i → (unread_record e n s).holds ≡ true
  named_unread i w = let m = records e s in lt-ltb (first_unread e n s m) (m - 1)
      (omega (arith, w.within, unread-first e s n m i w))
