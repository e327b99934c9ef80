-- A good sheet in which each record but the last is read is answered by run and by rebuild; line 10 names the first bad
-- record, for a sheet's own desk the first that doesn't belong, and line 15 the first unread one. Assumes nothing.
use mathlib.Core.Path.{◌≡◌, refl, sym, ap, ◌∙◌, subst}
use mathlib.Core.Logic.{◌↔◌}
use mathlib.Core.Bool.{true, false, not}
use mathlib.Core.List.{List, [], ◌∷◌, ◌++◌}
use Prim.Native.Nat.{ℕ, ◌+◌, ◌^◌, ◌≤◌, ◌<◌}
use native.Mathlib.Omega.{arith}
use lib.ListN.{length}
use borrow.Author.Tests.{le-leb, lt-leb, eq-eqb, lt-ltb, ltb-true, not-false}
use Rattle.bits.proofs.Bools.{clash}
use Rattle.bits.proofs.Least.{is_least}
use Rattle.tables.specs.Table.{most_inputs, table_length}
use Rattle.sheets.specs.declared.kinds.Edition.{Edition}
use Rattle.sheets.specs.Edition.{IsEdition}
use Rattle.sheets.specs.Record.{keeps}
use Rattle.sheets.specs.Sheet.{records, record_at, bad, first_bad, sheet_bit, rebuilt, Good}
use Rattle.sheets.specs.Desk.{desk_of, FirstAmiss}
use Rattle.sheets.specs.Reading.{EachRead, IsFirstUnread, first_unread}
use Rattle.sheets.proofs.Keeping.{rules, rules_kept}
use Rattle.sheets.proofs.Desks.{bad_amiss, amiss_bad}
use Rattle.sheets.proofs.Unread.{unread-first}
use Rattle.refusals.specs.Verdicts.{Verdict, Fine, Refused}
use Rattle.refusals.specs.Lines.{Line, refusal, InOrder, verdict, number_of, place_of, reply}
use Rattle.refusals.specs.Refusals.{bad_inputs, bad_record, unread_record}
use Rattle.refusals.proofs.Lines.{others, passes, passed, held}
use Rattle.refusals.proofs.Sheets.{counted, sheet_fine, read_fine, unread_named, named_unread}
use Rattle.running.specs.RunSheet.{run_lines, run_done, run_not, run_outcome}
use Rattle.rebuilding.specs.RebuildTable.{rebuild_lines, rebuild_done, rebuild_not, rebuild_outcome}
use Rattle.claims.specs.Words.{FirstBad}

module _ (e : Edition) (ok : IsEdition e) (d n : ℕ) (s : List ℕ) where
  -- line 10 holds: what it names is the first record that breaks the rules
  pub names_first : (bad_record e d n s).holds ≡ true → FirstBad e d n s (bad_record e d n s).gives.place
  names_first h =
      let m = records e s in
      let w = is_least m (bad e d n s) in
      let i = first_bad e d n s m in
      let l = ltb-true i m h in
      record {
        within = l;
        breaks = λ r. clash (w.here l) (ap not (rules_kept e ok d (n + i) (record_at e s i) r));
        before = λ j g. rules e ok d (n + j) (record_at e s j)
            (not-false (keeps e d (n + j) (record_at e s j)) (w.before j g));
      }

  module _ (m : ℕ) (some : 1 ≤ n) (most : n ≤ most_inputs) (g : Good e d n s m) (r : EachRead e n s m) where
    -- line 15 lets it through
    line_fine : (unread_record e n s).holds ≡ false
    line_fine = read_fine e n s (subst (EachRead e n s) (sym (counted e d n s ok m g)) r)

    inputs_fine : (bad_inputs n).holds ≡ false
    inputs_fine = rw (le-leb 1 n some, le-leb n most_inputs most)

    pub good_run : (x : ℕ) → x < 2 ^ n → run_outcome e d n s x ≡ record { verdict = Fine; bit = sheet_bit e n s m x }
    unfolding run_outcome
    good_run x h =
        let f = sheet_fine e d n s ok m g in
        ap (λ (v : Verdict). reply v (run_done e n s x) run_not)
        (passes (run_lines e d n s x) [] (inputs_fine, (f.0, (f.1.0, (lt-leb (2 ^ n) x h, (line_fine, tt))))))
        ∙ ap (λ (k : ℕ). record { verdict = Fine; bit = sheet_bit e n s k x }) (counted e d n s ok m g)

    pub good_rebuild : (table : List ℕ) → length table ≡ table_length n → rebuild_outcome e d n s table
        ≡ record { verdict = Fine; table = rebuilt e n s m }
    unfolding rebuild_outcome
    good_rebuild table h =
        let f = sheet_fine e d n s ok m g in
        ap (λ (v : Verdict). reply v (rebuild_done e n s) (rebuild_not table))
        (passes (rebuild_lines e d n s table) [] (
          inputs_fine,
          (ap not (eq-eqb (length table) (table_length n) h), (f.0, (f.1.0, (line_fine, tt)))),
        ))
        ∙ ap (λ (k : ℕ). record { verdict = Fine; table = rebuilt e n s k }) (counted e d n s ok m g)

-- a call whose lines have line 10 among them: 10 names the first bad record
pub index-first : (e : Edition) → IsEdition e → (d n : ℕ) (s : List ℕ) (ls ms : List Line) → others 10 ls ≡ true
    → others 10 ms ≡ true
    → (v : Verdict) → v ≡ verdict (ls ++ (bad_record e d n s ∷ ms)) → number_of v ≡ 10 → FirstBad e d n s (place_of v)
index-first e ok d n s ls ms o p v q h =
    let w = held ls (bad_record e d n s) ms 10 o p (λ z. omega arith) (ap number_of (sym q) ∙ h) in
    rw (q, w.1) (names_first e ok d n s w.0)

-- and of a sheet's own desk: it is refused as 10 at i exactly where the lines before are in order and record i is the
-- first that doesn't belong
pub amiss_exactly : (e : Edition) → IsEdition e → (n : ℕ) (s : List ℕ) (ls ms : List Line) → others 10 ls ≡ true
    → others 10 ms ≡ true
    → (v : Verdict) → v ≡ verdict (ls ++ (bad_record e (desk_of e s) n s ∷ ms)) → (i : ℕ)
    → (v ≡ Refused (refusal 10 i)) ↔ (InOrder ls × FirstAmiss e n s (records e s) i)
amiss_exactly e ok n s ls ms o p v is i =
    let l = bad_record e (desk_of e s) n s in
    let m = records e s in (
      λ q.
          let w = held ls l ms 10 o p (λ z. omega arith) (ap number_of (sym is ∙ q)) in
          let at : first_bad e (desk_of e s) n s m ≡ i = ap place_of (sym w.1 ∙ sym is ∙ q) in (
            (passed ls (l ∷ ms) 10 o (ap number_of (sym is ∙ q))).0,
            subst (FirstAmiss e n s m) at
                (bad_amiss e n s ok m (ltb-true (first_bad e (desk_of e s) n s m) m w.0)),
          ),
      λ w.
          let at = amiss_bad e n s ok m i w.1 in
          is ∙ passes ls (l ∷ ms) w.0
          ∙ rw (lt-ltb (first_bad e (desk_of e s) n s m) m (omega (arith, at, w.1.within)))
          (ap (λ (j : ℕ). Refused (refusal 10 j)) at),
    )

-- a call whose last line is 15, and whose other lines are ls
module _ (e : Edition) (n : ℕ) (s : List ℕ) (ls : List Line) (o : others 15 ls ≡ true) (v : Verdict)
    (is : v ≡ verdict (ls ++ (unread_record e n s ∷ []))) where
  line-holds : number_of v ≡ 15 → ((unread_record e n s).holds ≡ true) × (v ≡ Refused (unread_record e n s).gives)
  line-holds h =
      let w = held ls (unread_record e n s) [] 15 o refl (λ z. omega arith) (ap number_of (sym is) ∙ h) in
      (w.0, is ∙ w.1)

  -- it is refused as 15 at i exactly where the other lines are in order and record i is the first unread one, the last
  -- aside
  pub unread_exactly : (i : ℕ) → (v ≡ Refused (refusal 15 i)) ↔ (InOrder ls × IsFirstUnread e n s (records e s) i)
  unread_exactly i = (
    λ q.
        let w = line-holds (ap number_of q) in
        let at : first_unread e n s (records e s) ≡ i = ap place_of (sym w.1 ∙ q) in (
          (passed ls (unread_record e n s ∷ []) 15 o (ap number_of (sym is ∙ q))).0,
          subst
              (IsFirstUnread e n s (records e s)) at (unread_named e n s w.0),
        ),
    λ w.
        let at = unread-first e s n (records e s) i w.1 in
        is ∙ passes ls (unread_record e n s ∷ []) w.0
        ∙ rw (named_unread e n s i w.1) (ap (λ (j : ℕ). Refused (refusal 15 j)) at),
  )

  -- and never, where each record but the last is read
  pub read_never : EachRead e n s (records e s) → number_of v ≡ 15 → ⊥
  read_never r h = clash (line-holds h).0 (read_fine e n s r)
