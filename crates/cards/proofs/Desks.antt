-- What a desk answers: by its own bytes alone; closed while it is loaded; and then as its sheet does on the bench.
-- Assumes nothing.
use mathlib.Core.Path.{◌≡◌, refl, sym, ap, ap₂, ◌∙◌}
use mathlib.Core.Bool.{Bool, true, false, cond, not, ◌&&◌, ◌||◌}
use mathlib.Core.List.{List, [], ◌∷◌, ◌++◌}
use Prim.Native.Nat.{ℕ, zero, suc, ◌*◌, ◌/◌, ◌%◌, ◌^◌, ◌<◌, ◌≤◌}
use native.Mathlib.Decide.{dec_lt}
use native.Mathlib.Omega.{arith}
use lib.Dec.{leb, ltb, eqb}
use lib.ListN.{length, take}
use lib.Seq.{take_all, length-take-le}
use borrow.Author.Tests.{eq-eqb, ne_eqb, eqb-true, eqb-false, le-leb, lt-leb, leb-false, not-false}
use Rattle.tables.specs.Table.{most_inputs}
use Rattle.sheets.specs.declared.kinds.Edition.{Edition}
use Rattle.sheets.specs.Edition.{IsEdition, record_size, most_records, first_edition}
use Rattle.sheets.specs.Sheet.{records, bad_length, Good, AllReadable}
use Rattle.sheets.proofs.Keeping.{first_edition_lem}
use Rattle.sheets.proofs.Looks.{right_length}
use Rattle.refusals.specs.Verdicts.{Verdict, Fine, Refused}
use Rattle.refusals.specs.Lines.{Line, line, refusal, InOrder, verdict, reply}
use Rattle.refusals.specs.Refusals.{bad_inputs, bad_sheet, bad_record, sheet_lines, unread_record, bad_assignment}
use Rattle.refusals.proofs.Lines.{here, later, decides, passes, lapses, in_order_lem}
use Rattle.refusals.proofs.Tests.{inside}
use Rattle.refusals.proofs.Sheets.{good_sheet, runnable}
use Rattle.running.specs.RunSheet.{RunAnswer, run_done, run_not, run_outcome}
use Rattle.cards.specs.declared.stores.Store.{Store}
use Rattle.cards.specs.Card.{desks, desk_bytes, card_bytes, own_bytes, open_mark, inputs_on, count_on, sheet_on}
use Rattle.cards.specs.Stores.{stored, load_stores, store_count, cut_load, onto, Holds}
use Rattle.cards.specs.Refusals.{bad_card, no_desk, another_desk, missing_desk, closed_desk, bad_count, filed_lines}
use Rattle.cards.specs.LoadDesk.{load_lines}
use Rattle.cards.specs.RunDesk.{desk_lines, run_desk_lines, desk_outcome, run_desk_outcome}
use Rattle.cards.proofs.Making.{Every, made_length, own_length, own_made}
use Rattle.cards.proofs.Order.{Into, onto_other}
use Rattle.cards.proofs.Loaded.{mark-zero, desk_holds, says_inputs, says_sheet}

-- what running a sheet of n inputs at the assignment x asks
abbrev pub Ready : Edition → ℕ → List ℕ → ℕ → Type 0
Ready e n s x =
    (IsEdition e × (length s / record_size ≤ most_records) × (n ≤ most_inputs)
    × (e.size * (length s / record_size) ≤ length s)
    × AllReadable e s (length s / record_size))
    × (x < 2 ^ n)

-- ---- a desk's lines

-- a stored count is outside 1 to 15 exactly where the sheet that it cuts off has a wrong length
pub count-line : (o : List ℕ) → length o ≡ desk_bytes → bad_count o ≡ bad_sheet first_edition (sheet_on o)
count-line o l = ap (line 9) (go (count_on o))
  where
    go : (m : ℕ) → not (leb 1 m && leb m most_records) ≡ bad_length first_edition (take (record_size * m) o)
    go zero = refl
    go (suc m) = elim (dec_lt m most_records) [
      | yes h ↦ let k : length (take (record_size * suc m) o)
          ≡ record_size * suc m = length-take-le (record_size * suc m) o (omega arith) in
          ap₂ (λ (a b : Bool). not (a && b)) (le-leb 1 (suc m) (omega arith)) (le-leb (suc m) most_records (omega arith))
          ∙ sym (right_length first_edition (take (record_size * suc m) o) (λ q. omega arith) (omega arith) (omega arith))
      | no h ↦ let k : take (record_size * suc m) o ≡ o = take_all (record_size * suc m) o (omega arith) in
          ap₂ (λ (a b : Bool). not (a && b)) (le-leb 1 (suc m) (omega arith)) (lt-leb (suc m) most_records (omega arith))
          ∙ sym (ap (λ (j : ℕ). eqb j 0 || (not (eqb (j % record_size) 0) || ltb (record_size * most_records) j))
          (ap length k ∙ l))
    ]

-- so after 19 and 18 they are those of the sheet that it holds, and 11
pub desk_lines_lem : (o : List ℕ) (d x : ℕ) → length o ≡ desk_bytes
    → desk_lines o d x ≡ missing_desk d ∷ closed_desk o ∷
    (filed_lines d (inputs_on o) (sheet_on o) ++ (bad_assignment (inputs_on o) x ∷ []))
desk_lines_lem o d x l =
    ap (λ (t : Line). missing_desk d ∷ closed_desk o ∷ bad_inputs (inputs_on o) ∷ t ∷ bad_record first_edition d (inputs_on o)
    (sheet_on o)
    ∷ unread_record first_edition (inputs_on o) (sheet_on o) ∷ bad_assignment (inputs_on o) x ∷ []) (count-line o l)

-- and where it is open, only those
pub open_lines : (o : List ℕ) (d x : ℕ) → length o ≡ desk_bytes → no_desk d ≡ false → open_mark o ≡ 1
    → verdict (desk_lines o d x) ≡ verdict (filed_lines d (inputs_on o) (sheet_on o) ++ (bad_assignment (inputs_on o) x ∷ []))
open_lines o d x l g h =
    ap verdict (desk_lines_lem o d x l)
    ∙ passes (missing_desk d ∷ closed_desk o ∷ []) (filed_lines d (inputs_on o) (sheet_on o)
    ++ (bad_assignment (inputs_on o) x ∷ [])) (g, (ap (λ (m : ℕ). not (eqb m 1)) h, tt))

-- a desk whose lines are in order can be run
pub ready : (o : List ℕ) (d x : ℕ) → length o ≡ desk_bytes → verdict (desk_lines o d x) ≡ Fine
    → Ready first_edition (inputs_on o) (sheet_on o) x
ready o d x l e =
    let n = inputs_on o in
    let s = sheet_on o in
    let w = (in_order_lem (missing_desk d ∷ closed_desk o ∷ (filed_lines d n s ++ (bad_assignment n x ∷ [])))
    (sym (ap verdict (desk_lines_lem o d x l)) ∙ e)).1.1 in (
      runnable first_edition d n s first_edition_lem (records first_edition s) (inside 1 n most_inputs w.0).1
          (good_sheet first_edition d n s first_edition_lem (w.1.0, (w.1.1.0, tt))),
      leb-false (2 ^ n) x w.1.1.1.1.0,
    )

-- ---- by its own bytes alone

pub run_own_lem : (c : List ℕ) (d x : ℕ) → length c ≡ card_bytes → run_desk_outcome c d x ≡ desk_outcome (own_bytes c d) d x
unfolding run_desk_outcome
run_own_lem c d x h =
    ap (λ (v : Verdict). reply v (desk_outcome (own_bytes c d) d x) run_not)
    (passes (bad_card c ∷ []) [] (ap not (eq-eqb (length c) card_bytes h), tt))

pub run_short : (c : List ℕ) (d x : ℕ) → (length c ≡ card_bytes → ⊥) → run_desk_outcome c d x ≡ run_not (refusal 20 0)
unfolding run_desk_outcome
run_short c d x h =
    ap (λ (v : Verdict). reply v (desk_outcome (own_bytes c d) d x) run_not)
    (sym (decides (bad_card c ∷ []) (here (ap not (ne_eqb (length c) card_bytes h)))))

pub no_such_desk : (o : List ℕ) (d x : ℕ) → no_desk d ≡ true → desk_outcome o d x ≡ run_not (refusal 19 0)
unfolding desk_outcome
no_such_desk o d x h =
    ap (λ (v : Verdict). reply v (run_done first_edition (inputs_on o) (sheet_on o) x) run_not)
    (sym (decides (desk_lines o d x) (here h)))

-- a desk answers as the stores into it alone would have it
pub answers_own : (u : List Store) (c : List ℕ) (d x : ℕ) → run_desk_outcome (stored u c) d x
    ≡ run_desk_outcome (stored (onto d u) c) d x
answers_own u c d x = go (eqb (length c) card_bytes) refl (no_desk d) refl
  where
    v : List Store
    v = onto d u

    go : (a : Bool) → eqb (length c) card_bytes ≡ a → (b : Bool) → no_desk d ≡ b → run_desk_outcome (stored u c) d x
        ≡ run_desk_outcome (stored v c) d x
    go false p b q =
        let h = eqb-false (length c) card_bytes p in
        run_short (stored u c) d x (λ e. h (sym (made_length u c) ∙ e))
        ∙ sym (run_short (stored v c) d x (λ e. h (sym (made_length v c) ∙ e)))
    go true p b q = let h = eqb-true (length c) card_bytes p in
        run_own_lem (stored u c) d x (made_length u c ∙ h) ∙ same b q h
        ∙ sym (run_own_lem (stored v c) d x (made_length v c ∙ h))
      where
        same : (b : Bool) → no_desk d ≡ b → length c ≡ card_bytes → desk_outcome (own_bytes (stored u c) d) d x
            ≡ desk_outcome (own_bytes (stored v c) d) d x
        same true q h = no_such_desk (own_bytes (stored u c) d) d x q
            ∙ sym (no_such_desk (own_bytes (stored v c) d) d x q)
        same false q h = let w = inside 1 d desks q in ap (λ (o : List ℕ). desk_outcome o d x)
            (own_made u c d h w.0 w.1)

-- 20 is a line before its own
pub run_by_lines : (c : List ℕ) (d x : ℕ)
    → run_desk_outcome c d x ≡ reply (verdict (run_desk_lines c d x))
    (run_done first_edition (inputs_on (own_bytes c d)) (sheet_on (own_bytes c d)) x) run_not
unfolding run_desk_outcome desk_outcome
run_by_lines c d x = go (bad_card c).holds (verdict (desk_lines (own_bytes c d) d x))
  where
    done : RunAnswer
    done = run_done first_edition (inputs_on (own_bytes c d)) (sheet_on (own_bytes c d)) x

    go : (t : Bool) (v : Verdict) → reply (cond t (Refused (refusal 20 0)) Fine) (reply v done run_not) run_not
        ≡ reply (cond t (Refused (refusal 20 0)) v) done run_not
    go true v = refl
    go false v = refl

-- ---- while it is loaded, and afterwards

pub closed-answer : (o : List ℕ) (d x : ℕ) → no_desk d ≡ false → open_mark o ≡ 0 → desk_outcome o d x
    ≡ run_not (refusal 18 0)
unfolding desk_outcome
closed-answer o d x g h =
    ap (λ (v : Verdict). reply v (run_done first_edition (inputs_on o) (sheet_on o) x) run_not)
    (sym (decides (desk_lines o d x) (later g (here (ap (λ (m : ℕ). not (eqb m 1)) h)))))

-- what a load lets through
pub record Accepted (c : List ℕ) (d n : ℕ) (s : List ℕ) : Type 0 where
  pub long : length c ≡ card_bytes
  pub desk : no_desk d ≡ false
  pub least : 1 ≤ d
  pub most : d ≤ desks
  pub filed : InOrder (filed_lines d n s)
  pub good : Good first_edition d n s (records first_edition s)

pub accepts : (c : List ℕ) (d n : ℕ) (s : List ℕ) → InOrder (load_lines c d n s) → Accepted c d n s
accepts c d n s w =
    let g = or_left (no_desk d) (another_desk d s) w.1.0 in
    let f = w.1.1 in
    record {
      long = eqb-true (length c) card_bytes (not-false (eqb (length c) card_bytes) w.0);
      desk = g;
      least = (inside 1 d desks g).0;
      most = (inside 1 d desks g).1;
      filed = f;
      good = good_sheet first_edition d n s first_edition_lem (f.1.0, (f.1.1.0, tt));
    }
  where
    or_left : (a b : Bool) → (a || b) ≡ false → a ≡ false
    or_left true b h = h
    or_left false b h = refl

-- a sheet that is filed answers as on the bench, where 11 comes before 15
as_on_bench : (d n : ℕ) (s : List ℕ) (x : ℕ) → InOrder (filed_lines d n s)
    → reply (verdict (filed_lines d n s ++ (bad_assignment n x ∷ []))) (run_done first_edition n s x) run_not
    ≡ run_outcome first_edition d n s x
unfolding run_outcome
as_on_bench d n s x w =
    ap (λ (v : Verdict). reply v (run_done first_edition n s x) run_not)
    (passes (filed_lines d n s) (bad_assignment n x ∷ []) w
    ∙ sym (lapses (bad_assignment n x ∷ []) (unread_record first_edition n s ∷ []) (w.1.1.1.0, tt))
    ∙ sym (passes (bad_inputs n ∷ sheet_lines first_edition d n s) (bad_assignment n x ∷ unread_record first_edition n s ∷ [])
    (w.0, (w.1.0, (w.1.1.0, tt)))))

-- an open desk that holds it, too
pub holding_answer : (o : List ℕ) (d n : ℕ) (s : List ℕ) (x : ℕ) → length o ≡ desk_bytes → no_desk d ≡ false → Holds o n s
    → Good first_edition d n s (records first_edition s)
    → InOrder (filed_lines d n s) → desk_outcome o d x ≡ run_outcome first_edition d n s x
unfolding desk_outcome
holding_answer o d n s x l g h k w =
    ap (λ (v : Verdict). reply v (run_done first_edition (inputs_on o) (sheet_on o) x) run_not)
    (open_lines o d x l g h.marked)
    ∙ ap₂ (λ (i : ℕ) (t : List ℕ). reply (verdict (filed_lines d i t ++ (bad_assignment i x ∷ [])))
    (run_done first_edition i t x) run_not)
    (says_inputs o n s h) (says_sheet o n s h l k.whole k.most)
    ∙ as_on_bench d n s x w

module _ (c : List ℕ) (d n : ℕ) (s : List ℕ) (a : Accepted c d n s) (x : ℕ) where
  -- from the first store to before the last the desk is closed
  pub cut_closed : (k : ℕ) → 1 ≤ k → k < store_count → run_desk_outcome (stored (cut_load k d n s) c) d x
      ≡ run_not (refusal 18 0)
  cut_closed k h g =
      run_own_lem (stored (cut_load k d n s) c) d x (made_length (cut_load k d n s) c ∙ a.long)
      ∙ closed-answer (own_bytes (stored (cut_load k d n s) c) d) d x a.desk
      (mark-zero d n s c a.long a.least a.most k h g)

  -- after the last it answers as the new sheet does on the bench
  pub load_answers : run_desk_outcome (stored (load_stores d n s) c) d x ≡ run_outcome first_edition d n s x
  load_answers =
      let l = made_length (load_stores d n s) c ∙ a.long in
      run_own_lem (stored (load_stores d n s) c) d x l
      ∙ holding_answer (own_bytes (stored (load_stores d n s) c) d) d n s x
      (own_length (stored (load_stores d n s) c) d l a.most) a.desk
      (desk_holds d n s c a.long a.least a.most) a.good a.filed

-- a store into one desk changes no answer of another's
pub others_answer : (d f : ℕ) (u : List Store) (c : List ℕ) (x : ℕ) → (d ≡ f → ⊥) → Every (Into d) u
    → run_desk_outcome (stored u c) f x ≡ run_desk_outcome c f x
others_answer d f u c x e h = answers_own u c f x
    ∙ ap (λ (v : List Store). run_desk_outcome (stored v c) f x) (onto_other d f u e h)
