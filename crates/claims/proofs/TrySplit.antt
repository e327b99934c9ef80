-- Try a named split with r first cells: what is claimed of it, over any edition and any r. Document 01's call has one
-- first cell: what that adds stands at the end. Assumes nothing.
use mathlib.Core.Path.{◌≡◌, refl, sym, ap, ◌∙◌}
use mathlib.Core.Logic.{◌↔◌}
use mathlib.Core.Bool.{Bool, true, false, not, cond}
use mathlib.Core.List.{List, [], ◌∷◌, ◌++◌}
use Prim.Native.Nat.{ℕ, ◌+◌, ◌*◌, ◌/◌, ◌%◌, ◌^◌, ◌<◌, ◌≤◌}
use native.Mathlib.Nat.{le_refl, le_trans}
use native.Mathlib.Omega.{arith}
use lib.Dec.{eqb, ltb}
use lib.ListN.{length, get_or, drop, get_or-append}
use lib.Seq.{drop_at}
use borrow.Author.Tests.{not-true, not-false, ne_eqb}
use Rattle.bits.specs.Numbers.{bit, val, number}
use Rattle.bits.specs.Sets.{size, gather}
use Rattle.bits.proofs.Bools.{clash, false_of}
use Rattle.tables.specs.Table.{table_length, table_bit}
use Rattle.tables.specs.Cells.{cell_words, table_number, no_table}
use Rattle.tables.proofs.Bytes.{length-table}
use Rattle.splits.specs.Split.{Possible, reads_d, input_h}
use Rattle.splits.specs.Columns.{most_first, column, columns, few_columns, first_broken}
use Rattle.splits.specs.Pair.{table_d, bit_h, inputs_h, bytes_h}
use Rattle.charts.specs.declared.pair.FirstCells.{FirstCells}
use Rattle.charts.specs.Cells.{held_d, first_table, first_cells, no_cells, table_in}
use Rattle.columns.specs.Broken.{Several}
use Rattle.splits.proofs.Possible.{possible_iff}
use Rattle.splits.proofs.Respect.{reads-D}
use Rattle.columns.proofs.Breaking.{broken_before, broken_there, broken_within, columns_several}
use Rattle.sheets.specs.declared.kinds.Edition.{Edition}
use Rattle.sheets.specs.Edition.{IsEdition, first_most}
use Rattle.refusals.specs.Verdicts.{Refusal, Verdict, Fine, Refused}
use Rattle.refusals.specs.Lines.{InOrder, naming, verdict, number_of, place_of, reply}
use Rattle.refusals.specs.Refusals.{not_possible}
use Rattle.splitting.specs.TrySplit.{TryAnswer, TryOutcome, try_form, try_lines, try_done, try_not, try_outcome}
use Rattle.refusals.specs.Lent.{into}
use Rattle.refusals.proofs.Lines.{in_order_lem, passes, held}
use Rattle.refusals.proofs.Tests.{sound}
use Rattle.splitting.proofs.Sets.{candidate, most_first_lem}
use Rattle.claims.specs.Words.{ByLines, Breaks}
use Rattle.claims.proofs.Verdicts.{says_verdict, is_done, is_refused_lem, by_lines, no_place}
use Rattle.claims.proofs.Tables.{spare_zero, table_in_lem, table-word, table-rest, pair_works}

module _ (e : Edition) (n K r A B : ℕ) (t room : List ℕ) where
  abbrev F : ℕ → Bool
  F = table_bit t

  abbrev first : ℕ
  first = first_broken n (table_bit t) (bit A) (bit B) (2 ^ r)

  says : (try_outcome e n K r A B t room).answer.verdict ≡ verdict (try_lines e n K r A B t room)
  unfolding try_outcome
  says = says_verdict (λ (o : TryOutcome). o.answer.verdict) (try_done n r A B t room) (try_not n A B t room) refl
      (λ w. refl) (verdict (try_lines e n K r A B t room))

  -- the verdict is that of lines 1 to 6 and 8
  pub try_lines_lem : ByLines (try_outcome e n K r A B t room).answer.verdict (try_lines e n K r A B t room)
  try_lines_lem = by_lines (try_lines e n K r A B t room) refl (try_outcome e n K r A B t room).answer.verdict says

  -- refused: the first cells' tables are 0, and the room for H is as it was lent
  pub try_refused : (why : Refusal) → (try_outcome e n K r A B t room).answer.verdict ≡ Refused why
      → ((try_outcome e n K r A B t room).answer.d ≡ no_cells) × ((try_outcome e n K r A B t room).room ≡ room)
  unfolding try_outcome
  try_refused why h =
      let q = is_refused_lem (λ (o : TryOutcome). o.answer.verdict) (try_done n r A B t room) (try_not n A B t room) refl
      (λ u. refl) (verdict (try_lines e n K r A B t room)) why h in
      (ap (λ o. o.answer.d) q, ap (λ o. o.room) q)

  -- ---- where a named split broke

  -- but for 8 nothing is named, and no columns are counted
  pub try_no_break : (number_of (try_outcome e n K r A B t room).answer.verdict ≡ 8 → ⊥)
      → (place_of (try_outcome e n K r A B t room).answer.verdict ≡ 0)
      × ((try_outcome e n K r A B t room).answer.columns ≡ 0)
  unfolding try_outcome
  try_no_break h = (
    no_place (λ k. eqb k 8) (try_lines e n K r A B t room) refl says (ne_eqb _ 8 h),
    go (verdict (try_lines e n K r A B t room)) h,
  )
    where
      go : (v : Verdict) → (number_of (reply v (try_done n r A B t room) (try_not n A B t room)).answer.verdict ≡ 8 → ⊥)
          → (reply v (try_done n r A B t room) (try_not n A B t room)).answer.columns ≡ 0
      go Fine g = refl
      go (Refused why) g = ap (λ (b : Bool). cond b (length (columns n F (bit A) (bit B) why.place)) 0)
          (ne_eqb why.number 8 g)

  -- 8 names the least b that has more than 2 ^ r different columns, and tells how many it has (`broken_there`,
  -- `broken_before`, columns)
  pub try_breaks : number_of (try_outcome e n K r A B t room).answer.verdict ≡ 8
      → Breaks n (table_bit t) (bit A) (bit B) (2 ^ r) (place_of (try_outcome e n K r A B t room).answer.verdict)
      (try_outcome e n K r A B t room).answer.columns
  unfolding try_outcome
  try_breaks h =
      let w = held (try_form e n K r A B t room) (not_possible n r A B t) [] 8 refl refl (λ z. omega arith)
      (ap number_of (sym says) ∙ h) in
      let within = broken_within n F (bit A) (bit B) (2 ^ r) (not-true (few_columns n F (bit A) (bit B) (2 ^ r)) w.0)
      in
      rw w.1 (record {
        within = within;
        count = refl;
        more = broken_there n F (bit A) (bit B) (2 ^ r) within;
        before = broken_before n F (bit A) (bit B) (2 ^ r);
      })

  -- which is a proof that it is impossible: 2 ^ r + 1 assignments of A (three, with one first cell) have pairwise
  -- different columns there (`columns_several`, columns)
  pub break_proves : number_of (try_outcome e n K r A B t room).answer.verdict ≡ 8
      → Several (column n (table_bit t) (bit A) (bit B) (place_of (try_outcome e n K r A B t room).answer.verdict))
      (2 ^ size n (bit A)) (2 ^ r)
  break_proves h = let w = try_breaks h in columns_several n F (bit A) (bit B) _ (2 ^ r) w.more

  -- two outcomes that keep the promise are equal: the answer, and the room for H afterwards
  pub try_once : (a a' : TryAnswer) (l l' : List ℕ) → record { answer = a; room = l } ≡ try_outcome e n K r A B t room
      → record { answer = a'; room = l' } ≡ try_outcome e n K r A B t room
      → (a ≡ a') × (l ≡ l')
  try_once a a' l l' p q = (ap (λ o. o.answer) (p ∙ sym q), ap (λ o. o.room) (p ∙ sym q))

  -- ---- demand 3, where form and room are in order

  module _ (form : InOrder (try_form e n K r A B t room)) where
    few : (few_columns n F (bit A) (bit B) (2 ^ r) ≡ true) ↔ Possible n F (bit A) (bit B) r
    few = possible_iff n F (bit A) (bit B) (candidate n K r A B form.1.1.1.1.0 K (le_refl K)).apart r

    by_test : (try_outcome e n K r A B t room).answer.verdict ≡ verdict (not_possible n r A B t ∷ [])
    by_test = says ∙ passes (try_form e n K r A B t room) (not_possible n r A B t ∷ []) form

    -- a named split is refused as 8 exactly if no r tables and no H of any kind make it work (`possible_iff`, splits)
    pub refused_exactly : (number_of (try_outcome e n K r A B t room).answer.verdict ≡ 8)
        ↔ (Possible n F (bit A) (bit B) r → ⊥)
    refused_exactly = (
      λ h P. clash (few.1 P) (not-true (few_columns n F (bit A) (bit B) (2 ^ r))
          (held [] (not_possible n r A B t) [] 8 refl refl (λ z. omega arith) (ap number_of (sym by_test) ∙ h)).0),
      λ h. ap number_of by_test ∙ ap (λ (b : Bool). number_of (verdict (naming 8 first (not b) ∷ [])))
          (false_of (few_columns n F (bit A) (bit B) (2 ^ r)) (λ q. h (few.0 q))),
    )

    -- and where some do, try is done
    pub possible_done : Possible n F (bit A) (bit B) r → (try_outcome e n K r A B t room).answer.verdict ≡ Fine
    possible_done P = by_test ∙ ap (λ (b : Bool). verdict (naming 8 first (not b) ∷ [])) (few.1 P)

  -- ---- done; H has h inputs

  module _ (done : (try_outcome e n K r A B t room).answer.verdict ≡ Fine) where
    abbrev h : ℕ
    h = inputs_h n F (bit A) (bit B) r

    H : List ℕ
    H = bytes_h n F (bit A) (bit B) r

    long : length H ≡ table_length h
    unfolding H bytes_h
    long = length-table h (bit_h n F (bit A) (bit B))

    abbrev lines : InOrder (try_lines e n K r A B t room)
    lines = in_order_lem (try_lines e n K r A B t room) (sym says ∙ done)

    most : r ≤ most_first
    most = most_first_lem n K r A B lines.1.1.1.1.0

    is : try_outcome e n K r A B t room ≡ try_done n r A B t room
    unfolding try_outcome
    is = is_done (λ (o : TryOutcome). o.answer.verdict) (try_done n r A B t room) (try_not n A B t room) refl
        (λ u. refl) (verdict (try_lines e n K r A B t room)) done

    is_room : (try_outcome e n K r A B t room).room ≡ H ++ drop (length H) room
    unfolding H
    is_room = ap (λ o. o.room) is

    -- the first cells are no larger than the edition's largest
    cells_fit : size n (reads_d (bit A) (bit B)) ≤ e.most
    cells_fit =
        let g = sound e n K t (lines.0, (lines.1.0, (lines.1.1.0, (lines.1.1.1.0, tt)))) in
        let c = candidate n K r A B lines.1.1.1.1.0 e.most g.largest in
        omega (arith, c.most, reads-D n (bit A) (bit B) c.apart)

    -- first cell i gives bit i of the number of its column, in order of first appearance; tables from r up are 0
    pub tried_tables : IsEdition e → (i : ℕ) → table_in (try_outcome e n K r A B t room).answer.d i
        ≡ cond (ltb i r) (table_d n (table_bit t) (bit A) (bit B) i) 0
    tried_tables ok i = ap (λ (o : TryOutcome). table_in o.answer.d i) is
        ∙ table_in_lem n F (bit A) (bit B) r (le_trans cells_fit ok.eight) most i

    -- they are held in words
    pub tried_cells : (try_outcome e n K r A B t room).answer.d ≡ first_cells n (table_bit t) (bit A) (bit B) r
    tried_cells = ap (λ (o : TryOutcome). o.answer.d) is

    -- where cells have at most 6 inputs the first word of each is all of it, and the others are 0: one word is then
    -- enough to hand it back
    pub tried_words : e.most ≤ first_most → (i : ℕ)
        → (get_or (first_table n (table_bit t) (bit A) (bit B) r i).words 0 0
        ≡ cond (ltb i r) (table_d n (table_bit t) (bit A) (bit B) i) 0)
        × ((j : ℕ) → 1 ≤ j → j < cell_words → get_or (first_table n (table_bit t) (bit A) (bit B) r i).words j 0 ≡ 0)
    tried_words six i = let s = le_trans cells_fit six
        in (table-word n F (bit A) (bit B) r i s, table-rest n F (bit A) (bit B) r i s)

    -- demand 2: at every assignment the table's bit is H's bit at the first cells' bits (`pair_gives`, splits)
    pub tried_works : IsEdition e → (x : ℕ) → x < 2 ^ n
        → table_bit t x
        ≡ table_bit (try_outcome e n K r A B t room).room
        (input_h n (bit A) (bit B) x (number r (λ i. bit (table_in (try_outcome e n K r A B t room).answer.d i)
        (gather n (reads_d (bit A) (bit B)) x))))
    tried_works ok x l =
        pair_works n F (bit A) (bit B) r (le_trans cells_fit ok.eight) most
        (not-false (few_columns n F (bit A) (bit B) (2 ^ r)) lines.1.1.1.1.1.1.0)
        (drop (length (bytes_h n F (bit A) (bit B) r)) room) x l
        ∙ ap (λ (o : TryOutcome).
        table_bit o.room (input_h n (bit A) (bit B) x
        (number r (λ i. bit (table_in o.answer.d i) (gather n (reads_d (bit A) (bit B)) x))))) (sym is)

    -- H's bytes past its table stay
    pub tried_stays : drop (table_length (inputs_h n F (bit A) (bit B) r)) (try_outcome e n K r A B t room).room
        ≡ drop (table_length (inputs_h n F (bit A) (bit B) r)) room
    tried_stays = rw is_room (drop_at H (drop (length H) room) (table_length h) long ∙ ap (λ (k : ℕ). drop k room) long)

    -- and its own spare bits are zero
    pub tried_spare : (x : ℕ) → 2 ^ inputs_h n F (bit A) (bit B) r ≤ x → x
        < 8 * table_length (inputs_h n F (bit A) (bit B) r)
        → table_bit (try_outcome e n K r A B t room).room x ≡ false
    unfolding H bytes_h
    tried_spare x g l =
        ap (λ (l : List ℕ). table_bit l x) is_room
        ∙ ap (λ (b : ℕ). bit b (x % 8)) (get_or-append H (drop (length H) room) 0 (x / 8) (omega (arith, long)))
        ∙ spare_zero h (bit_h n F (bit A) (bit B)) x g l

-- ---- document 01's call: one first cell, whose table is D

one_bit : (f : ℕ → Bool) → number 1 f ≡ val (f 0)
unfolding number
one_bit f = go (f 0)
  where
    go : (b : Bool) → 0 + val b * 2 ^ 0 ≡ val b
    go b = omega arith

module _ (e : Edition) (n K A B : ℕ) (t room : List ℕ) (done : (try_outcome e n K 1 A B t room).answer.verdict ≡ Fine)
  where
    -- D is document 01's, and there is no other table; H is document 01's, before the bytes that stay
    pub tried_one : ((try_outcome e n K 1 A B t room).answer.d
        ≡ record { first = held_d n (table_bit t) (bit A) (bit B) 0; second = no_table; third = no_table })
        × ((try_outcome e n K 1 A B t room).room ≡ into (bytes_h n (table_bit t) (bit A) (bit B) 1) room)
    tried_one = (ap (λ o. o.answer.d) (is e n K 1 A B t room done), ap (λ o. o.room) (is e n K 1 A B t room done))

    -- D's words make the number
    pub tried_one-table : IsEdition e → table_number (try_outcome e n K 1 A B t room).answer.d.first
        ≡ table_d n (table_bit t) (bit A) (bit B) 0
    tried_one-table ok = tried_tables e n K 1 A B t room done ok 0

    -- and where a cell has at most 6 inputs, the first word is it, and the others are 0
    pub tried_one-word : e.most ≤ first_most
        → (get_or (try_outcome e n K 1 A B t room).answer.d.first.words 0 0 ≡ table_d n (table_bit t) (bit A) (bit B) 0)
        × ((j : ℕ) → 1 ≤ j → j < cell_words → get_or (try_outcome e n K 1 A B t room).answer.d.first.words j 0 ≡ 0)
    tried_one-word six =
        let w = tried_words e n K 1 A B t room done six 0 in
        let is = tried_cells e n K 1 A B t room done in (
          ap (λ (d : FirstCells). get_or d.first.words 0 0) is
              ∙ w.0,
          λ j p l. ap (λ (d : FirstCells). get_or d.first.words j 0) is ∙ w.1 j p l,
        )

    -- demand 2: at every assignment the table's bit is H's bit at D's bit
    pub tried_one_works : IsEdition e → (x : ℕ) → x < 2 ^ n
        → table_bit t x
        ≡ table_bit (try_outcome e n K 1 A B t room).room
        (input_h n (bit A) (bit B) x (val (bit (table_number (try_outcome e n K 1 A B t room).answer.d.first)
        (gather n (reads_d (bit A) (bit B)) x))))
    tried_one_works ok x l =
        tried_works e n K 1 A B t room done ok x l
        ∙ ap (λ (k : ℕ). table_bit (try_outcome e n K 1 A B t room).room (input_h n (bit A) (bit B) x k))
        (one_bit (λ i. bit (table_in (try_outcome e n K 1 A B t room).answer.d i)
        (gather n (reads_d (bit A) (bit B)) x)))
