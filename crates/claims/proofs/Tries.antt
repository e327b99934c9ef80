-- The inspector's five tries on the promise of make, each shut out, over any edition and desk. Assumes nothing.
use mathlib.Core.Path.{◌≡◌, refl, sym, ap, ◌∙◌}
use mathlib.Core.Bool.{false}
use mathlib.Core.List.{List, [], ◌∷◌, ◌++◌}
use Prim.Native.Nat.{ℕ, zero, suc, ◌+◌, ◌-◌, ◌*◌, ◌^◌, ◌≤◌, ◌<◌, max}
use native.Mathlib.Nat.{not-suc-le-zero, mul-suc, mul-zero, mul-le-mul_left}
use native.Mathlib.Omega.{arith}
use lib.ListN.{length, get_or, take, drop, get_or-append}
use lib.Seq.{take_at, drop_at, drop-append-add, get_or-take}
use Rattle.bits.specs.Numbers.{bit}
use Rattle.bits.specs.Sets.{size}
use Rattle.tables.specs.Table.{table_bit}
use Rattle.tables.specs.Counting.{support, kept, table_over}
use Rattle.tables.proofs.Keeping.{kept_most}
use Rattle.sheets.specs.declared.kinds.Edition.{Edition}
use Rattle.sheets.specs.Edition.{IsEdition}
use Rattle.sheets.specs.Network.{Cell, run}
use Rattle.sheets.specs.Sheet.{record_bytes, records, Good}
use Rattle.sheets.specs.Writing.{encode, sheet_bytes}
use Rattle.sheets.proofs.Looks.{record_keeps}
use Rattle.sheets.proofs.Inverse.{length-encode}
use Rattle.sheets.proofs.Wholes.{length-sheet}
use Rattle.chains.specs.Chain.{made, pick, inputs, last_cell}
use Rattle.chains.specs.Words.{Makes, ends}
use Rattle.chains.proofs.Lists.{pick-length}
use Rattle.chains.proofs.Aside.{sheet_made, table_most}
use Rattle.refusals.specs.Verdicts.{Refusal, Fine, Refused}
use Rattle.refusals.specs.Lines.{InOrder}
use Rattle.refusals.specs.Lent.{into}
use Rattle.refusals.proofs.Lines.{not_fine}
use Rattle.refusals.proofs.Sheets.{counted}
use Rattle.rebuilding.specs.RebuildTable.{rebuild_outcome}
use Rattle.bench.specs.MakeSheet.{sheet_for, cells_in, make_form, make_outcome}
use Rattle.bench.proofs.Ready.{ready}
use Rattle.claims.specs.Words.{AllBytes, records_of, network_of}
use Rattle.claims.proofs.Made.{IsMade, is_made, not_stuck, made_records, made_good, made_network}
use Rattle.claims.proofs.MakeSheet.{made_rebuilds, made_gives}

-- ---- a bench that only says no

module _ (e : Edition) (d n K : ℕ) (t sheet work : List ℕ) (form : InOrder (make_form e d n K t sheet work))
    (small : size n (bit (support n (table_bit t))) ≤ K) where
  -- where form and room are in order and at most K inputs count, make is done, with one cell
  pub one_cell : (make_outcome e d n K t sheet work).answer ≡ record { verdict = Fine; count = 1 }
  one_cell =
      let g = (ready e d n K t sheet work form).gate in
      let s = bit (kept n (table_bit t)) in
      let cs = last_cell (pick n s (inputs n)) (table_over n s (table_bit t)) ∷ [] in
      let few : length (pick n s (inputs n)) ≤ K = omega
      (arith, pick-length n s (inputs n), kept_most n (table_bit t), g.two) in
      let w = not_stuck e d n K t sheet work form cs
      ((sheet_made n K (table_bit t) g.some (omega (arith, g.two)) cs).1 (ends few)) in
      ap (λ o. o.answer) w.0.outcome ∙ ap (λ (l : List Cell). record { verdict = Fine; count = length l }) w.1

  -- so no refusal, whatever it leaves in the lent bytes, keeps the promise
  pub not_only_no : (r : Refusal) (c : ℕ) (sheet' work' : List ℕ)
      → record { answer = record { verdict = Refused r; count = c }; sheet = sheet'; work = work' }
      ≡ make_outcome e d n K t sheet work → ⊥
  not_only_no r c sheet' work' q = not_fine r (sym (ap (λ o. o.answer.verdict) q ∙ ap (λ a. a.verdict) one_cell))

-- ---- one sheet for all tables

-- two tables of n inputs for which make wrote the same records are the same table
pub not-one-sheet : (e : Edition) → IsEdition e → (d n K K' : ℕ) (t t' sheet sheet' work work' : List ℕ) → AllBytes t
    → AllBytes t'
    → (make_outcome e d n K t sheet work).answer.verdict ≡ Fine → (make_outcome e d n K' t' sheet' work').answer.verdict
    ≡ Fine
    → records_of e (make_outcome e d n K t sheet work) ≡ records_of e (make_outcome e d n K' t' sheet' work') → t ≡ t'
not-one-sheet e ok d n K K' t t' sheet sheet' work work' b b' p p' q =
    let long = (is_made e d n K t sheet work p).gate.long in
    ap (λ o. o.table)
    (sym (made_rebuilds e d n K t sheet work ok p b t long) ∙ ap (λ (s : List ℕ). rebuild_outcome e d n s t) q
    ∙ made_rebuilds e d n K' t' sheet' work' ok p' b' t long)

-- ---- make says done

record_is : (e : Edition) (d : ℕ) (cs : List Cell) (i : ℕ) (c : Cell) → i < length cs
    → record_bytes e (sheet_bytes e d cs) i ≡ encode e d (get_or cs i c)
record_is e d [] i c h = absurd (not-suc-le-zero h)
record_is e d (a ∷ cs) zero c h =
    ap (λ (k : ℕ). take e.size (drop k (encode e d a ++ sheet_bytes e d cs))) (mul-zero e.size)
    ∙ take_at (encode e d a) (sheet_bytes e d cs) e.size (length-encode e d a)
record_is e d (a ∷ cs) (suc i) c h =
    let r = encode e d a in
    let q : e.size * suc i ≡ length r + e.size * i = omega (arith, length-encode e d a, mul-suc e.size i) in
    ap (λ (k : ℕ). take e.size (drop k (r ++ sheet_bytes e d cs))) q
    ∙ ap (take e.size) (drop-append-add r (sheet_bytes e d cs) (e.size * i)) ∙ record_is e d cs i c (omega arith)

module _ (e : Edition) (ok : IsEdition e) (d n K : ℕ) (t sheet work : List ℕ)
    (done : (make_outcome e d n K t sheet work).answer.verdict ≡ Fine) where
  w : IsMade e d n K t sheet work
  w = is_made e d n K t sheet work done

  -- ---- an untouched buffer

  -- the first bytes, one record at least, are the bytes of the chain's cells, whatever was lent; the bytes behind them
  -- stay
  pub all_written : (records_of e (make_outcome e d n K t sheet work) ≡ sheet_bytes e d (cells_in (sheet_for n K t)))
      × (length (records_of e (make_outcome e d n K t sheet work))
      ≡ e.size * (make_outcome e d n K t sheet work).answer.count)
      × (1 ≤ (make_outcome e d n K t sheet work).answer.count)
      × (drop (e.size * (make_outcome e d n K t sheet work).answer.count) (make_outcome e d n K t sheet work).sheet
      ≡ drop (e.size * (make_outcome e d n K t sheet work).answer.count) sheet)
  all_written =
      let s = sheet_bytes e d w.cells in
      let long = length-sheet e d w.cells in
      rw (made_records e d n K t sheet work w, w.outcome, w.chain) (
        refl,
        long,
        (made_good e d n K t sheet work w ok).some,
        drop_at s (drop (length s) sheet) (e.size * length w.cells) long ∙ ap (λ (k : ℕ). drop k sheet) long,
      )

  -- so a lent sheet that begins with 0 is not left as it was
  pub not_untouched : get_or sheet 0 0 ≡ 0 → (make_outcome e d n K t sheet work).sheet ≡ sheet → ⊥
  not_untouched z q = omega (
    arith,
    some w.cells (made_good e d n K t sheet work w ok),
    ap
        (λ (l : List ℕ). get_or l 0 0) (sym (ap (λ o. o.sheet) w.outcome) ∙ q),
  )
    where
      -- byte 0 of the first record is not 0
      some : (cs : List Cell) → Good e d n (sheet_bytes e d cs) (length cs) → 1
          ≤ get_or (into (sheet_bytes e d cs) sheet) 0 0
      some cs g =
          let s = sheet_bytes e d cs in
          let first = (record_keeps e ok d n s (length cs) g.rules 0 g.some).some in
          let here : 0 < e.size = omega (arith, ok.ends, ok.order) in
          omega (
            arith,
            first,
            ap (λ (k : ℕ). get_or (take e.size (drop k s)) 0 0) (mul-zero e.size),
            get_or-take e.size s 0 0 here,
            get_or-append s (drop (length s) sheet) 0 0
                (omega (arith, g.whole, mul-le-mul_left e.size g.some)),
          )

  -- ---- a first record that pretends to be the whole job

  -- record i is the encoding of cell i of the chain
  pub each_record : (i : ℕ) (c : Cell) → i < (make_outcome e d n K t sheet work).answer.count
      → record_bytes e (records_of e (make_outcome e d n K t sheet work)) i
      ≡ encode e d (get_or (cells_in (sheet_for n K t)) i c)
  each_record = rw (made_records e d n K t sheet work w, w.outcome, w.chain) (record_is e d w.cells)

  -- the cells are those of the chain of best splits over what is kept, in words (`sheet_made`, chains)
  pub chain_in_words : let s = bit (kept n (table_bit t))
      in Makes K n (pick n s (inputs n)) (table_over n s (table_bit t)) (network_of e (make_outcome e d n K t sheet work))
  chain_in_words =
      rw (made_network e d n K t sheet work w ok)
      ((sheet_made n K (table_bit t) w.gate.some (omega (arith, w.gate.two)) w.cells).0 w.chain)

  -- and the last record's output is the table's bit at every assignment
  pub not-first_record_alone : (x : ℕ) → x < 2 ^ n
      → run false n (network_of e (make_outcome e d n K t sheet work)) (bit x) ≡ table_bit t x
  not-first_record_alone = (made_gives e d n K t sheet work ok done).gives

  -- ---- an invented count

  -- the count is how many cells the chain has, how many the written network has, and how many records were written; it
  -- is at most max(1, c - K + 1), where c inputs count
  pub not_invented_count : (sheet_for n K t ≡ made (network_of e (make_outcome e d n K t sheet work)))
      × (length (network_of e (make_outcome e d n K t sheet work)) ≡ (make_outcome e d n K t sheet work).answer.count)
      × (records e (records_of e (make_outcome e d n K t sheet work)) ≡ (make_outcome e d n K t sheet work).answer.count)
      × ((make_outcome e d n K t sheet work).answer.count ≤ max 1 (size n (bit (support n (table_bit t))) + 1 - K))
  not_invented_count = rw (made_network e d n K t sheet work w ok, made_records e d n K t sheet work w, w.outcome) (
    w.chain,
    refl,
    counted e d n (sheet_bytes e d w.cells) ok (length w.cells) (made_good e d n K t sheet work w ok),
    table_most n K (table_bit t) w.gate.some (omega (arith, w.gate.two)) w.cells w.chain,
  )
