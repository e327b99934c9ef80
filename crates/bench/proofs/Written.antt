-- What is written of a chain, from what the code holds of it: nothing where it is stuck or longer than a sheet, else
-- its cells as records. Assumes nothing.
use mathlib.Core.Path.{◌≡◌, refl, sym, ap, ap₂, ◌∙◌}
use mathlib.Core.Bool.{Bool, cond}
use mathlib.Core.List.{List, [], ◌∷◌, ◌++◌}
use Prim.Native.Nat.{ℕ, ◌*◌, ◌<◌, ◌≤◌}
use native.Mathlib.Omega.{arith}
use lib.ListN.{length, drop, replicate}
use borrow.Author.Tests.{le-leb, lt-leb}
use Rattle.std.proofs.Common.{Option, Some, None, Err}
use Rattle.std.specs.Option.{ok_or}
use Rattle.tables.specs.Table.{table_bit}
use Rattle.sheets.specs.declared.kinds.Edition.{Edition}
use Rattle.sheets.specs.Edition.{most_records}
use Rattle.sheets.specs.Network.{Cell}
use Rattle.sheets.specs.Writing.{sheet_bytes}
use Rattle.sheets.specs.Held.{cells_of}
use Rattle.sheets.proofs.Wholes.{length-sheet}
use Rattle.chains.specs.Chain.{Made, stuck, made}
use Rattle.chains.proofs.Aside.{table-records}
use Rattle.making.specs.declared.chaining.ChainEnd.{ChainEnd}
use Rattle.making.specs.Chaining.{Tells}
use Rattle.making.proofs.Piling.{cells_count}
use Rattle.refusals.specs.Verdicts.{Refusal, Verdict, Fine, Refused}
use Rattle.refusals.specs.declared.verdicts.Refusal.{Refusal as Why}
use Rattle.refusals.specs.declared.verdicts.Refusal.TheVariants.{NoSplit}
use Rattle.refusals.specs.Lines.{refusal, verdict, reply}
use Rattle.refusals.specs.Results.{refusal_of, verdict_of}
use Rattle.refusals.proofs.Lines.{not_fine}
use Rattle.refusals.proofs.Tests.{Sound}
use Rattle.bench.specs.Refusals.{chain_stuck}
use Rattle.bench.specs.MakeSheet.{MakeOutcome, sheet_for, cells_in, make_done, make_not, chain_written}

module _ (e : Edition) (d : ℕ) (sheet work : List ℕ) where
  -- a refusal as the code makes it: the sheet is as it was
  abbrev none : Refusal → List ℕ → MakeOutcome
  none r l = record { answer = record { verdict = Refused r; count = 0 }; sheet = sheet; work = l }

  module _ (l : List ℕ) (cleared : l ≡ replicate (length work) 0) where
    -- it is stuck
    pub stuck_written : (r : Option ChainEnd) (x : Made) → Tells r x → (why : Why) → ok_or r NoSplit ≡ Err why
        → none (refusal_of why) l ≡ chain_written e d x sheet work
    stuck_written None stuck w why h = ap₂ (λ (v : Verdict) (l : List ℕ). record {
      answer = record { verdict = v; count = 0 };
      sheet = sheet;
      work = l;
    }) (sym (ap verdict_of h)) cleared
    stuck_written None (made cs) w why h = absurd w
    stuck_written (Some r) x w why h = absurd (not_fine _ (ap verdict_of h))

    -- it is longer than a sheet
    pub long_written : (r : ChainEnd) (x : Made) → Tells (Some r) x → most_records < r.count
        → none (refusal 17 0) l ≡ chain_written e d x sheet work
    long_written r stuck w g = absurd w
    long_written r (made cs) w g =
        ap (none (refusal 17 0)) cleared ∙ ap (λ (b : Bool). cond b (make_done e d cs sheet work)
        (make_not sheet work (refusal 17 0))) (sym (lt-leb (length cs) most_records (omega (arith, w.0))))

  module _ (r : ChainEnd) where
    -- a sheet has room: the cells are held, and their records go over the first bytes
    pub record Fits (x : Made) : Type 0 where
      pub chain : x ≡ made (cells_of r.sheet)
      pub few : r.sheet.count ≤ most_records
      pub written : record {
        answer = record { verdict = Fine; count = r.count };
        sheet = sheet_bytes e d (cells_of r.sheet) ++ drop (e.size * r.sheet.count) sheet;
        work = replicate (length work) 0;
      } ≡ chain_written e d x sheet work

    pub fits : (x : Made) → Tells (Some r) x → r.count ≤ most_records → Fits x
    fits stuck w l = absurd w
    fits (made cs) w l =
        let few : length cs ≤ most_records = omega (arith, w.0) in
        let cells = w.1 few in
        let held = cells_of r.sheet in
        let count : length held ≡ r.sheet.count = cells_count r.sheet in
        record {
          chain = ap made (sym cells);
          few = omega (arith, ap length cells);
          written = ap₂ (λ (k m : ℕ). record {
            answer = record { verdict = Fine; count = k };
            sheet = sheet_bytes e d held ++ drop m sheet;
            work = replicate (length work) 0;
          })
              (w.0 ∙ sym (ap length cells)) (sym (length-sheet e d held ∙ ap (λ (k : ℕ). e.size * k) count))
              ∙ ap (λ (l : List Cell). make_done e d l sheet work) cells
              ∙ ap (λ (b : Bool). cond b (make_done e d cs sheet work) (make_not sheet work (refusal 17 0)))
              (sym (le-leb (length cs) most_records few));
        }

  -- with one first cell at a step no chain is longer than a sheet: make's own line says the same
  pub one_written : (n K : ℕ) (t : List ℕ) → Sound e n K t → chain_written e d (sheet_for n K t) sheet work
      ≡ reply (verdict (chain_stuck (sheet_for n K t) ∷ [])) (make_done e d (cells_in (sheet_for n K t)) sheet work)
      (make_not sheet work)
  one_written n K t g = go (sheet_for n K t) refl
    where
      go : (x : Made) → sheet_for n K t ≡ x → chain_written e d x sheet work
          ≡ reply (verdict (chain_stuck x ∷ [])) (make_done e d (cells_in x) sheet work) (make_not sheet work)
      go stuck q = refl
      go (made cs) q =
          ap (λ (b : Bool). cond b (make_done e d cs sheet work) (make_not sheet work (refusal 17 0)))
          (le-leb (length cs) most_records (table-records n K (table_bit t) g.some (omega (arith, g.two)) cs q
          (omega (arith, g.most, g.two))))
