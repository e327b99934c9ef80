-- What a done make has behind it: the chain made cells, and these are what is counted and written. Assumes nothing.
use mathlib.Core.Path.{◌≡◌, refl, sym, ap, ◌∙◌}
use mathlib.Core.Bool.{false}
use mathlib.Core.List.{List, [], ◌∷◌}
use Prim.Native.Nat.{ℕ, ◌≤◌}
use native.Mathlib.Omega.{arith}
use lib.ListN.{length}
use Rattle.bits.proofs.Bools.{clash}
use Rattle.tables.specs.Table.{table_bit}
use Rattle.sheets.specs.declared.kinds.Edition.{Edition}
use Rattle.sheets.specs.Edition.{IsEdition, most_desk}
use Rattle.sheets.specs.Network.{Cell, Gives}
use Rattle.sheets.specs.Sheet.{Good}
use Rattle.sheets.specs.Writing.{FitsFrom, sheet_bytes}
use Rattle.chains.specs.Chain.{Made, stuck, made}
use Rattle.chains.proofs.Aside.{table_gives, table_fits, table_read, table-records}
use Rattle.refusals.specs.Verdicts.{Verdict, Fine}
use Rattle.refusals.specs.Lines.{InOrder, verdict, reply}
use Rattle.bench.specs.Refusals.{chain_stuck, is_stuck}
use Rattle.refusals.proofs.Lines.{in_order_lem, passes}
use Rattle.refusals.proofs.Tests.{Sound}
use Rattle.bench.specs.MakeSheet.{sheet_for, cells_in, make_form, make_lines, make_done, make_not, make_outcome}
use Rattle.bench.proofs.Ready.{Ready, ready}
use Rattle.claims.specs.Words.{records_of, network_of}
use Rattle.claims.proofs.Verdicts.{order_before}
use Rattle.claims.proofs.MakeReply.{reply_says, reply_done}
use Rattle.claims.proofs.Written.{IsWritten, outcome_records, outcome_good, outcome_network}

module _ (e : Edition) (d n K : ℕ) (t sheet work : List ℕ) where
  pub make_says : (make_outcome e d n K t sheet work).answer.verdict ≡ verdict (make_lines e d n K t sheet work)
  unfolding make_outcome
  make_says = reply_says e d (cells_in (sheet_for n K t)) sheet work (verdict (make_lines e d n K t sheet work))

  pub record IsMade : Type 0 where
    pub gate : Sound e n K t
    pub desk : d ≤ most_desk
    pub cells : List Cell
    pub chain : sheet_for n K t ≡ made cells
    pub outcome : make_outcome e d n K t sheet work ≡ make_done e d cells sheet work

  -- done: the chain made cells
  pub is_made : (make_outcome e d n K t sheet work).answer.verdict ≡ Fine → IsMade
  unfolding make_outcome
  is_made h = go (sheet_for n K t) refl w.1.1.1.1.1.1.0
    where
      w : InOrder (make_lines e d n K t sheet work)
      w = in_order_lem (make_lines e d n K t sheet work) (sym make_says ∙ h)

      r : Ready e d n K t sheet work
      r = ready e d n K t sheet work
          (order_before (make_form e d n K t sheet work) (chain_stuck (sheet_for n K t) ∷ []) w)

      go : (c : Made) → sheet_for n K t ≡ c → is_stuck c ≡ false → IsMade
      go stuck q g = absurd (clash refl g)
      go (made cs) q g = record {
        gate = r.gate;
        desk = r.desk;
        cells = cs;
        chain = q;
        outcome =
            reply_done e d (cells_in (sheet_for n K t)) sheet work (verdict (make_lines e d n K t sheet work)) h
            ∙ ap (λ (c : Made). make_done e d (cells_in c) sheet work) q;
      }

  -- the other way: form and room are in order, and the chain made cells
  pub not_stuck : InOrder (make_form e d n K t sheet work) → (cs : List Cell) → sheet_for n K t ≡ made cs → (w : IsMade)
      × (w.cells ≡ cs)
  unfolding make_outcome
  not_stuck s cs q = (
    record {
      gate = (ready e d n K t sheet work s).gate;
      desk = (ready e d n K t sheet work s).desk;
      cells = cs;
      chain = q;
      outcome =
          ap (λ (v : Verdict). reply v (make_done e d (cells_in (sheet_for n K t)) sheet work) (make_not sheet work))
          (passes (make_form e d n K t sheet work) (chain_stuck (sheet_for n K t) ∷ []) s)
          ∙ ap (λ (c : Made). reply (verdict (chain_stuck c ∷ [])) (make_done e d (cells_in c) sheet work)
          (make_not sheet work)) q;
    },
    refl,
  )

  module _ (w : IsMade) where
    abbrev one : 1 ≤ K
    one = omega (arith, w.gate.two)

    -- the cells of the chain are written
    pub made_written : IsWritten e d n K t sheet work (make_outcome e d n K t sheet work)
    made_written = record {
      gate = w.gate;
      desk = w.desk;
      cells = w.cells;
      outcome = w.outcome;
      fits = table_fits n K (table_bit t) w.gate.some one w.cells w.chain e w.gate.largest;
      give = table_gives n K (table_bit t) w.gate.some one w.cells w.chain;
      read = table_read n K (table_bit t) w.gate.some one w.cells w.chain;
      few = table-records n K (table_bit t) w.gate.some one w.cells w.chain
          (omega (arith, w.gate.most, w.gate.two));
    }

    -- the first bytes are the sheet of these cells
    pub made_records : records_of e (make_outcome e d n K t sheet work) ≡ sheet_bytes e d w.cells
    unfolding made_written
    made_records = outcome_records e d n K t sheet work (make_outcome e d n K t sheet work) made_written

    -- each cell fits its record, and their network gives the table
    pub made_fits : FitsFrom e n w.cells
    unfolding made_written
    made_fits = made_written.fits

    pub cells_give : Gives n K (table_bit t) w.cells
    unfolding made_written
    cells_give = made_written.give

    module _ (ok : IsEdition e) where
      pub made_good : Good e d n (sheet_bytes e d w.cells) (length w.cells)
      unfolding made_written
      made_good = outcome_good e d n K t sheet work (make_outcome e d n K t sheet work) made_written ok

      -- read as a network, they are the cells
      pub made_network : network_of e (make_outcome e d n K t sheet work) ≡ w.cells
      unfolding made_written
      made_network = outcome_network e d n K t sheet work (make_outcome e d n K t sheet work) made_written ok
