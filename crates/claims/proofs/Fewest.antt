-- Fewest-cell claims that reach further than one and two cells, over any edition and desk. Assumes nothing.
use mathlib.Core.Path.{◌≡◌, sym, ap, ◌∙◌, subst}
use mathlib.Core.Bool.{Bool, true}
use mathlib.Core.List.{List}
use Prim.Native.Nat.{ℕ, ◌+◌, ◌-◌, ◌*◌, ◌^◌, ◌<◌, ◌≤◌}
use native.Mathlib.Omega.{arith}
use lib.ListN.{length}
use Rattle.bits.specs.Numbers.{bit}
use Rattle.bits.specs.Sets.{size}
use Rattle.bits.proofs.Numbers.{number_ext}
use Rattle.tables.specs.Table.{table_bit}
use Rattle.tables.specs.Depends.{DependsOn}
use Rattle.tables.specs.Counting.{AllCount, support}
use Rattle.sheets.specs.declared.kinds.Edition.{Edition}
use Rattle.sheets.specs.Edition.{IsEdition}
use Rattle.sheets.specs.Network.{Cell, Carries}
use Rattle.sheets.specs.Reading.{reads}
use Rattle.chains.specs.Chain.{made}
use Rattle.chains.specs.Aside.{sheet_aside}
use Rattle.fewest.specs.Fewest.{Fewest, Filled}
use Rattle.fewest.specs.Joining.{Joining, joined, join_table}
use Rattle.fewest.proofs.Reach.{reach}
use Rattle.fewest.proofs.Enough.{filled_fewest}
use Rattle.fewest.proofs.Fewest.{table_three, table-enough, pairs_fewest}
use Rattle.fewest.proofs.Joining.{joining_fewest}
use Rattle.refusals.specs.Verdicts.{Fine}
use Rattle.refusals.specs.Lines.{InOrder}
use Rattle.bench.specs.MakeSheet.{sheet_for, make_form, make_outcome}
use Rattle.bench.proofs.Ready.{ready}
use Rattle.claims.specs.Words.{network_of}
use Rattle.claims.proofs.Made.{IsMade, is_made, not_stuck, made_network}
use Rattle.claims.proofs.MakeSheet.{made_gives}

-- the reach of m cells: they carry no table that depends on more than m(K - 1) + 1 inputs (`reach`, fewest)
pub cells_reach : (n K m : ℕ) (F : ℕ → Bool) (S : ℕ → Bool) → ((j : ℕ) → j < n → S j ≡ true → DependsOn n F j)
    → Carries n K m F → size n S ≤ m * (K - 1) + 1
cells_reach = reach

module _ (e : Edition) (ok : IsEdition e) (d n K : ℕ) (t sheet work : List ℕ) where
  -- ---- done

  module _ (done : (make_outcome e d n K t sheet work).answer.verdict ≡ Fine) where
    w : IsMade e d n K t sheet work
    w = is_made e d n K t sheet work done

    -- every sheet of at most three cells is the fewest: were one or two enough, it would have so many (`table_three`,
    -- fewest)
    pub made_three : (make_outcome e d n K t sheet work).answer.count ≤ 3
        → Fewest n K (table_bit t) (network_of e (make_outcome e d n K t sheet work))
    made_three = rw (made_network e d n K t sheet work w ok, w.outcome)
        (table_three n K (table_bit t) w.gate.some (omega (arith, w.gate.two)) w.cells w.chain)

    -- with one cell less the inputs that count could not be reached: the sheet is the fewest (`table-enough`, fewest)
    pub made_enough : (length (network_of e (make_outcome e d n K t sheet work)) - 1) * (K - 1) + 1
        < size n (bit (support n (table_bit t)))
        → Fewest n K (table_bit t) (network_of e (make_outcome e d n K t sheet work))
    made_enough = rw (made_network e d n K t sheet work w ok)
        (table-enough n K (table_bit t) w.gate.some (omega (arith, w.gate.two)) w.cells w.chain)

    -- full cells that read no signal twice are the fewest, where the output depends on each input (`filled_fewest`,
    -- fewest)
    pub made_filled : AllCount n (table_bit t) → Filled K (network_of e (make_outcome e d n K t sheet work))
        → ((s : ℕ) → reads s (network_of e (make_outcome e d n K t sheet work)) ≤ 1)
        → Fewest n K (table_bit t) (network_of e (make_outcome e d n K t sheet work))
    made_filled all = filled_fewest n K (table_bit t) (network_of e (make_outcome e d n K t sheet work)) all
        (made_gives e d n K t sheet work ok done)

    -- with cells of two inputs every sheet is the fewest (`pairs_fewest`, fewest)
    pub made_pairs : K ≡ 2 → Fewest n K (table_bit t) (network_of e (make_outcome e d n K t sheet work))
    made_pairs two =
        rw (made_network e d n K t sheet work w ok)
        (subst (λ (k : ℕ). Fewest n k (table_bit t) w.cells) (sym two)
        (pairs_fewest n (table_bit t) w.cells w.gate.some
        (subst (λ (k : ℕ). sheet_for n k t ≡ made w.cells) two w.chain)))

  -- ---- AND, OR, XOR of any size, and every other table that joins its inputs by one operation: make is done, with the
  -- fewest cells (`joining_fewest`, fewest)
  pub joining_made : InOrder (make_form e d n K t sheet work) → (op : Bool → Bool → Bool) (u : Bool) → Joining op u
      → ((x : ℕ) → x < 2 ^ n → table_bit t x ≡ joined op u n (bit x))
      → ((make_outcome e d n K t sheet work).answer.verdict ≡ Fine)
      × Fewest n K (table_bit t) (network_of e (make_outcome e d n K t sheet work))
  joining_made form op u j same = let g = (ready e d n K t sheet work form).gate
      in go (joining_fewest op u j n K g.some g.two)
    where
      -- what carries the lent table carries the joined one
      carried : (m : ℕ) → Carries n K m (table_bit t) → Carries n K m (λ x. joined op u n (bit x))
      carried m C = let N = C.network in record {
        cells = C.cells;
        count = C.count;
        network = record { some = N.some; wired = N.wired; gives = λ x h. N.gives x h ∙ same x h };
      }

      go : (cs : List Cell) × (sheet_aside n K (join_table op u n) ≡ made cs) × Fewest n K (λ x. joined op u n (bit x)) cs
          → ((make_outcome e d n K t sheet work).answer.verdict ≡ Fine)
          × Fewest n K (table_bit t) (network_of e (make_outcome e d n K t sheet work))
      go p =
          let w = not_stuck e d n K t sheet work form p.0
          (ap (sheet_aside n K) (number_ext (2 ^ n) (table_bit t) (λ x. joined op u n (bit x)) same) ∙ p.1) in
          let done = ap (λ o. o.answer.verdict) w.0.outcome in (
            done,
            record {
              network = made_gives e d n K t sheet work ok done;
              least = rw (made_network e d n K t sheet work w.0 ok, w.1) (λ m C. p.2.least m (carried m C));
            },
          )
