-- A lower bound on the cells of a table: what is claimed of it, in a told edition. That no network has fewer cells is
-- said of networks alone, without splits or the search. Assumes nothing.
use mathlib.Core.Path.{◌≡◌, refl, sym, ap, ◌∙◌, subst}
use mathlib.Core.Bool.{Bool, true, false, beq}
use mathlib.Core.List.{List, [], ◌∷◌}
use Prim.Native.Nat.{ℕ, ◌+◌, ◌-◌, ◌*◌, ◌<◌, ◌≤◌}
use native.Mathlib.Omega.{arith}
use lib.Dec.{ltb}
use lib.ListN.{length, get_or, replicate}
use borrow.Author.Tests.{ltb-true}
use Rattle.bits.specs.Numbers.{bit, number}
use Rattle.bits.specs.Below.{every, least}
use Rattle.bits.specs.Sets.{size, disjoint, gather, spread}
use Rattle.bits.specs.Lists.{list_of}
use Rattle.bits.proofs.Bools.{beq_same}
use Rattle.bits.proofs.Below.{every_at}
use Rattle.tables.specs.Table.{table_bit}
use Rattle.tables.specs.Counting.{counts, support, kept, table_over}
use Rattle.splits.specs.Columns.{firsts, assign, column, columns, few_columns}
use Rattle.splits.specs.Pair.{code, code_at, table_d, bit_h, table_h}
use Rattle.best.specs.Search.{first, try_b, try_a, best}
use Rattle.best.specs.Counting.{best_counting}
use Rattle.choices.specs.Search.{first_over}
use Rattle.sheets.specs.declared.kinds.Edition.{Edition}
use Rattle.sheets.specs.Edition.{IsEdition, edition_of}
use Rattle.sheets.specs.Network.{Cell, output, run, Gives, Carries}
use Rattle.sheets.proofs.Wiring.{cells_length}
use Rattle.chains.specs.Chain.{pick, step, stuck, made}
use Rattle.chains.specs.Aside.{kept_signals, kept_table, chain_aside, cells_aside}
use Rattle.fewest.specs.Fewest.{Fewest}
use Rattle.chains.proofs.Aside.{sheet_stuck}
use Rattle.refusals.specs.Verdicts.{Refusal, Fine, Refused}
use Rattle.refusals.specs.Lines.{InOrder, verdict, number_of}
use Rattle.refusals.proofs.Lines.{in_order_lem}
use Rattle.refusals.proofs.Lent.{form_leaves}
use Rattle.refusals.proofs.Tests.{Sound, sound}
use Rattle.bounds.specs.Bound.{counted, Bound}
use Rattle.bounds.specs.Least.{cell_bound}
use Rattle.bounds.specs.BoundCells.{BoundAnswer, BoundOutcome, bound_done, bound_not, bound_lines, bound_outcome}
use Rattle.bounds.proofs.Bound.{least_bound}
use Rattle.bounds.proofs.Sound.{bound_sound, bound_once, bound_reaches, bound_asks, bound_fewest, bound_made}
use Rattle.bounds.proofs.Sound.{bound_carried, bound_three, fewest_bound, three_bound, enough_bound, pairs_bound}
use Rattle.bounds.proofs.Sound.{stuck_bound}
use Rattle.bench.specs.MakeSheet.{sheet_for, make_form, make_outcome}
use Rattle.any_gate.specs.MakeAny.{any_outcome}
use Rattle.claims.specs.Words.{ByLines, records_of, network_of}
use Rattle.claims.proofs.Verdicts.{says_verdict, is_done, is_refused_lem, by_lines}
use Rattle.claims.proofs.Made.{IsMade, is_made, not_stuck}
use Rattle.claims.proofs.MakeSheet.{made_gives, made_blocked, blocked_refused}
use Rattle.claims.proofs.MakeAny.{any_network_gives, any_fewest}

module _ (w n K : ℕ) (t work : List ℕ) where
  says : (bound_outcome w n K t work).answer.verdict ≡ verdict (bound_lines w n K t work)
  unfolding bound_outcome
  says = says_verdict (λ (o : BoundOutcome). o.answer.verdict) (bound_done n K t work) (bound_not work) refl (λ r. refl)
      (verdict (bound_lines w n K t work))

  -- the verdict is that of 1, of 2 for the edition, and of lines 1 to 4 and 6 in that edition
  pub bound_lines_lem : ByLines (bound_outcome w n K t work).answer.verdict (bound_lines w n K t work)
  bound_lines_lem = by_lines (bound_lines w n K t work) refl (bound_outcome w n K t work).answer.verdict says

  -- refused: the bound is 0, and the work area is as it was found
  pub bound_refused : (r : Refusal) → (bound_outcome w n K t work).answer.verdict ≡ Refused r
      → ((bound_outcome w n K t work).answer.least ≡ 0) × ((bound_outcome w n K t work).work ≡ work)
  unfolding bound_outcome
  bound_refused r h =
      let q = is_refused_lem (λ (o : BoundOutcome). o.answer.verdict) (bound_done n K t work) (bound_not work) refl
      (λ u. refl) (verdict (bound_lines w n K t work)) r h in (
        ap (λ o. o.answer.least) q,
        ap (λ o. o.work) q
            ∙ form_leaves (bound_lines w n K t work) r refl (sym says ∙ h) work,
      )

  -- two outcomes that keep the promise are equal: the answer, and the work area afterwards
  pub bounded_once : (a a' : BoundAnswer) (l l' : List ℕ) → record { answer = a; work = l } ≡ bound_outcome w n K t work
      → record { answer = a'; work = l' } ≡ bound_outcome w n K t work → (a ≡ a') × (l ≡ l')
  bounded_once a a' l l' p q = (ap (λ o. o.answer) (p ∙ sym q), ap (λ o. o.work) (p ∙ sym q))

  -- ---- done
  module _ (done : (bound_outcome w n K t work).answer.verdict ≡ Fine) where
    abbrev F : ℕ → Bool
    F = table_bit t

    -- the bound
    abbrev L : ℕ
    L = (bound_outcome w n K t work).answer.least

    is : bound_outcome w n K t work ≡ bound_done n K t work
    unfolding bound_outcome
    is = is_done (λ (o : BoundOutcome). o.answer.verdict) (bound_done n K t work) (bound_not work) refl (λ r. refl)
        (verdict (bound_lines w n K t work)) done

    gate : Sound (edition_of w) n K t
    gate = let o = (in_order_lem (bound_lines w n K t work) (sym says ∙ done)).1.1
        in sound (edition_of w) n K t (o.0, (o.1.0, (o.1.1.0, (o.1.1.1.0, tt))))

    some : 1 ≤ K
    some = omega (arith, gate.two)

    -- the whole of the work area is zeros
    pub bound_clears : (bound_outcome w n K t work).work ≡ replicate (length work) 0
    bound_clears = ap (λ o. o.work) is

    -- it is the bound in words (`least_bound`, bounds), and there is one only (`bound_once`, bounds)
    pub bound_is : Bound n K F L
    bound_is = subst (Bound n K F) (sym (ap (λ o. o.answer.least) is)) (least_bound n K F gate.some gate.two)

    pub bound_only : (M : ℕ) → Bound n K F M → M ≡ L
    bound_only M b = bound_once n K F b bound_is

    -- every network that carries the table, wired in any way at all, has so many cells at least (`bound_sound`, bounds)
    pub bound_below : (m : ℕ) → Carries n K m F → L ≤ m
    bound_below = bound_sound n K F some bound_is

    -- a network of so many cells has the fewest (`bound_fewest`, bounds)
    pub bound_met : (cs : List Cell) → Gives n K F cs → length cs ≤ L → Fewest n K F cs
    bound_met = bound_fewest n K F some bound_is

    -- 1 or 2: so many cells carry the table (`bound_carried`, bounds)
    pub small_carried : L ≤ 2 → Carries n K L F
    small_carried = bound_carried n K F gate.some gate.two bound_is

    -- ---- it never falls short of what was known of networks

    -- demand 3: where neither one nor two cells carry the table, 3 or more (`bound_three`, bounds)
    pub bound_from_three : (Carries n K 1 F → ⊥) → (Carries n K 2 F → ⊥) → 3 ≤ L
    bound_from_three = bound_three n K F gate.some gate.two bound_is

    -- the reach of m cells: L cells reach the inputs that count, and no number below what these ask for (`bound_asks`,
    -- bounds)
    pub bound_reach : counted n F ≤ L * (K - 1) + 1
    bound_reach = bound_reaches n K F some bound_is

    pub bound_from_reach : (m : ℕ) → (m - 1) * (K - 1) + 1 < counted n F → m ≤ L
    bound_from_reach = bound_asks n K F some bound_is

    -- ---- the sheet that make writes, in any edition and for any desk
    module _ (e : Edition) (ok : IsEdition e) (d : ℕ) (sheet room : List ℕ) where
      -- 1 or 2, and form and room in order: make is done, and writes so many cells (`bound_made`, bounds)
      pub small_made : L ≤ 2 → InOrder (make_form e d n K t sheet room)
          → ((make_outcome e d n K t sheet room).answer.verdict ≡ Fine)
          × ((make_outcome e d n K t sheet room).answer.count ≡ L)
      small_made h form = go (bound_made n K F gate.some gate.two bound_is h)
        where
          go : (cs : List Cell) × (sheet_for n K t ≡ made cs) × (length cs ≡ L)
              → ((make_outcome e d n K t sheet room).answer.verdict ≡ Fine)
              × ((make_outcome e d n K t sheet room).answer.count ≡ L)
          go p = let m = not_stuck e d n K t sheet room form p.0 p.1 in (
            ap (λ o. o.answer.verdict) m.0.outcome,
            ap (λ o. o.answer.count) m.0.outcome ∙ ap length m.1 ∙ p.2,
          )

      module _ (ready : (make_outcome e d n K t sheet room).answer.verdict ≡ Fine) where
        m : IsMade e d n K t sheet room
        m = is_made e d n K t sheet room ready

        count : (make_outcome e d n K t sheet room).answer.count ≡ length m.cells
        count = ap (λ o. o.answer.count) m.outcome

        -- a sheet of so many cells has the fewest
        pub count_fewest : (make_outcome e d n K t sheet room).answer.count ≤ L
            → Fewest n K F (network_of e (make_outcome e d n K t sheet room))
        count_fewest h =
            bound_met (network_of e (make_outcome e d n K t sheet room)) (made_gives e d n K t sheet room ok ready)
            (omega (
              arith,
              cells_length e (records_of e (make_outcome e d n K t sheet room)) 0
                  (make_outcome e d n K t sheet room).answer.count,
            ))

        -- a sheet of at most three cells has so many (`three_bound`, bounds)
        pub three_count : (make_outcome e d n K t sheet room).answer.count ≤ 3
            → (make_outcome e d n K t sheet room).answer.count ≡ L
        three_count h = count ∙ three_bound n K F gate.some gate.two bound_is m.cells m.chain
            (omega (arith, count))

        -- so has one with no more cells than the inputs that count ask for (`enough_bound`, bounds)
        pub enough-count : ((make_outcome e d n K t sheet room).answer.count - 1) * (K - 1) + 1 < counted n F
            → (make_outcome e d n K t sheet room).answer.count ≡ L
        enough-count h =
            count ∙ enough_bound n K F gate.some gate.two bound_is m.cells m.chain
            (subst (λ (k : ℕ). (k - 1) * (K - 1) + 1 < counted n F) count h)

        -- E9: and every one with K = 2 (`pairs_bound`, bounds)
        pub pairs-count : K ≡ 2 → (make_outcome e d n K t sheet room).answer.count ≡ L
        pairs-count two = count ∙ pairs_bound n K F gate.some gate.two bound_is m.cells m.chain two

      -- where make with K = 2 is refused as 8 it is as many as inputs count (`stuck_bound`, bounds)
      pub refused_count : K ≡ 2 → number_of (make_outcome e d n K t sheet room).answer.verdict ≡ 8 → L ≡ counted n F
      refused_count two h =
          stuck_bound n K F gate.some gate.two bound_is two
          ((sheet_stuck n K F gate.some some).1 (made_blocked e d n K t sheet room h))

      -- the same of a sheet that make_any writes, with several first cells where one is too few
      module _ (ready : (any_outcome e d n K t sheet room).answer.verdict ≡ Fine) where
        long : length (network_of e (any_outcome e d n K t sheet room)) ≡ (any_outcome e d n K t sheet room).answer.count
        long = cells_length e (records_of e (any_outcome e d n K t sheet room)) 0
            (any_outcome e d n K t sheet room).answer.count

        pub any_count_fewest : (any_outcome e d n K t sheet room).answer.count ≤ L
            → Fewest n K F (network_of e (any_outcome e d n K t sheet room))
        any_count_fewest h = bound_met (network_of e (any_outcome e d n K t sheet room))
            (any_network_gives e d n K t sheet room ready ok) (omega (arith, long))

        pub any_three_count : (any_outcome e d n K t sheet room).answer.count ≤ 3
            → (any_outcome e d n K t sheet room).answer.count ≡ L
        any_three_count h =
            sym long
            ∙ fewest_bound n K F gate.some gate.two bound_is (network_of e (any_outcome e d n K t sheet room))
            (any_fewest e d n K t sheet room ready ok h) (omega (arith, long))

-- ---- where so many cells carry the table, and make is not done: document 01's chain takes one first cell at each
-- step, of which D is 0 at (0,b)

-- n = 5, K = 3, table FE 55 C8 00
abbrev pub five : List ℕ
five = 0xFE ∷ 0x55 ∷ 0xC8 ∷ 0x00 ∷ []

-- three cells: two of them over inputs alone, and the last
abbrev pub three_cells : List Cell
three_cells =
    record { signals = 0 ∷ 1 ∷ 3 ∷ []; table = 0x0C }
    ∷ record { signals = 0 ∷ 2 ∷ 3 ∷ []; table = 0x5E }
    ∷ record { signals = 4 ∷ 5 ∷ 6 ∷ []; table = 0xD4 }
    ∷ []

below : (l : List ℕ) (i : ℕ) → every (length l) (λ j. ltb (get_or l j 0) i) ≡ true → (j : ℕ) → j < length l → get_or l j 0
    < i
below l i e j h = ltb-true (get_or l j 0) i (every_at (length l) (λ j. ltb (get_or l j 0) i) e j h)

five_same : every 32 (λ x. beq (run false 5 three_cells (bit x)) (table_bit five x)) ≡ true
unfolding run output number
five_same = refl

pub five_carried : Gives 5 3 (table_bit five) three_cells
five_carried = record {
  some = omega arith;
  wired = (
    omega arith,
    below (0 ∷ 1 ∷ 3 ∷ []) 5 refl,
    (omega arith, below (0 ∷ 2 ∷ 3 ∷ []) 6 refl, (omega arith, below (4 ∷ 5 ∷ 6 ∷ []) 7 refl, tt)),
  );
  gives = λ x h. beq_same (run false 5 three_cells (bit x)) (table_bit five x)
      (every_at 32 (λ x. beq (run false 5 three_cells (bit x)) (table_bit five x)) five_same x h);
}

-- the bound is 3: they are the fewest
five_bound : cell_bound 5 3 (table_bit five) ≡ 3
unfolding cell_bound best_counting spread best first try_a try_b disjoint few_columns columns column assign firsts number
    size gather support counts table_over least
five_bound = refl

pub five_fewest : Fewest 5 3 (table_bit five) three_cells
five_fewest =
    bound_fewest 5 3 (table_bit five) (omega arith)
    (subst (Bound 5 3 (table_bit five)) five_bound (least_bound 5 3 (table_bit five) (omega arith) (omega arith)))
    three_cells five_carried
    (omega arith)

-- and make is refused as 8, in every edition and for every desk
five_stuck : sheet_for 5 3 five ≡ stuck
unfolding cells_aside chain_aside step first_over kept_signals kept_table kept support counts table_over pick list_of best
    first try_a try_b disjoint few_columns table_d table_h code_at code bit_h columns column assign firsts number size gather
    spread least
five_stuck = refl

pub five_refused : (e : Edition) (d : ℕ) (sheet work : List ℕ) → InOrder (make_form e d 5 3 five sheet work)
    → number_of (make_outcome e d 5 3 five sheet work).answer.verdict ≡ 8
five_refused e d sheet work form = blocked_refused e d 5 3 five sheet work form
    ((sheet_stuck 5 3 (table_bit five) (omega arith) (omega arith)).0 five_stuck)
