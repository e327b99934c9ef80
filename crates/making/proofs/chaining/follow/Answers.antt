-- The loop keeps that behind the cells so far stands the chain of the table at hand. Assumes nothing.
use mathlib.Core.Path.{◌≡◌, refl, sym, ap, ap₂, ◌∙◌, subst}
use mathlib.Core.Bool.{Bool}
use Rattle.std.proofs.Common.{Option, Some, None}
use mathlib.Core.List.{[], ◌∷◌, ◌++◌}
use Prim.Native.Nat.{ℕ, ◌^◌}
use native.Mathlib.Omega.{arith}
use lib.Pow.{pow_mono}
use Rattle.bits.specs.Numbers.{number}
use Rattle.tables.specs.Cells.{cell_words, table_number}
use Rattle.tables.proofs.CellTables.{words_joined}
use Rattle.columns.specs.declared.split.Split.{Split}
use Rattle.choices.specs.declared.over.Chosen.{Chosen}
use Rattle.choices.specs.Search.{choice, best_up_to}
use Rattle.choices.proofs.Best.{upto_best}
use Rattle.sheets.specs.Network.{Cell}
use Rattle.sheets.specs.Held.{network_cell}
use Rattle.chains.specs.Chain.{Made, stuck, made, last_cell}
use Rattle.making.specs.declared.chaining.ChainEnd.{ChainEnd}
use Rattle.making.specs.Stage.{signals_of}
use Rattle.making.specs.Area.{at_hand}
use Rattle.making.specs.Chaining.{Tells}
use Rattle.making.proofs.Halves.{half_whole, half-bits}
use Rattle.making.proofs.Piling.{grown_piled}
use Rattle.making.proofs.Following.{following_starts, following_stops, following_shrinks}
use Rattle.making.proofs.Following.{following_goes, following_ends, split_sound}
use Rattle.making.proofs.chaining.follow.Goals as goal

pub loop-stage-init : goal.loop-stage-init
loop-stage-init c = (
  following_starts c.args.n c.args.most c.args.k (record { pile = c.empty.result; signals = c.args.start })
      c.args.work.now c.requires.n_le_most_inputs.4 c.empty.ensures
      c.requires.some.0 c.requires.some.1,
  refl,
)

pub overflow_cast-m : goal.overflow_cast-m
overflow_cast-m c = omega (arith, c.loop-stage.stage.signals.few)

pub slice_bounds-find_upto-end : goal.slice_bounds-find_upto-end
slice_bounds-find_upto-end c = omega (arith, c.loop-stage.invariant.0.long)

pub slice_bounds-find_upto-end-in-loop-stage : goal.slice_bounds-find_upto-end-in-loop-stage
slice_bounds-find_upto-end-in-loop-stage c =
    let q = c.loop-stage in sym (half_whole q.work q.invariant.0.long)

pub find_upto-requires : goal.find_upto-requires
find_upto-requires c =
    let q = c.loop-stage in (
      q.stage.signals.few,
      c.requires.n_le_most_inputs.1,
      half-bits q.work q.invariant.0.long q.stage.signals.count q.stage.signals.few,
      omega (arith, c.requires.n_le_most_inputs.3),
    )

-- of a chain that is stuck nothing is told
told_none : {r : Option ChainEnd} {whole : Made} → r ≡ None → whole ≡ stuck → Tells r whole
told_none {r} {whole} e h = subst (λ (o : Option ChainEnd). Tells o whole) (sym e) (subst (Tells None) (sym h) tt)

pub returns-in_err-found : goal.returns-in_err-found
returns-in_err-found c =
    let q = c.loop-stage in
    told_none c.from_residual.ensures (following_stops c.args.n c.args.most c.args.k _ q.stage q.work q.invariant.0
    c.loop-stage-test.true (sym c.in_err-found.ensures.0))

pub of-s-requires : goal.of-s-requires
of-s-requires c =
    let f = c.in_ok-found.found in
    let q = c.loop-stage in
    let found_split = sym c.in_ok-found.ensures.0 in
    let b = (upto_best q.stage.signals.count c.args.k (at_hand q.work) c.args.most f.first f.own
    f.shared).0 found_split in
    (q.stage.signals.few, b.works.candidate.below_a, b.works.candidate.below_b, b.works.candidate.apart)

-- what was found, of the split that the code made of it
made_split : (n k most : ℕ) (F : ℕ → Bool) (f : Chosen) (s : Split) → choice f.first f.own f.shared ≡ best_up_to n F k most
    → s.own ≡ f.own → s.shared ≡ f.shared → best_up_to n F k most ≡ choice f.first s.own s.shared
made_split n k most F f s e own shared = sym e ∙ ap₂ (choice f.first) (sym own) (sym shared)

pub overflow_add-next : goal.overflow_add-next
overflow_add-next c =
    let q = c.loop-stage in
    omega (arith, q.invariant.0.room, c.requires.n_le_most_inputs.0)

pub overflow_cast-next-in-loop-stage : goal.overflow_cast-next-in-loop-stage
overflow_cast-next-in-loop-stage c =
    let q = c.loop-stage in
    omega (arith, q.invariant.0.room, c.requires.n_le_most_inputs.0)

pub step-stage-requires : goal.step-stage-requires
step-stage-requires c =
    let q = c.loop-stage in
    let u = q.invariant.0 in
    let e = c.of-s.ensures in
    let best = made_split q.stage.signals.count c.args.k c.args.most (at_hand q.work) c.in_ok-found.found c.of-s.result
    c.in_ok-found.ensures.0 c.of-s.ensures.2 c.of-s.ensures.3 in
    let w = split_sound c.of-s.result q.stage.signals.count c.args.most c.args.k c.in_ok-found.found.first (at_hand q.work)
    e.1 c.requires.n_le_most_inputs.3 c.requires.n_le_most_inputs.1 best in
    record {
      n_value = (e.1, u.long, w.some, w.most, w.candidate);
      room = (
        omega (arith, u.room, w.most, u.some, c.requires.n_le_most_inputs.0),
        omega (arith, u.room, w.most, u.some, c.requires.n_le_most_inputs.0),
        w.few,
      );
    }

pub loop-stage-smaller : goal.loop-stage-smaller
loop-stage-smaller c =
    let q = c.loop-stage in
    let best = made_split q.stage.signals.count c.args.k c.args.most (at_hand q.work) c.in_ok-found.found c.of-s.result
    c.in_ok-found.ensures.0 c.of-s.ensures.2 c.of-s.ensures.3 in
    following_shrinks c.args.n c.args.most c.args.k _ q.stage q.work q.invariant.0 c.of-s.result _ c.of-s.ensures.1
    c.loop-stage-test.true c.requires.n_le_most_inputs.1 best c.step-stage.result _ c.step-stage.ensures

pub loop-stage-preserved : goal.loop-stage-preserved
loop-stage-preserved c =
    let q = c.loop-stage in
    let best = made_split q.stage.signals.count c.args.k c.args.most (at_hand q.work) c.in_ok-found.found c.of-s.result
    c.in_ok-found.ensures.0 c.of-s.ensures.2 c.of-s.ensures.3 in (
      following_goes c.args.n c.args.most c.args.k _ q.stage q.work q.invariant.0 c.of-s.result _ c.of-s.ensures.1
          c.loop-stage-test.true c.requires.n_le_most_inputs.1 best c.step-stage.result _ c.step-stage.ensures,
      c.step-stage.ensures.table.long ∙ q.invariant.1,
    )

pub slice_bounds-first_of-end : goal.slice_bounds-first_of-end
slice_bounds-first_of-end c = omega (arith, c.loop-stage.invariant.0.long)

pub slice_bounds-first_of-end-2 : goal.slice_bounds-first_of-end-2
slice_bounds-first_of-end-2 c = let q = c.loop-stage in sym (half_whole q.work q.invariant.0.long)

pub overflow_cast-stage : goal.overflow_cast-stage
overflow_cast-stage c = omega (arith, c.loop-stage.stage.signals.few)

pub first_of-requires : goal.first_of-requires
first_of-requires c =
    let q = c.loop-stage in
    (q.stage.signals.few, half-bits q.work q.invariant.0.long q.stage.signals.count q.stage.signals.few)

pub cell-last-requires : goal.cell-last-requires
cell-last-requires c =
    omega (arith, c.requires.n_le_most_inputs.3, c.loop-stage-test.false)

pub with_cell-whole-requires : goal.with_cell-whole-requires
with_cell-whole-requires c =
    omega (arith, c.loop-stage.invariant.0.room, c.requires.n_le_most_inputs.0)

pub shape_of-work : goal.shape_of-work
shape_of-work c = c.loop-stage.invariant.1

pub returns : goal.returns
returns c =
    let q = c.loop-stage in
    let u = q.invariant.0 in
    let held = words_joined cell_words q.stage.signals.count (at_hand q.work)
    (omega (arith, pow_mono {i = q.stage.signals.count} {j = 8} (omega (arith, c.requires.n_le_most_inputs.3, c.loop-stage-test.false)))) in
    let cell : network_cell c.cell-last.result
    ≡ last_cell (signals_of q.stage.signals) (number (2 ^ q.stage.signals.count) (at_hand q.work)) =
    c.cell-last.ensures.0 ∙ ap (last_cell (signals_of q.stage.signals)) (ap table_number c.first_of.ensures ∙ held)
    in
    let p = grown_piled c.with_cell-whole.ensures u.piled in
    subst (Tells (Some (record { count = c.with_cell-whole.result.count; sheet = c.with_cell-whole.result.sheet })))
    (ap (λ (d : Cell). made (u.written ++ (d ∷ []))) cell
    ∙ sym (following_ends c.args.n c.args.most c.args.k _ q.stage q.work u
    c.loop-stage-test.false))
    (p.count, λ few. p.held (omega (arith, p.count)))
