-- `try_in` meets its contract: what form and room refuse, else the fixed pair. Assumes nothing.
use Rattle.std.proofs.Common.{Result}
use mathlib.Core.Path.{◌≡◌, refl, sym, ap, ◌∙◌, subst}
use mathlib.Core.List.{List, [], ◌∷◌}
use Prim.Native.Nat.{ℕ, ◌+◌, ◌-◌, ◌≤◌}
use native.Mathlib.Omega.{arith}
use lib.ListN.{length}
use lib.Pow.{pow_mono}
use borrow.Author.Tests.{ltb-false}
use Rattle.bits.specs.Numbers.{bit}
use Rattle.bits.specs.Sets.{size}
use Rattle.tables.specs.Table.{most_inputs, table_length, table_bit}
use Rattle.splits.specs.Columns.{most_first}
use Rattle.best.specs.Best.{Candidate}
use Rattle.sheets.specs.declared.kinds.Edition.{Edition}
use Rattle.sheets.specs.Edition.{largest_cell}
use Rattle.charts.specs.declared.pair.FirstCells.{FirstCells}
use Rattle.refusals.specs.Verdicts.{Fine}
use Rattle.refusals.specs.declared.verdicts.Refusal.{Refusal as Why}
use Rattle.refusals.specs.Lines.{verdict, reply}
use Rattle.refusals.specs.Refusals.{bad_sets, short_room, not_possible}
use Rattle.splitting.specs.TrySplit.{try_answer, try_form, try_done, try_not, try_outcome}
use Rattle.refusals.proofs.Lines.{in_order_lem, left_to}
use Rattle.refusals.proofs.Tests.{Sound, sound_before}
use Rattle.splitting.proofs.Sets.{candidate, most_first_lem, carried, bytes_H, refused_before}
use Rattle.refusals.proofs.Results.{said_ok, refused_with}
use Rattle.splitting.proofs.try_split.try_in.Goals as goal

-- what form and room let through
record Through (e : Edition) (n K r A B : ℕ) (t room : List ℕ) : Type 0 where
  gate : Sound e n K t
  sets : Candidate n largest_cell r A B
  most : r ≤ most_first
  long : table_length (n + r - size n (bit A)) ≤ length room

through : (e : Edition) (n K r A B : ℕ) (t room : List ℕ) → e.most ≤ largest_cell
    → verdict (try_form e n K r A B t room) ≡ Fine → Through e n K r A B t room
through e n K r A B t room most h =
    let w = (in_order_lem (try_form e n K r A B t room) h).1.1.1.1 in
    let g = sound_before e n K t (bad_sets n K r A B ∷ short_room n r A B t room ∷ []) _ (sym h) refl in
    let s = candidate n K r A B w.0 largest_cell (omega (arith, g.largest)) in
    record {
      gate = g;
      sets = s;
      most = most_first_lem n K r A B w.0;
      long = subst (λ (m : ℕ). m ≤ length room) (sym (bytes_H s (table_bit t))) (ltb-false (length room) _ w.1.0);
    }

pub returns-in_err-try_form : goal.returns-in_err-try_form
unfolding try_outcome
returns-in_err-try_form c =
    let a = c.args in
    ap (λ (r : Result FirstCells Why). record { answer = try_answer r; room = a.room.now })
    (refused_with _ _ c.from_residual.ensures.1)
    ∙ refused_before (try_form a.e a.n a.k a.r a.own a.shared a.t.now a.room.now)
    (not_possible a.n a.r a.own a.shared a.t.now ∷ []) refl a.n a.own a.shared a.t.now
    a.room.now (try_done a.n a.r a.own a.shared a.t.now a.room.now) _ _ c.try_form.ensures c.in_err-try_form.was

pub of-requires : goal.of-requires
of-requires c =
    let a = c.args in
    let w = through a.e a.n a.k a.r a.own a.shared a.t.now a.room.now c.requires.eight
    (sym c.try_form.ensures ∙ (said_ok _ _ c.in_ok-try_form.was)) in
    (w.gate.most, w.sets.below_a, w.sets.below_b, w.sets.apart)

pub overflow_cast-own : goal.overflow_cast-own
overflow_cast-own c =
    let w = of-requires c in omega
    (arith, w.1, pow_mono {i = c.args.n} {j = most_inputs} w.0)

pub overflow_cast-shared : goal.overflow_cast-shared
overflow_cast-shared c =
    let w = of-requires c in omega
    (arith, w.2, pow_mono {i = c.args.n} {j = most_inputs} w.0)

pub overflow_cast-r : goal.overflow_cast-r
overflow_cast-r c =
    let a = c.args in
    omega (
      arith,
      (through a.e a.n a.k a.r a.own a.shared a.t.now a.room.now c.requires.eight
          (sym c.try_form.ensures ∙ (said_ok _ _ c.in_ok-try_form.was))).most,
    )

pub pair_of-requires : goal.pair_of-requires
pair_of-requires c =
    let o = c.of.ensures in
    let a = c.args in
    let w = through a.e a.n a.k a.r a.own a.shared a.t.now a.room.now c.requires.eight
    (sym c.try_form.ensures ∙ (said_ok _ _ c.in_ok-try_form.was)) in record {
      candidate = (
        carried (λ (n A B : ℕ). Candidate n largest_cell a.r A B) (sym o.1) (sym o.2) (sym o.3)
            w.sets,
        w.gate.long ∙ ap table_length (sym o.1),
        w.most,
      );
      own_in_bounds = carried (λ (n A B : ℕ). table_length (n + a.r - size n (bit A)) ≤ length a.room.now) (sym o.1)
          (sym o.2) (sym o.3) w.long;
    }

pub returns : goal.returns
unfolding try_outcome
returns c =
    let o = c.of.ensures in
    let a = c.args in
    carried
    (λ (n A B : ℕ).
    record { answer = try_answer c.pair_of.result; room = c.pair_of.new.room }
    ≡ reply (verdict (not_possible n a.r A B a.t.now ∷ [])) (try_done n a.r A B a.t.now a.room.now)
    (try_not n A B a.t.now a.room.now))
    o.1 o.2 o.3 c.pair_of.ensures
    ∙ left_to (try_form a.e a.n a.k a.r a.own a.shared a.t.now a.room.now)
    (not_possible a.n a.r a.own a.shared a.t.now ∷ [])
    (try_done a.n a.r a.own a.shared a.t.now a.room.now)
    (try_not a.n a.own a.shared a.t.now a.room.now) _ c.try_form.ensures
    (said_ok _ _ c.in_ok-try_form.was)

pub overflow_cast-n : goal.overflow_cast-n
overflow_cast-n c = omega (arith, (of-requires c).0)
