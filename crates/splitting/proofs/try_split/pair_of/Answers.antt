-- `pair_of` meets its contract: where the split breaks decides, and a possible split has its fixed pair. Assumes
-- nothing.
use mathlib.Core.Path.{◌≡◌, sym, ap, ap₂, ◌∙◌}
use mathlib.Core.Bool.{Bool, true, false, not, cond}
use mathlib.Core.List.{List, [], ◌∷◌}
use Prim.Native.Nat.{ℕ, ◌*◌, ◌%◌, ◌^◌, ◌≤◌}
use native.Mathlib.Omega.{arith}
use lib.ListN.{length}
use lib.Pow.{pow_mono}
use Rattle.std.proofs.Common.{Option, Some, None}
use Rattle.bits.specs.Numbers.{bit}
use Rattle.bits.proofs.Machine.{shl_one}
use Rattle.tables.specs.Table.{table_bit}
use Rattle.tables.proofs.Bytes.{length-holds}
use Rattle.columns.specs.declared.split.Split.{Split}
use Rattle.charts.specs.Cells.{no_cells}
use Rattle.charts.specs.declared.pair.FirstCells.{FirstCells}
use Rattle.columns.specs.declared.columns.Broken.{Broken}
use Rattle.splits.specs.Columns.{most_first, columns, few_columns, first_broken}
use Rattle.columns.specs.Broken.{broken_at, found_break}
use Rattle.columns.proofs.Breaking.{break_is, no_break}
use Rattle.refusals.specs.Verdicts.{Fine, Refused}
use Rattle.refusals.specs.Lines.{refusal, naming, verdict, reply}
use Rattle.splitting.specs.TrySplit.{TryOutcome, try_done, try_not}
use Rattle.splitting.proofs.Sets.{bytes_H}
use Rattle.splitting.proofs.try_split.pair_of.Goals as goal

module _ (s : Split) (r : ℕ) (t : List ℕ) where
  abbrev few : Bool
  few = few_columns s.n (table_bit t) (bit s.own) (bit s.shared) (2 ^ r)

  abbrev first : ℕ
  first = first_broken s.n (table_bit t) (bit s.own) (bit s.shared) (2 ^ r)

  -- what is answered as the test says
  abbrev answered : List ℕ → Bool → TryOutcome
  answered room b =
      reply (verdict (naming 8 first (not b) ∷ [])) (try_done s.n r s.own s.shared t room)
      (try_not s.n s.own s.shared t room)

  -- where the split breaks, as the test says
  abbrev broken : Bool → Broken
  broken b = cond b (record { b = 0; columns = 0 })
      (record { b = first; columns = length (columns s.n (table_bit t) (bit s.own) (bit s.shared) first) })

  -- the limit as the code makes it
  module _ (most : r ≤ most_first) where
    limit_is : found_break (broken_at s.n (table_bit t) (bit s.own) (bit s.shared) (1 * 2 ^ r % 2 ^ 64))
        ≡ found_break (broken_at s.n (table_bit t) (bit s.own) (bit s.shared) (2 ^ r))
    limit_is = ap (λ (m : ℕ). found_break (broken_at s.n (table_bit t) (bit s.own) (bit s.shared) m))
        (shl_one 64 r (omega arith))

    breaks : {w : Broken} {o : Option Broken} → o ≡ Some w
        → o ≡ found_break (broken_at s.n (table_bit t) (bit s.own) (bit s.shared) (1 * 2 ^ r % 2 ^ 64))
        → (w ≡ broken false) × (few ≡ false)
    breaks e told =
        let q = break_is s.n (table_bit t) (bit s.own) (bit s.shared) (2 ^ r) (sym e ∙ told ∙ limit_is) in
        (q.0 ∙ ap broken q.1, q.1)

    holds : {o : Option Broken} → o ≡ None
        → o ≡ found_break (broken_at s.n (table_bit t) (bit s.own) (bit s.shared) (1 * 2 ^ r % 2 ^ 64))
        → few ≡ true
    holds e told = no_break s.n (table_bit t) (bit s.own) (bit s.shared) (2 ^ r) (sym e ∙ told ∙ limit_is)

pub break_of-requires : goal.break_of-requires
break_of-requires c =
    let p = c.requires.candidate in record {
      limit_bound = (
        omega (
          arith,
          shl_one 64 c.args.r (omega (arith, p.2)),
          pow_mono {i = c.args.r} {j = most_first}
              p.2,
        ),
        omega (arith, p.1, length-holds c.args.s.n),
      );
      own_bound = omega (arith, p.0.most);
    }

pub returns-in-Some : goal.returns-in-Some
returns-in-Some c =
    let a = c.args in
    let w = breaks a.s a.r a.t.now c.requires.candidate.2 c.in-Some.is c.break_of.ensures in
    let e = w.1 in
    let q = w.0 in
    ap (λ (w : Broken). record {
      answer = record { verdict = Refused (refusal 8 w.b); d = no_cells; columns = w.columns };
      room = a.room.now;
    }) q
    ∙ ap (answered a.s a.r a.t.now a.room.now) (sym e)

pub bytes_of_h-requires : goal.bytes_of_h-requires
bytes_of_h-requires c = let p = c.requires.candidate in (c.args.s.most, c.args.s.below_a, p.0.more, p.2)

pub put_pair-requires : goal.put_pair-requires
put_pair-requires c =
    let b = c.bytes_of_h.ensures in
    let p = c.requires.candidate in record {
      n_bound = (
        omega (arith, p.1, length-holds c.args.s.n),
        p.0,
        p.2,
        omega (arith, b.0, c.requires.own_in_bounds),
        b.1,
      );
      end_value = b.0 ∙ bytes_H p.0 (table_bit c.args.t.now);
      r_value = holds c.args.s c.args.r c.args.t.now p.2 c.in_default.is c.break_of.ensures;
    }

pub returns : goal.returns
returns c =
    let a = c.args in
    ap₂ (λ (d : FirstCells) (l : List ℕ). record { answer = record { verdict = Fine; d = d; columns = 0 }; room = l })
    c.put_pair.ensures.0 c.put_pair.ensures.1
    ∙ ap (answered a.s a.r a.t.now a.room.now)
    (sym (holds a.s a.r a.t.now c.requires.candidate.2 c.in_default.is c.break_of.ensures))
