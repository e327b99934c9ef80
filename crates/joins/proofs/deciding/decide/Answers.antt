-- The loop keeps what is left reduced, and the partner of j that was found there. Assumes nothing.
use mathlib.Core.Path.{sym, subst}
use mathlib.Core.Bool.{Bool}
use Prim.Native.Nat.{ℕ}
use Rattle.tables.specs.Table.{table_bit}
use Rattle.joins.specs.declared.pairs.Left.{Left}
use Rattle.joins.specs.declared.deciding.Partner.{Partner}
use Rattle.joins.specs.Left.{gate_left, one_fixed, Partners, Reduced, DecidedFrom}
use Rattle.joins.proofs.Turns.{reduced_fixed, from_fixed, open_fixed, reduced_decided, from_decided}
use Rattle.joins.proofs.deciding.decide.Invariants.{Looked}
use Rattle.joins.proofs.deciding.decide.Goals as goal

-- one input more is fixed
looked_fixed : (n : ℕ) (F : ℕ → Bool) (g : Left) (j : ℕ) (p : Partner) → Looked n F g j
    → Partners n (gate_left n F g) g.decided j p → Looked n F (one_fixed g p.input p.value) j
looked_fixed n F g j p w P = record {
  reduced = reduced_fixed n F g w.reduced p.input j P.member w.unfixed w.from p.value P.joins;
  from = from_fixed n F g w.reduced p.input j P.member w.unfixed w.from p.value P.joins;
  unfixed = open_fixed n F g w.reduced p.input j P.member w.unfixed w.from p.value P.joins;
}

pub loop-p-preserved : goal.loop-p-preserved
loop-p-preserved c =
    let a = c.args in
    let l = c.loop-p in
    subst (λ (r : Left). Looked a.n (table_bit a.t.now) r a.j) (sym c.fix-g.ensures)
    (looked_fixed a.n (table_bit a.t.now) l.g a.j c.in-Some.p l.invariant c.in-Some.ensures)

pub returns : goal.returns
returns c =
    let l = c.loop-p in
    let w = l.invariant in
    let n = c.args.n in
    let F = table_bit c.args.t.now in
    let none = c.in_default.ensures in (
      subst (Reduced n F) (sym c.with_decided.ensures)
          (reduced_decided n F l.g w.reduced c.args.j w.unfixed w.from none),
      subst (λ (g : Left). DecidedFrom n g c.args.j) (sym c.with_decided.ensures)
          (from_decided n F l.g w.reduced c.args.j w.unfixed w.from none),
    )
