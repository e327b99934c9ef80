-- What is kept was shown by six bits, or by many points. Assumes nothing.
use mathlib.Core.Path.{sym, ap, subst}
use Prim.Native.Nat.{ℕ, ◌*◌, ◌^◌, ◌≤◌}
use lib.ListN.{length}
use Rattle.witness.proofs.Points.{said_no}
use Rattle.walks.proofs.Learning.{learned_one}
use Rattle.walks.proofs.walk.learn.Goals as goal

pub look-requires : goal.look-requires
look-requires c = subst (λ (n : ℕ). 2 ^ n ≤ 8 * length c.args.t.now) (sym c.of.ensures.1) c.requires.known.long

pub returns : goal.returns
returns c =
    learned_one c.requires.known 2 _ c.args.own c.args.shared _
    (sym (ap (λ (r : ℕ). 2 ^ r) c.if-r-ne1.false))
    (c.shows.ensures (c.if-not-shows.false)) c.keep.ensures c.requires.own_bound.2
    c.meets.ensures

pub learn_many-requires : goal.learn_many-requires
learn_many-requires c = c.requires

pub returns-then-r-ne1 : goal.returns-then-r-ne1
returns-then-r-ne1 c = c.learn_many.ensures

pub returns-then-two_alone : goal.returns-then-two_alone
returns-then-two_alone c = (said_no, c.requires.known)

pub of-requires : goal.of-requires
of-requires c =
    (c.requires.known.most, c.requires.own_bound.0, c.requires.own_bound.1, c.requires.own_bound.2)

pub returns-in_default : goal.returns-in_default
returns-in_default c = (said_no, c.requires.known)

pub returns-then-not-shows : goal.returns-then-not-shows
returns-then-not-shows c = (
  said_no,
  c.requires.known,
)
