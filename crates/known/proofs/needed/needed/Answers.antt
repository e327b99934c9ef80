-- Each turn adds what the table says of one pair; a member less is left. Assumes nothing.
use Rattle.std.proofs.Common.{ℕ, sym, subst, arith}
use Rattle.bits.proofs.Machine.{bit-set}
use Rattle.known.specs.Notes.{Adds}
use Rattle.known.proofs.Keeping.{adds_both, adds_pair}
use Rattle.known.proofs.needed.needed.Goals as goal
use Rattle.known.proofs.needed.needed.Goals.{then-acc-i-eq1, else-acc-i-eq1}

pub loop-x-preserved : goal.loop-x-preserved
loop-x-preserved c =
    let a = c.args in
    let l = c.loop-x in
    let adds : ℕ → Type 0 = Adds a.pairs.now a.acc a.j a.need in
    elim c.if-acc-i-eq1.branch [
      | then-acc-i-eq1 w ↦ subst adds (sym w.more-is) (adds_both _ _ _ l.invariant (adds_pair _ a.acc a.j _ l.more
          (omega arith) c.requires (bit-set a.acc _ w.if-acc-i-eq1.true)))
      | else-acc-i-eq1 w ↦ subst adds (sym w.more-is) l.invariant
    ]
