-- `witness::six::placed` meets its contract: what it masks off is where the points agree. Assumes nothing.
use Rattle.std.proofs.Common.{arith, sym, ◌∙◌, eqb-true}
use Rattle.bits.proofs.Machine.{shl_one}
use Rattle.witness.proofs.Points.{and-placed}
use Rattle.witness.proofs.six.placed.Goals as goal
use Rattle.witness.proofs.six.placed.Goals.{then-w-all-4, else-w-all-4}

pub returns-then-w-other : goal.returns-then-w-other
returns-then-w-other c e =
    let a = c.args in
    let all = shl_one 32 a.n (omega arith) in
    elim c.if-w-all-4.branch [
      | else-w-all-4 w ↦ absurd (cc)
      | then-w-all-4 w ↦
          let few = w.if-w-all-4.true in
          and-placed a.n a.own a.w.x a.w.y a.w.z a.w.d c.requires (omega arith)
          (omega (arith, all, few)) (omega (arith, all, few)) (omega (arith, all, few)) (omega (arith, all, few))
          (eqb-true _ _ (sym w.value-is ∙ c.if-w-other.true)) (eqb-true _ _ e)
    ]
