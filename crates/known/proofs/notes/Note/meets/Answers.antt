-- `&` of two masks is 0 exactly where they have no position in common. Assumes nothing.
use Rattle.std.proofs.Common.{arith, eqb-true}
use Rattle.known.proofs.Keeping.{and-meets}
use Rattle.known.proofs.notes.Note.meets.Goals as goal

pub returns-then-self-own-eq0 : goal.returns-then-self-own-eq0
returns-then-self-own-eq0 c e =
    let a = c.args in
    and-meets a.self.own a.self.free a.own a.both (omega arith) (omega arith) c.if-self-own-eq0.true (eqb-true _ _ e)
