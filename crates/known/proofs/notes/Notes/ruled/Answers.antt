-- The note that rules out changes places with another. Assumes nothing.
use Rattle.std.proofs.Common.{List, ◌<◌, length, arith, ap, sym, subst}
use Rattle.std.proofs.lemmas.List.Elements.{Contains-get_or}
use Rattle.known.specs.declared.notes.Note.{Note}
use Rattle.known.specs.declared.notes.Notes.{Notes}
use Rattle.known.specs.Notes.{Learned, Skips}
use Rattle.known.proofs.Keeping.{learned_swap}
use Rattle.known.proofs.notes.Notes.ruled.Goals as goal

pub returns-then-meets-clause-skips : goal.returns-then-meets-clause-skips
returns-then-meets-clause-skips c _ =
    let l = c.loop-i in
    let in' : l.i < length l.self.list = omega (arith, ap (λ (s : Notes). length s.list) l.invariant) in
    subst (λ (s : Notes). Skips s c.args.own c.args.both) l.invariant (record {
      note = _;
      kept = Contains-get_or l.self.list l.i _ in';
      meets = c.meets.ensures c.if-meets.true;
    })

pub returns-then-meets-clause-stays_learned : goal.returns-then-meets-clause-stays_learned
returns-then-meets-clause-stays_learned c n m F w =
    let l = c.loop-i in
    let in' : l.i < length l.self.list = omega (arith, ap (λ (s : Notes). length s.list) l.invariant) in
    subst (λ (list : List Note). Learned n F m (record { list = list; kept = l.self.kept })) (sym c.swap.ensures.after)
    (learned_swap l.self l.i _ in' (omega arith) (subst (Learned n F m) (sym l.invariant) w))
