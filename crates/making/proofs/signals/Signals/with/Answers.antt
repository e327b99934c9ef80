-- One place more is written. Assumes nothing.
use mathlib.Core.Path.{refl}
use native.Mathlib.Omega.{arith}
use Rattle.bits.proofs.Lists.{list_set}
use Rattle.making.proofs.signals.Signals.with.Goals as goal

pub returns : goal.returns
returns c =
    let s = c.args.self in (
      list_set (λ x. x) s.at s.count c.args.signal 0 (omega (arith, s.places, c.requires)),
      refl,
    )
