-- Every Signals has as many places as a gate has inputs, and counts no more. Assumes nothing.
use Rattle.making.specs.declared.signals.Signals.{Signals}
use Rattle.making.specs.Stage.{Listed}

pub listed_of : (s : Signals) → Listed s
listed_of s = record { places = s.places; few = s.few }
