-- A position goes at each turn.
use Rattle.witness.proofs.pick.highest.Given as goal

abbrev pub decreases-loop-m : goal.decreases-loop-m
decreases-loop-m l = l.m
