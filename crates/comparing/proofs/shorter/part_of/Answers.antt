-- `part_of` meets its contract: what is handed back is the whole of the slice named, or none of the first. Assumes
-- nothing.
use mathlib.Core.Path.{refl}
use borrow.Author.Tests.{eq-eqb, ne_eqb}
use Rattle.comparing.proofs.shorter.part_of.Goals as goal

pub returns-then-which-eq1 : goal.returns-then-which-eq1
returns-then-which-eq1 c = rw (eq-eqb _ 1 c.if-which-eq1.true) refl

pub returns-then-which-eq2 : goal.returns-then-which-eq2
returns-then-which-eq2 c = rw (ne_eqb _ 1 c.if-which-eq1.false, eq-eqb _ 2 c.if-which-eq2.true) refl

pub returns : goal.returns
returns c = rw (ne_eqb _ 1 c.if-which-eq1.false, ne_eqb _ 2 c.if-which-eq2.false) refl
