-- `make` meets its contract: the value is stored, and the variable noted. Assumes nothing.
use Rattle.following.proofs.Trailing.{making}
use Rattle.following.proofs.trail.make.Goals as goal

pub returns-clause-trail : goal.returns-clause-trail
returns-clause-trail c =
    λ all σ p q t. making all c.args.from c.args.set c.args.l σ c.args.work.now c.put_four.new.area p q c.requires.1 c.put_four.ensures t
