-- `bad_table` meets its contract: the length is compared with the table's. Assumes nothing.
use mathlib.Core.Path.{ap}
use mathlib.Core.Bool.{not}
use Prim.Native.Nat.{ℕ}
use lib.Dec.{eqb}
use lib.ListN.{length}
use Rattle.refusals.proofs.form.bad_table.Goals as goal

pub returns : goal.returns
returns c = ap (λ (l : ℕ). not (eqb (length c.args.t.now) l)) c.length_for.ensures
