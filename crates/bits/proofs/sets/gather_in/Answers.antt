-- The loop keeps, below j, the size of the mask and the gathered bits. Assumes nothing.
use native.Mathlib.Omega.{arith}
use Rattle.bits.proofs.Packing.{gathering, packed_none, packed_all, packed_fits, packed_more}
use Rattle.bits.proofs.sets.gather_in.Goals as goal

pub loop-j-preserved : goal.loop-j-preserved
loop-j-preserved c = packed_more (gathering _ _) _ c.loop-j.invariant c.requires (omega arith)

pub loop-j-init : goal.loop-j-init
loop-j-init c = packed_none (gathering _ _) _

pub overflow_add-r : goal.overflow_add-r
overflow_add-r c =
    record { fits = packed_fits (gathering _ _) _ c.loop-j.invariant c.requires (omega arith) }

pub returns : goal.returns
returns c = packed_all (gathering _ _) _ c.loop-j.invariant (omega arith)
