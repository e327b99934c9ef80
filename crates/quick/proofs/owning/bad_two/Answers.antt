-- What many points show, of inputs that are not used. Assumes nothing.
use mathlib.Core.Path.{subst}
use Prim.Native.Nat.{ℕ}
use native.Mathlib.Omega.{arith}
use lib.Bits.{bit_or}
use Rattle.bits.specs.Numbers.{bit}
use Rattle.bits.proofs.Machine.{shl_one}
use Rattle.tables.specs.Table.{table_bit}
use Rattle.witness.specs.Witness.{RulesOut}
use Rattle.known.proofs.Keeping.{and-off}
use Rattle.quick.proofs.owning.bad_two.Goals as goal

pub returns-then-used-e-eq0 : goal.returns-then-used-e-eq0
returns-then-used-e-eq0 c h =
    let a = c.args in record {
      rules = subst (λ (m : ℕ). RulesOut a.n (table_bit a.t.now) m (bit a.own) (bit (bit_or a.e a.f)))
          (shl_one 32 a.r (omega (arith, c.requires.1)))
          (c.many_somewhere.ensures h);
      unused = λ j. and-off a.used (bit_or a.e a.f) j (omega (arith, c.if-used-e-eq0.true));
    }
