-- `look` meets its contract: each return is one line of what a look says. Assumes nothing.
use mathlib.Core.Path.{◌≡◌, refl, sym, ◌∙◌}
use native.Mathlib.Nat.{le_of_eq, le_antisymm}
use native.Mathlib.Omega.{arith}
use Rattle.sheets.proofs.Looks.{counted, bad-empty, bad_odd, bad_long, right_length}
use Rattle.bits.proofs.Least.{is_least}
use Rattle.bits.proofs.Places.{found_there, found_nowhere}
use Rattle.sheets.specs.Sheet.{bad, records}
use Rattle.records.proofs.rules.look.Goals as goal

pub returns-then-len-eq0 : goal.returns-then-len-eq0
returns-then-len-eq0 c = let a = c.args in bad-empty a.e a.s.now c.if-len-eq0.true

pub returns-then-len-e-ne0 : goal.returns-then-len-e-ne0
returns-then-len-e-ne0 c = let a = c.args in bad_odd a.e a.s.now c.if-len-e-ne0.true

pub returns-then-e-len : goal.returns-then-e-len
returns-then-e-len c = let a = c.args in bad_long a.e a.s.now c.if-e-len.true

pub first_bad-requires : goal.first_bad-requires
first_bad-requires c =
    let a = c.args in
    let n = counted a.e c.requires.0 a.s.now c.if-len-e-ne0.false c.if-e-len.false in
    (c.requires.0, n.most, c.requires.1, le_of_eq n.whole)

pub returns-in-Some : goal.returns-in-Some
returns-in-Some c =
    let a = c.args in
    let m = records a.e a.s.now in
    let w = found_there m _ _ (sym c.first_bad.ensures ∙ c.in-Some.is) in (
      right_length a.e a.s.now c.if-len-eq0.false
          c.if-len-e-ne0.false c.if-e-len.false,
      w.0,
      w.1,
    )

pub returns-in-None : goal.returns-in-None
returns-in-None c =
    let a = c.args in
    let m = records a.e a.s.now in
    let far = found_nowhere m _ (sym c.first_bad.ensures ∙ c.in-None.is) in (
      right_length a.e a.s.now c.if-len-eq0.false
          c.if-len-e-ne0.false c.if-e-len.false,
      le_antisymm (is_least m (bad a.e a.d a.n a.s.now)).within far,
      refl,
    )
