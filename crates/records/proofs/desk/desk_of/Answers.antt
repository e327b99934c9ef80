-- `desk_of` meets its contract: the first record's byte, as it lies in the sheet. Assumes nothing.
use mathlib.Core.Path.{sym, ◌∙◌}
use native.Mathlib.Omega.{arith}
use lib.ListN.{get_or-eq_default}
use Rattle.sheets.proofs.Desks.{desk_said, desk_none, desk_lies}
use Rattle.records.proofs.desk.desk_of.Goals as goal

pub returns-then-s-at : goal.returns-then-s-at
returns-then-s-at c =
    let a = c.args in
    let q = desk_lies a.e a.s.now c.requires ∙ get_or-eq_default a.s.now 0 c.if-s-at.true in
    sym (desk_said a.e a.s.now (omega (arith, q)) ∙ q)

pub returns-then-d-le-DESKS : goal.returns-then-d-le-DESKS
returns-then-d-le-DESKS c =
    let a = c.args in
    let q = desk_lies a.e a.s.now c.requires in
    sym (desk_said a.e a.s.now (omega (arith, q, c.if-d-le-DESKS.true)) ∙ q)

pub returns : goal.returns
returns c =
    let a = c.args in
    sym (desk_none a.e a.s.now (omega (arith, desk_lies a.e a.s.now c.requires, c.if-d-le-DESKS.false)))
