-- `put_all` meets its contract. The loop's invariant: the records passed are written, and the bytes after them stay.
-- Assumes nothing.
use mathlib.Core.Path.{◌≡◌, refl, sym, ap, ◌∙◌}
use mathlib.Core.List.{List, ◌++◌}
use Prim.Native.Nat.{ℕ, ◌+◌, ◌*◌}
use native.Mathlib.Omega.{arith}
use lib.ListN.{length, drop}
use Rattle.sheets.specs.Network.{Cell}
use Rattle.bits.specs.Lists.{list_of}
use Rattle.sheets.specs.Writing.{encode, laid, sheet_bytes}
use Rattle.bits.proofs.Lists.{length-list, list_more}
use Rattle.sheets.proofs.Places.{record_within}
use Rattle.sheets.proofs.Wholes.{few_held, laid_next}
use Rattle.sheets.proofs.writing.put_all.Invariants.{at}
use Rattle.sheets.proofs.writing.put_all.Goals as goal

pub loop-i-init : goal.loop-i-init
unfolding list_of
loop-i-init c =
    let a = c.args in
    let z : 0 ≡ a.e.size * 0 = omega arith in
    (refl, ap (λ (k : ℕ). drop k a.out.now) z)

pub put-requires : goal.put-requires
put-requires c =
    let i = c.loop-i.i in
    let a = c.args in (
      c.requires.0,
      few_held a.e.most a.sheet c.requires.2 i (omega arith),
      omega arith,
      omega (arith, record_within a.e.size i a.sheet.count (length a.out.now) (omega arith) c.requires.3),
    )

pub loop-i-preserved : goal.loop-i-preserved
loop-i-preserved c =
    let a = c.args in
    let i = c.loop-i.i in (
      c.put.auto.sheet ∙ c.loop-i.invariant.0,
      c.put.ensures
          ∙ ap (λ (l : List ℕ). laid l (a.e.size * i) (encode a.e a.d (at a.sheet i))) c.loop-i.invariant.1
          ∙ laid_next a.e a.d (list_of i (at a.sheet)) (at a.sheet i) a.out.now i (length-list i (at a.sheet))
          ∙ ap (λ (cs : List Cell). sheet_bytes a.e a.d cs ++ drop (a.e.size * (i + 1)) a.out.now)
          (sym (list_more i (at a.sheet))),
    )

pub returns : goal.returns
returns c =
    let a = c.args in
    let f : c.loop-i.i ≡ a.sheet.count = omega arith in
    c.loop-i.invariant.1 ∙ ap (λ (k : ℕ). sheet_bytes a.e a.d (list_of k (at a.sheet))
    ++ drop (a.e.size * k) a.out.now) f
