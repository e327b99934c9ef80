-- `record_ok` meets its contract. The loop's invariant: every byte passed is as the rules ask. Assumes nothing.
use mathlib.Core.Path.{◌≡◌, sym, ap, ◌∙◌}
use Prim.Native.Nat.{ℕ, ◌-◌}
use native.Mathlib.Omega.{arith}
use Rattle.bits.specs.Below.{every}
use Rattle.bits.proofs.Below.{every_more, every_stop}
use Rattle.sheets.specs.Record.{byte_at}
use Rattle.sheets.proofs.Keeping.{keeps-none, keeps_many, keeps-every}
use Rattle.records.proofs.rules.record_ok.Invariants.{asked}
use Rattle.records.proofs.rules.record_ok.Goals as goal

pub returns-then-k-lt1 : goal.returns-then-k-lt1
returns-then-k-lt1 c = let a = c.args
    in sym (keeps-none a.e a.d a.top (byte_at a.b.now) c.if-k-lt1.true)

pub returns-then-e-k : goal.returns-then-e-k
returns-then-e-k c = let a = c.args
    in sym (keeps_many a.e a.d a.top (byte_at a.b.now) (omega arith) (omega arith))

pub returns-then-not-byte_ok : goal.returns-then-not-byte_ok
returns-then-not-byte_ok c =
    let a = c.args in
    sym (keeps-every a.e a.d a.top (byte_at a.b.now) (omega arith) (omega arith)
    ∙ every_stop (a.e.size - 1) (asked a.e a.d a.top a.b.now) c.loop-j.j (omega arith)
    (sym c.byte_ok.ensures ∙ c.if-not-byte_ok.true))

pub loop-j-preserved : goal.loop-j-preserved
loop-j-preserved c =
    let a = c.args in
    every_more c.loop-j.j (asked a.e a.d a.top a.b.now) c.loop-j.invariant
    (sym c.byte_ok.ensures ∙ c.if-not-byte_ok.false)

pub returns : goal.returns
returns c =
    let a = c.args in
    let f : c.loop-j.j ≡ a.e.size - 1 = omega arith in
    sym (keeps-every a.e a.d a.top (byte_at a.b.now) (omega arith) (omega arith)
    ∙ sym (ap (λ (m : ℕ). every m (asked a.e a.d a.top a.b.now)) f) ∙ c.loop-j.invariant)
