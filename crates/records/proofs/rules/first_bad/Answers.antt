-- `first_bad` meets its contract. The loop's invariant: no record passed is bad. Assumes nothing.
use mathlib.Core.Path.{◌≡◌, refl, sym, ap, ◌∙◌}
use mathlib.Core.Bool.{not}
use mathlib.Core.List.{List}
use Prim.Native.Nat.{ℕ, ◌+◌}
use native.Mathlib.Omega.{arith}
use lib.ListN.{length}
use borrow.Author.Rules.{rules}
use Rattle.bits.specs.Below.{least}
use Rattle.bits.proofs.Least.{least_more, least_stop}
use Rattle.bits.proofs.Places.{found_at, not_found}
use Rattle.sheets.specs.Record.{byte_at, keeps}
use Rattle.sheets.specs.Sheet.{bad}
use Rattle.sheets.proofs.Places.{record_within, record_length}
use Rattle.records.proofs.rules.first_bad.Goals as goal

pub loop-i-init : goal.loop-i-init
unfolding least
loop-i-init c = refl

pub record_of-requires : goal.record_of-requires
record_of-requires c =
    let a = c.args in (
      c.requires.0,
      omega arith,
      record_within a.e.size c.loop-i.i a.m (length a.s.now)
          (omega arith) c.requires.3,
    )

pub record_ok-requires : goal.record_ok-requires
record_ok-requires c =
    let a = c.args in
    let i = c.loop-i.i in (
      c.requires.0,
      ap length c.record_of.ensures
          ∙ record_length a.e a.s.now i (record_within a.e.size i a.m (length a.s.now) (omega arith)
          c.requires.3),
    )

pub returns-then-not-record_ok : goal.returns-then-not-record_ok
returns-then-not-record_ok c =
    let a = c.args in
    let i = c.loop-i.i in
    let y = ap not (c.record_ok.ensures
    ∙ ap (λ (b : List ℕ). keeps a.e a.d (a.n + i) (byte_at b)) c.record_of.ensures) in
    let first : least a.m (bad a.e a.d a.n a.s.now) ≡ i =
    least_stop i a.m (bad a.e a.d a.n a.s.now) c.loop-i.invariant (sym y ∙ ap not c.if-not-record_ok.true)
    (omega arith) in
    found_at a.m i _ (omega arith) first

pub loop-i-preserved : goal.loop-i-preserved
loop-i-preserved c =
    let a = c.args in
    let i = c.loop-i.i in
    let y = ap not (c.record_ok.ensures
    ∙ ap (λ (b : List ℕ). keeps a.e a.d (a.n + i) (byte_at b)) c.record_of.ensures) in
    least_more i (bad a.e a.d a.n a.s.now) c.loop-i.invariant (sym y ∙ ap not c.if-not-record_ok.false)

pub returns : goal.returns
returns c =
    let a = c.args in
    let f : c.loop-i.i ≡ a.m = omega arith in
    not_found a.m _ (sym (ap (λ (m : ℕ). least m (bad a.e a.d a.n a.s.now)) f) ∙ c.loop-i.invariant ∙ f)
