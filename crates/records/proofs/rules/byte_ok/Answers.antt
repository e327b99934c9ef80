-- `byte_ok` meets its contract: each return answers the test of one kind of byte. Assumes nothing.
use mathlib.Core.Path.{◌≡◌, refl, sym, ap, ap₂, ◌∙◌}
use mathlib.Core.Bool.{Bool, ◌&&◌, ◌||◌}
use Prim.Native.Nat.{ℕ, ◌+◌, ◌-◌}
use native.Mathlib.Omega.{arith}
use lib.Dec.{ltb, eqb}
use lib.Pow.{pow_mono}
use borrow.Author.Tests.{lt-ltb, le-ltb, eq-eqb, ne_eqb}
use Rattle.bits.proofs.Machine.{shl_one}
use Rattle.sheets.specs.Record.{byte_ok, spare_ok}
use Rattle.sheets.proofs.Keeping.{signal_byte, unused_byte, desk_byte, zero-byte, table-byte}
use Rattle.records.proofs.rules.byte_ok.Lts as lts
use Rattle.records.proofs.rules.byte_ok.Reads as reads
use Rattle.records.proofs.rules.byte_ok.Tie as tie
use Rattle.records.proofs.rules.byte_ok.Goals as goal

-- the byte of a signal that is read
signal : (c : lts.Then2 tie.the-claims reads.Pre reads.Post) {known first : Bool} → let a = c.args in ltb a.x a.top ≡ known
    → eqb a.j 0 ≡ first → (known && (first || ltb a.p a.x))
    ≡ byte_ok a.e a.d a.top a.k a.j a.p a.x
signal c h g =
    let a = c.args in
    sym (signal_byte a.e a.d a.top a.k a.j a.p a.x c.if-j-e.true c.if-j-k.true
    ∙ ap₂ (λ (t u : Bool). t && (u || ltb a.p a.x)) h g)

pub returns-then-j-e : goal.returns-then-j-e
returns-then-j-e c =
    let a = c.args in sym (unused_byte a.e a.d a.top a.k a.j a.p a.x c.if-j-e.true c.if-j-k.false)

pub returns-then-j-e-2 : goal.returns-then-j-e-2
returns-then-j-e-2 c =
    let a = c.args in sym (desk_byte a.e a.d a.top a.k a.j a.p a.x c.if-j-e-2.true)

pub returns-then-j-e-3 : goal.returns-then-j-e-3
returns-then-j-e-3 c =
    let a = c.args in sym (zero-byte a.e a.d a.top a.k a.j a.p a.x (omega arith) c.if-j-e-3.true)

pub spare_ok-requires : goal.spare_ok-requires
spare_ok-requires c =
    let k = c.args.k in
    let h = c.requires.0.eight in
    (omega (arith, shl_one 64 k (omega arith), pow_mono {i = k} {j = 8} (omega arith)), omega (arith, c.requires.0.short))

pub returns : goal.returns
returns c =
    let a = c.args in
    c.spare_ok.ensures ∙ ap (λ (w : ℕ). spare_ok w (a.j + 1 - a.e.start) a.x)
    (shl_one 64 a.k (omega (arith, c.requires.0.eight)))
    ∙ sym (table-byte a.e a.d a.top a.k a.j a.p a.x (omega arith) (omega arith))

pub returns-then-top-x : goal.returns-then-top-x
returns-then-top-x c = signal c.before (le-ltb _ _ c.if-top-x.true) refl

pub returns-then-j-eq0 : goal.returns-then-j-eq0
returns-then-j-eq0 c =
    signal c.before.before (lt-ltb _ _ c.if-top-x.false) (eq-eqb _ 0 c.if-j-eq0.true)

pub returns-then-j-k : goal.returns-then-j-k
returns-then-j-k c =
    signal c.before.before (lt-ltb _ _ c.if-top-x.false) (ne_eqb _ 0 c.if-j-eq0.false)
