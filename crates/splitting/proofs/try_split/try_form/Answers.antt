-- `try_form` meets its contract: each return is the first line that holds, or that none does. Assumes nothing.
use mathlib.Core.Path.{◌≡◌, sym, ◌∙◌, subst}
use mathlib.Core.Bool.{false}
use mathlib.Core.List.{List, [], ◌∷◌, ◌++◌}
use Prim.Native.Nat.{ℕ, ◌+◌, ◌-◌, ◌<◌, ◌≤◌}
use native.Mathlib.Omega.{arith}
use lib.ListN.{length}
use lib.Pow.{pow_mono}
use borrow.Author.Tests.{lt-ltb, le-ltb}
use Rattle.bits.specs.Numbers.{bit}
use Rattle.bits.specs.Sets.{size}
use Rattle.tables.specs.Table.{most_inputs, table_length, table_bit}
use Rattle.splits.specs.Pair.{inputs_h}
use Rattle.sheets.specs.declared.kinds.Edition.{Edition}
use Rattle.refusals.specs.Verdicts.{Verdict, Fine}
use Rattle.refusals.specs.Lines.{Line, verdict}
use Rattle.refusals.specs.Refusals.{gate_lines, bad_sets, short_room}
use Rattle.refusals.proofs.Lines.{First, fine, here, later, in_order_lem, decided}
use Rattle.refusals.proofs.Tests.{Sound, sound}
use Rattle.splitting.proofs.Sets.{candidate, most_first_lem, bytes_H}
use Rattle.refusals.proofs.Results.{said_ok, handed_on, stopped_by}
use Rattle.splitting.proofs.try_split.try_form.Goals as goal

module _ (e : Edition) (n K r A B : ℕ) (t room : List ℕ) where
  abbrev ls : List Line
  ls = gate_lines e n K t

  abbrev last : List Line
  last = short_room n r A B t room ∷ []

  abbrev ms : List Line
  ms = bad_sets n K r A B ∷ last

  -- the gate is in order, as a look at it comes to v: the sets and the room decide
  module _ {v : Verdict} (told : v ≡ verdict ls) (through : v ≡ Fine) where
    looked : Sound e n K t
    looked = sound e n K t (in_order_lem ls (sym told ∙ through))

    past : {w : Verdict} → First ms w → w ≡ verdict (ls ++ ms)
    past = decided ls ms _ told through

    -- so are the sets, and the bytes are those of H's table: the room decides
    module _ (good : (bad_sets n K r A B).holds ≡ false) where
      beyond : {w : Verdict} → First last w → w ≡ verdict (ls ++ ms)
      beyond h = past (later good h)

      bytes : {m : ℕ} → m ≡ table_length (n + r - size n (bit A))
          → m ≡ table_length (inputs_h n (table_bit t) (bit A) (bit B) r)
      bytes h = h ∙ bytes_H (candidate n K r A B good K (omega arith)) (table_bit t)

pub returns-in_err-gate : goal.returns-in_err-gate
returns-in_err-gate c =
    let a = c.args in
    handed_on _ _ c.from_residual.ensures.1
    ∙ stopped_by (ls a.e a.n a.k a.r a.own a.shared a.t.now a.room.now)
    (ms a.e a.n a.k a.r a.own a.shared a.t.now a.room.now) _ c.gate.ensures _ c.in_err-gate.was

pub bad_sets-requires : goal.bad_sets-requires
bad_sets-requires c =
    let a = c.args in
    (looked a.e a.n a.k a.r a.own a.shared a.t.now a.room.now c.gate.ensures (said_ok _ _ c.in_ok-gate.was)).most

pub overflow_cast-inputs : goal.overflow_cast-inputs
overflow_cast-inputs c = omega (arith, bad_sets-requires c)

pub overflow_cast-k : goal.overflow_cast-k
overflow_cast-k c =
    let a = c.args in
    let w = looked a.e a.n a.k a.r a.own a.shared a.t.now a.room.now c.gate.ensures (said_ok _ _ c.in_ok-gate.was) in
    omega (arith, w.largest, c.requires.eight)

pub returns-then-bad_sets : goal.returns-then-bad_sets
returns-then-bad_sets c =
    let a = c.args in
    past a.e a.n a.k a.r a.own a.shared a.t.now a.room.now c.gate.ensures (said_ok _ _ c.in_ok-gate.was)
    (here (sym c.bad_sets.ensures ∙ c.if-bad_sets.true))

pub bytes_of_h-requires : goal.bytes_of_h-requires
bytes_of_h-requires c =
    let a = c.args in
    let w = looked a.e a.n a.k a.r a.own a.shared a.t.now a.room.now c.gate.ensures (said_ok _ _ c.in_ok-gate.was) in
    let good = sym c.bad_sets.ensures ∙ c.if-bad_sets.false in
    let s = candidate a.n a.k a.r a.own a.shared good a.e.most w.largest in
    (w.most, s.below_a, s.more, most_first_lem a.n a.k a.r a.own a.shared good)

pub overflow_cast-r : goal.overflow_cast-r
overflow_cast-r c = omega (arith, (bytes_of_h-requires c).3)

pub overflow_cast-own : goal.overflow_cast-own
overflow_cast-own c =
    let a = c.args in
    let w = bytes_of_h-requires c in
    omega (arith, w.1, pow_mono {i = a.n} {j = most_inputs} w.0)

pub returns-then-room-bytes_of_h : goal.returns-then-room-bytes_of_h
returns-then-room-bytes_of_h c =
    let a = c.args in
    let l = length a.room.now in
    let f = said_ok _ _ c.in_ok-gate.was in
    let good = sym c.bad_sets.ensures ∙ c.if-bad_sets.false in
    beyond a.e a.n a.k a.r a.own a.shared a.t.now a.room.now c.gate.ensures f good
    (here (lt-ltb l _ (subst (λ (m : ℕ). l < m)
    (bytes a.e a.n a.k a.r a.own a.shared a.t.now a.room.now c.gate.ensures f good c.bytes_of_h.ensures.0)
    c.if-room-bytes_of_h.true)))

pub returns : goal.returns
returns c =
    let a = c.args in
    let l = length a.room.now in
    let f = said_ok _ _ c.in_ok-gate.was in
    let good = sym c.bad_sets.ensures ∙ c.if-bad_sets.false in
    beyond a.e a.n a.k a.r a.own a.shared a.t.now a.room.now c.gate.ensures f good
    (later (le-ltb l _ (subst (λ (m : ℕ). m ≤ l)
    (bytes a.e a.n a.k a.r a.own a.shared a.t.now a.room.now c.gate.ensures f good c.bytes_of_h.ensures.0)
    c.if-room-bytes_of_h.false)) fine)
