-- `run_form` meets its contract: what lines 1, 9 and 10 refuse, else line 11, else 15. Assumes nothing.
use mathlib.Core.Path.{◌≡◌, sym, ◌∙◌}
use mathlib.Core.List.{List, [], ◌∷◌}
use Prim.Native.Nat.{ℕ, ◌^◌, ◌*◌, ◌%◌, ◌<◌, ◌≤◌}
use native.Mathlib.Omega.{arith}
use borrow.Author.Tests.{le-leb, lt-leb}
use Rattle.bits.proofs.Machine.{shl_one}
use Rattle.tables.specs.Table.{most_inputs}
use Rattle.sheets.specs.declared.kinds.Edition.{Edition}
use Rattle.refusals.specs.Lines.{Line}
use Rattle.refusals.specs.Refusals.{bad_inputs, sheet_lines, bad_assignment, unread_record}
use Rattle.refusals.proofs.Lines.{here, passes, goes_on, decided}
use Rattle.refusals.proofs.Results.{said_ok, handed_on, stopped_by}
use Rattle.refusals.proofs.Tests.{sheet_through}
use Rattle.running.proofs.run_sheet.run_form.Goals as goal

-- the lines of the first look, and those behind them
abbrev ls : Edition → ℕ → ℕ → List ℕ → List Line
ls e d n s = bad_inputs n ∷ sheet_lines e d n s

abbrev last : Edition → ℕ → List ℕ → List Line
last e n s = unread_record e n s ∷ []

abbrev ms : Edition → ℕ → List ℕ → ℕ → List Line
ms e n s x = bad_assignment n x ∷ last e n s

-- how many assignments there are, where the first look lets n through
size : (n : ℕ) → n ≤ most_inputs → 1 * 2 ^ n % 2 ^ 64 ≡ 2 ^ n
size n h = shl_one 64 n (omega arith)

pub returns-in_err-sheet_for : goal.returns-in_err-sheet_for
returns-in_err-sheet_for c =
    let a = c.args in
    handed_on _ _ c.from_residual.ensures.1
    ∙ stopped_by (ls a.e a.d a.n a.s.now) (ms a.e a.n a.s.now a.x) _ c.sheet_for.ensures _ c.in_err-sheet_for.was

pub returns-then-n-x : goal.returns-then-n-x
returns-then-n-x c =
    let a = c.args in
    let w = sheet_through a.e a.d a.n a.s.now _ c.sheet_for.ensures (said_ok _ _ c.in_ok-sheet_for.was) in
    let far : 2 ^ a.n ≤ a.x = omega (arith, c.if-n-x.true, size a.n w.0) in
    decided (ls a.e a.d a.n a.s.now) (ms a.e a.n a.s.now a.x) _ c.sheet_for.ensures (said_ok _ _ c.in_ok-sheet_for.was)
    (here (le-leb (2 ^ a.n) a.x far))

pub returns : goal.returns
returns c =
    let a = c.args in
    let w = sheet_through a.e a.d a.n a.s.now _ c.sheet_for.ensures (said_ok _ _ c.in_ok-sheet_for.was) in
    let near : a.x < 2 ^ a.n = omega (arith, c.if-n-x.false, size a.n w.0) in
    goes_on (ls a.e a.d a.n a.s.now) (ms a.e a.n a.s.now a.x) _ c.sheet_for.ensures (said_ok _ _ c.in_ok-sheet_for.was)
    (c.all_read.ensures
    ∙ sym (passes (bad_assignment a.n a.x ∷ []) (last a.e a.n a.s.now) (lt-leb (2 ^ a.n) a.x near, tt)))

pub overflow_shl-n : goal.overflow_shl-n
overflow_shl-n c =
    let a = c.args in
    omega (arith, (sheet_through a.e a.d a.n a.s.now _ c.sheet_for.ensures (said_ok _ _ c.in_ok-sheet_for.was)).0)

pub overflow_cast-n : goal.overflow_cast-n
overflow_cast-n c =
    let a = c.args in
    omega (arith, (sheet_through a.e a.d a.n a.s.now _ c.sheet_for.ensures (said_ok _ _ c.in_ok-sheet_for.was)).0)

pub all_read-requires : goal.all_read-requires
all_read-requires c =
    let a = c.args in
    let w = sheet_through a.e a.d a.n a.s.now _ c.sheet_for.ensures (said_ok _ _ c.in_ok-sheet_for.was) in
    (c.requires, w.0, w.1)
