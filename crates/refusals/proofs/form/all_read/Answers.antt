-- `all_read` meets its contract: the first unread record is before the last, or there is none. Assumes nothing.
use mathlib.Core.Path.{◌≡◌, sym, ap, ◌∙◌, subst}
use mathlib.Core.List.{[], ◌∷◌}
use Prim.Native.Nat.{ℕ, ◌-◌, ◌<◌, ◌≤◌}
use borrow.Author.Tests.{lt-ltb, le-ltb}
use Rattle.bits.proofs.Places.{found_there, found_nowhere}
use Rattle.sheets.specs.Sheet.{records}
use Rattle.unread.specs.declared.reading.Readers.{Readers}
use Rattle.refusals.specs.Verdicts.{Refused}
use Rattle.refusals.specs.Lines.{refusal}
use Rattle.refusals.specs.Refusals.{unread_record}
use Rattle.refusals.proofs.Lines.{fine, here, later, decides}
use Rattle.refusals.proofs.Sheets.{good_sheet, runnable}
use Rattle.refusals.proofs.form.all_read.Goals as goal

pub who_reads-requires : goal.who_reads-requires
who_reads-requires c =
    let a = c.args in
    let g = good_sheet a.e a.d a.n a.s.now c.requires.0 c.requires.2 in
    record { edition = runnable a.e a.d a.n a.s.now c.requires.0 (records a.e a.s.now) c.requires.1 g; le_m = g.some }

pub returns-in-Some : goal.returns-in-Some
returns-in-Some c =
    let a = c.args in
    let m = records a.e a.s.now in
    -- the first unread one is what was seen
    let w = found_there (m - 1) _ _ (sym (ap (λ (r : Readers). r.first) c.who_reads.ensures) ∙ c.in-Some.is) in
    ap (λ (i : ℕ). Refused (refusal 15 i)) (sym w.0)
    ∙ decides (unread_record a.e a.n a.s.now ∷ []) (here (lt-ltb _ (m - 1) (subst (λ (i : ℕ). i < m - 1) (sym w.0) w.1)))

pub returns-in-None : goal.returns-in-None
returns-in-None c =
    let a = c.args in
    let m = records a.e a.s.now in
    let far = found_nowhere (m - 1) _ (sym (ap (λ (r : Readers). r.first) c.who_reads.ensures) ∙ c.in-None.is) in
    decides (unread_record a.e a.n a.s.now ∷ []) (later (le-ltb _ (m - 1) far) fine)
