-- `who_reads` meets its contract. The loop's invariant: the mask holds what the records from i on read, and `first`
-- is the first unread one of them, the last aside. Assumes nothing.
use Rattle.std.proofs.Common.{Option}
use mathlib.Core.Path.{◌≡◌, refl, sym, ap, ap₂, ◌∙◌, subst}
use mathlib.Core.List.{List}
use Prim.Native.Nat.{ℕ, ◌-◌}
use native.Mathlib.Omega.{arith}
use lib.ListN.{length}
use Rattle.bits.specs.Places.{found_below}
use Rattle.bits.proofs.Places.{found_some, not_found}
use Rattle.bits.proofs.Least.{LeastFrom, from_end, from_all}
use Rattle.sheets.specs.Record.{byte_at}
use Rattle.sheets.specs.Sheet.{cells_from}
use Rattle.sheets.specs.Reading.{unread, also_read}
use Rattle.sheets.proofs.Places.{record_within}
use Rattle.unread.specs.ReadMasks.{read_mask}
use Rattle.unread.proofs.ReadMasks.{mask_last, mask_more, found_here, found_later, record_named}
use Rattle.unread.proofs.reading.who_reads.Goals as goal
use Rattle.unread.proofs.reading.who_reads.Goals.{then-read-n-eq0, else-read-n-eq0}

pub record_of-requires : goal.record_of-requires
record_of-requires c =
    let a = c.args in (
      c.requires.edition.0,
      omega arith,
      record_within a.e.size (a.m - 1) a.m (length a.s.now) (omega arith)
          c.requires.edition.3,
    )

pub also_read-read-requires : goal.also_read-read-requires
also_read-read-requires c =
    let a = c.args in
    record_named a.e c.requires.edition.0 a.s.now a.m (a.m - 1) c.record_of.result.now (omega arith)
    c.requires.edition.3 c.requires.edition.4 c.record_of.ensures

pub loop-i-init : goal.loop-i-init
loop-i-init c =
    let a = c.args in (
      omega arith,
      c.also_read-read.ensures ∙ ap (λ (b : List ℕ). also_read (byte_at b) 0) c.record_of.ensures
          ∙ mask_last a.e a.s.now a.m (omega arith),
      (a.m - 1, from_end (a.m - 1) (unread a.e a.n a.s.now a.m), not_found (a.m - 1) (a.m - 1) refl),
    )

pub record_of-requires-in-loop-i : goal.record_of-requires-in-loop-i
record_of-requires-in-loop-i c =
    let a = c.args in (
      c.requires.edition.0,
      omega arith,
      record_within a.e.size (c.loop-i.i - 1) a.m (length a.s.now) (omega arith)
          c.requires.edition.3,
    )

pub also_read-read-requires-in-loop-i : goal.also_read-read-requires-in-loop-i
also_read-read-requires-in-loop-i c =
    let a = c.args in
    record_named a.e c.requires.edition.0 a.s.now a.m (c.loop-i.i - 1) c.record_of-in-loop-i.result.now (omega arith)
    c.requires.edition.3 c.requires.edition.4 c.record_of-in-loop-i.ensures

pub loop-i-preserved : goal.loop-i-preserved
loop-i-preserved c =
    let a = c.args in
    let i = c.loop-i.i in
    let w = c.loop-i.read in
    let p = unread a.e a.n a.s.now a.m in (
      omega arith,
      c.also_read-read-in-loop-i.ensures ∙ ap (λ (b : List ℕ). also_read (byte_at b) w) c.record_of-in-loop-i.ensures
          ∙ mask_more a.e a.s.now i a.m w (omega arith) (omega arith) c.loop-i.invariant.1,
      elim c.if-read-n-eq0.branch [
        | then-read-n-eq0 u ↦ (
          i - 1,
          found_here a.e a.s.now a.n a.m i w c.loop-i.invariant.2.0 (omega arith) (omega arith) (omega arith)
              c.loop-i.invariant.1 u.if-read-n-eq0.true,
          u.first-is ∙ found_some (a.m - 1) (i - 1) (omega arith),
        )
        | else-read-n-eq0 u ↦ (
          c.loop-i.invariant.2.0,
          found_later a.e a.s.now a.n a.m i w c.loop-i.invariant.2.0 (omega arith) (omega arith) (omega arith)
              c.loop-i.invariant.1 u.if-read-n-eq0.false c.loop-i.invariant.2.1,
          u.first-is ∙ c.loop-i.invariant.2.2,
        )
      ],
    )

pub returns : goal.returns
returns c =
    let a = c.args in
    let z : c.loop-i.i ≡ 0 = omega arith in
    let all : a.m - 0 ≡ a.m = omega arith in
    let p = unread a.e a.n a.s.now a.m in
    let f = c.loop-i.invariant.2.0 in
    ap₂ (λ (g : Option ℕ) (w : ℕ). record { first = g; read = w })
    (c.loop-i.invariant.2.2 ∙ ap (found_below (a.m - 1)) (from_all (a.m - 1) p f
    (subst (λ (i : ℕ). LeastFrom i (a.m - 1) p f) z c.loop-i.invariant.2.1)))
    (c.loop-i.invariant.1 ∙ ap (λ (i : ℕ). read_mask (cells_from a.e a.s.now i (a.m - i))) z
    ∙ ap (λ (k : ℕ). read_mask (cells_from a.e a.s.now 0 k)) all)
