-- The first places are the signals. Assumes nothing.
use mathlib.Core.Path.{◌≡◌, refl, sym, ap, ◌∙◌}
use mathlib.Core.List.{List, ◌++◌}
use Prim.Native.Nat.{ℕ, ◌≤◌}
use native.Mathlib.Omega.{arith}
use lib.ListN.{get_or, take, drop, length, get_or-append}
use lib.Seq.{get_or-take, length-take-le}
use Rattle.tables.specs.Cells.{table_number}
use Rattle.bits.specs.Lists.{list_of}
use Rattle.bits.proofs.Lists.{list_ext}
use Rattle.making.proofs.signals.Signals.cell.Goals as goal

-- the places copied over those of a blank array
copied : {k : ℕ} (at blank : List ℕ) {copy : List ℕ} → k ≤ length at → copy ≡ take k at
    → list_of k (λ j. get_or (copy ++ drop k blank) j 0) ≡ list_of k (λ j. get_or at j 0)
copied {k} at blank {copy} h e = list_ext k _ _ (λ j l.
    get_or-append copy (drop k blank) 0 j (omega (arith, ap length e, length-take-le k at h))
    ∙ ap (λ (l : List ℕ). get_or l j 0) e ∙ get_or-take k at j 0 l)

pub copy_from_slice-requires : goal.copy_from_slice-requires
copy_from_slice-requires c =
    length-take-le c.args.self.count _ (omega (arith, c.requires))
    ∙ sym (length-take-le c.args.self.count c.args.self.at (omega (arith, c.args.self.places, c.args.self.few)))

pub returns : goal.returns
returns c = (
  ap (λ (l : List ℕ). record { signals = l; table = table_number c.args.table })
      (copied c.args.self.at _ (omega (arith, c.args.self.places, c.args.self.few)) c.copy_from_slice.ensures.after),
  refl,
)
