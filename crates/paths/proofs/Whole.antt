-- Over whole numbers of sixteenths the output's times are the least and the greatest along all paths, and a good
-- sheet's cells are fed. Assumes nothing.
use mathlib.Core.Path.{◌≡◌, sym, ap, subst, ◌∙◌}
use mathlib.Core.Bool.{Bool}
use mathlib.Core.List.{List}
use Prim.Native.Nat.{ℕ, zero, suc, ◌+◌, ◌*◌, ◌<◌, ◌≤◌}
use native.Mathlib.Nat.{not-suc-le-zero, suc-mul}
use native.Mathlib.Omega.{arith}
use lib.Dec.{ltb}
use lib.Ieee.{Float}
use lib.ListN.{length, get_or}
use borrow.Author.Tests.{ltb-true, ltb-false}
use Rattle.bits.proofs.Lists.{length-list, list_at}
use Rattle.sheets.specs.declared.kinds.Edition.{Edition}
use Rattle.sheets.specs.Edition.{IsEdition}
use Rattle.sheets.specs.Record.{Keeps, cell_of}
use Rattle.sheets.specs.Sheet.{record_at, records, cells_from, sheet_cells, Good}
use Rattle.sheets.proofs.Looks.{record_keeps}
use Rattle.sheets.proofs.Wiring.{cells_length}
use Rattle.times.specs.declared.input_time.InputTime.{InputTime}
use Rattle.times.specs.InputTimes.{input_times}
use Rattle.times.specs.Sixteenths.{sixteenths_of}
use Rattle.times.specs.Whole.{settled_whole}
use Rattle.paths.specs.Paths.{read_by, along, BestPath, Beyond}
use Rattle.paths.proofs.Along.{Fed}
use Rattle.paths.proofs.Ordered.{ordered_path}

-- ---- a good sheet's cells

cell-reads : (e : Edition) (s : List ℕ) (m i k : ℕ) → k < m → read_by (cells_from e s i m) k
    ≡ (cell_of e (record_at e s (i + k))).signals
unfolding cells_from
cell-reads e s zero i k h = absurd (not-suc-le-zero h)
cell-reads e s (suc m) i zero h = let z : i ≡ i + 0 = omega arith
    in ap (λ (j : ℕ). (cell_of e (record_at e s j)).signals) z
cell-reads e s (suc m) i (suc k) h =
    let z : suc i + k ≡ i + suc k = omega arith in cell-reads e s m (suc i) k (omega arith)
    ∙ ap (λ (j : ℕ). (cell_of e (record_at e s j)).signals) z

fed_by : (e : Edition) (d top : ℕ) (b : ℕ → ℕ) (l : List ℕ) → Keeps e d top b → l ≡ (cell_of e b).signals → (1 ≤ length l)
    × ((p : ℕ) → p < length l → get_or l p 0 < top)
unfolding cell_of
fed_by e d top b l k q =
    let z : length l ≡ b 0 = ap length q ∙ length-list (b 0) (λ j. b (j + 1)) in (
      subst (λ (m : ℕ). 1 ≤ m) (sym z) k.some,
      λ p h.
          let g : p < b 0 = subst (λ (m : ℕ). p < m) z h in
          subst (λ (x : ℕ). x < top) (sym (ap (λ (m : List ℕ). get_or m p 0) q ∙ list_at (b 0) (λ j. b (j + 1)) p 0 g))
          (k.known p g),
    )

pub good_fed : (e : Edition) → IsEdition e → (d n : ℕ) (s : List ℕ) (m : ℕ) → Good e d n s m → Fed n (sheet_cells e s m)
good_fed e ok d n s m g i h =
    let l : i < m = subst (λ (k : ℕ). i < k) (cells_length e s 0 m) h in
    let z : 0 + i ≡ i = omega arith in
    fed_by e d (n + i) (record_at e s i) (read_by (sheet_cells e s m) i) (record_keeps e ok d n s m g.rules i l)
    (cell-reads e s m 0 i l ∙ ap (λ (j : ℕ). (cell_of e (record_at e s j)).signals) z)

pub some_cells : (e : Edition) (d n : ℕ) (s : List ℕ) (m : ℕ) → Good e d n s m → 1 ≤ length (sheet_cells e s m)
some_cells e d n s m g = subst (λ (k : ℕ). 1 ≤ k) (sym (cells_length e s 0 m)) g.some

-- ---- whole numbers

-- the greatest (late), or the least, over all paths
pub whole_path : (late : Bool) (e : Edition) → IsEdition e
    → (d n : ℕ) (s : List ℕ) (delay : Float) (ts : List InputTime) → Good e d n s (records e s)
    → BestPath (Beyond late) (λ i. i + sixteenths_of delay) n (sheet_cells e s (records e s))
    (λ j. sixteenths_of (input_times late n ts j)) (settled_whole late e n s delay ts)
unfolding settled_whole
whole_path late e ok d n s delay ts g =
    ordered_path ltb ◌≤◌ (λ i. Unit {0}) (λ i p. omega arith) (λ i j k p q r a b. omega arith)
    (λ i j h. omega (arith, ltb-true i j h)) (λ i j p q h. ltb-false i j h)
    (λ i. i + sixteenths_of delay) (λ i p. tt) (λ i j p q h. omega arith)
    n (sheet_cells e s (records e s)) (λ j. sixteenths_of (input_times late n ts j))
    (good_fed e ok d n s (records e s) g) (λ j. tt) 0 (some_cells e d n s (records e s) g) late

-- a path of k cells adds the delay k times
pub along_whole : (d k i : ℕ) → along (λ j. j + d) k i ≡ i + k * d
unfolding along
along_whole d zero i = omega arith
along_whole d (suc k) i = omega (arith, along_whole d k i, suc-mul k d)
