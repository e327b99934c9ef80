-- The sheet for any gate: each of its answers in words, and what holds of its cells, which are those of a chain with
-- one first cell at each step or with up to 3. Assumes nothing.
use mathlib.Core.Path.{◌≡◌, refl, ap, ap₂, ◌∙◌, subst}
use mathlib.Core.Logic.{◌↔◌}
use mathlib.Core.Bool.{Bool, true, false, cond}
use mathlib.Core.List.{List}
use Prim.Native.Nat.{ℕ, ◌+◌, ◌^◌, ◌<◌, ◌≤◌}
use native.Mathlib.Omega.{arith}
use lib.Dec.{leb}
use lib.ListN.{length}
use borrow.Author.Tests.{lt-leb, leb-true, leb-false}
use Rattle.bits.specs.Numbers.{bit, number}
use Rattle.tables.specs.Counting.{kept, table_over}
use Rattle.splits.specs.Columns.{most_first}
use Rattle.sheets.specs.declared.kinds.Edition.{Edition}
use Rattle.sheets.specs.Edition.{most_records}
use Rattle.sheets.specs.Network.{Cell, Gives}
use Rattle.sheets.specs.Writing.{FitsFrom}
use Rattle.sheets.specs.Reading.{AllRead}
use Rattle.chains.specs.Chain.{pick, Made, stuck, made, inputs}
use Rattle.chains.specs.Aside.{cells_aside, sheet_aside}
use Rattle.chains.specs.Words.{Blocked}
use Rattle.chains.specs.Over.{MakesOver, BlockedOver}
use Rattle.chains.specs.Any.{Any, sheet, unsplit, overlong, severally, either, any_aside}
use Rattle.chains.proofs.Aside.{cells_made, cells_stuck, cells_give, cells_fit, cells_read, sheet_stuck}
use Rattle.chains.proofs.Aside.{table-records}

no_answer : {P : Type 0} {cs : List Cell} {a : Any} → a ≡ sheet cs → (a ≡ unsplit → P) × (a ≡ overlong → P)
no_answer p = (
  λ q. let z : ◌≡◌ {A = ℕ} 0 1 = cc in absurd (omega arith),
  λ q. let z : ◌≡◌ {A = ℕ} 0 1 = cc
      in absurd (omega arith),
)

-- ---- how an answer comes about, from what the two chains make
module _ (one more : Made) where
  pub data Came : Any → Type 0 where
    by_make_lem : (cs : List Cell) → one ≡ made cs → Came (sheet cs)
    by_more : (cs : List Cell) → one ≡ stuck → more ≡ made cs → length cs ≤ most_records → Came (sheet cs)
    too_long_lem : (cs : List Cell) → one ≡ stuck → more ≡ made cs → most_records < length cs → Came overlong
    no_split : one ≡ stuck → more ≡ stuck → Came unsplit

came : (one more : Made) → Came one more (either one more)
came (made cs) x = by_make_lem cs refl
came stuck stuck = no_split refl refl
came stuck (made cs) = go (leb (length cs) most_records) refl
  where
    go : (t : Bool) → leb (length cs) most_records ≡ t → Came stuck (made cs) (cond t (sheet cs) overlong)
    go true q = by_more cs refl refl (leb-true (length cs) most_records q)
    go false q = too_long_lem cs refl refl (leb-false (length cs) most_records q)

module _ (n K T : ℕ) where
  pub any_came : Came (sheet_aside n K T) (cells_aside most_first n K T) (any_aside n K T)
  unfolding any_aside
  any_came = came (sheet_aside n K T) (cells_aside most_first n K T)

  -- where make has a sheet, it is the answer
  pub any_make : (cs : List Cell) → sheet_aside n K T ≡ made cs → any_aside n K T ≡ sheet cs
  unfolding any_aside
  any_make cs e = ap (λ (x : Made). either x (cells_aside most_first n K T)) e

  any_more : (y : Made) → sheet_aside n K T ≡ stuck → cells_aside most_first n K T ≡ y → any_aside n K T ≡ severally y
  unfolding any_aside
  any_more y e f = ap₂ either e f

  -- the cells of the answer are those of a chain, with one first cell at each step or with up to 3
  pub any_chain : (cs : List Cell) → any_aside n K T ≡ sheet cs → (m : ℕ) × (cells_aside m n K T ≡ made cs)
  any_chain cs e = go (any_aside n K T) any_came e
    where
      go : (a : Any) → Came (sheet_aside n K T) (cells_aside most_first n K T) a → a ≡ sheet cs → (m : ℕ)
          × (cells_aside m n K T ≡ made cs)
      go a (by_make_lem ds f) e = let d : ds ≡ cs = cc in (1, f ∙ ap made d)
      go a (by_more ds f g h) e = let d : ds ≡ cs = cc in (most_first, g ∙ ap made d)
      go a (too_long_lem ds f g h) e = (no_answer e).1 refl
      go a (no_split f g) e = (no_answer e).0 refl

-- ---- the answer for a gate's table F
module _ (n K : ℕ) (F : ℕ → Bool) (p : 1 ≤ n) (q : 1 ≤ K) where
  abbrev T : ℕ
  T = number (2 ^ n) F

  module _ (cs : List Cell) (is : any_aside n K (number (2 ^ n) F) ≡ sheet cs) where
    -- the network of its cells gives the table's bit at every assignment
    pub any_gives : Gives n K F cs
    any_gives = let w = any_chain n K T cs is in cells_give w.0 n K F p q cs w.1

    -- each fits its record
    pub any_fits : (e : Edition) → K ≤ e.most → FitsFrom e n cs
    any_fits e h = let w = any_chain n K T cs is in cells_fit w.0 n K F p q cs w.1 e h

    -- each but the last is read by a later one
    pub any_read : AllRead n cs
    any_read = let w = any_chain n K T cs is in cells_read w.0 n K F p q cs w.1

    -- a sheet has room for them
    pub any_records : n + 1 ≤ K + most_records → length cs ≤ most_records
    any_records h = go (any_aside n K T) (any_came n K T) is
      where
        go : (a : Any) → Came (sheet_aside n K (number (2 ^ n) F)) (cells_aside most_first n K (number (2 ^ n) F)) a → a
            ≡ sheet cs → length cs ≤ most_records
        go a (by_make_lem ds f) e = let d : ds ≡ cs = cc in table-records n K F p q cs (f ∙ ap made d) h
        go a (by_more ds f g l) e = let d : ds ≡ cs = cc in subst (λ (x : List Cell). length x ≤ most_records) d l
        go a (too_long_lem ds f g l) e = (no_answer e).1 refl
        go a (no_split f g) e = (no_answer e).0 refl

  -- ---- the refusals, in words

  -- the inputs that are kept of the gate's, as signals, and the table over them
  abbrev l : List ℕ
  l = pick n (bit (kept n F)) (inputs n)

  abbrev U : ℕ
  U = table_over n (bit (kept n F)) F

  -- 8 exactly where make's chain has a table without a split, and so has the chain with several first cells
  pub any_unsplit : (any_aside n K (number (2 ^ n) F) ≡ unsplit) ↔ (Blocked K n l U × BlockedOver most_first K n l U)
  any_unsplit = (
    go (any_aside n K T) (any_came n K T),
    λ w. any_more n K T stuck ((sheet_stuck n K F p q).1 w.0) ((cells_stuck most_first n K F p q).1 w.1),
  )
    where
      go : (a : Any) → Came (sheet_aside n K (number (2 ^ n) F)) (cells_aside most_first n K (number (2 ^ n) F)) a → a
          ≡ unsplit
          → Blocked K n (pick n (bit (kept n F)) (inputs n)) (table_over n (bit (kept n F)) F)
          × BlockedOver most_first K n (pick n (bit (kept n F)) (inputs n)) (table_over n (bit (kept n F)) F)
      go a (no_split f g) e = ((sheet_stuck n K F p q).0 f, (cells_stuck most_first n K F p q).0 g)
      go a (by_make_lem ds f) e = (no_answer refl).0 e
      go a (by_more ds f g h) e = (no_answer refl).0 e
      go a (too_long_lem ds f g h) e = let z : ◌≡◌ {A = ℕ} 0 1 = cc in absurd (omega arith)

  -- 17 exactly where make's chain has such a table, and the other comes to its end with too many cells
  pub any_overlong : (any_aside n K (number (2 ^ n) F) ≡ overlong)
      ↔ (Blocked K n l U × ((cs : List Cell) × MakesOver most_first K n l U cs × (most_records < length cs)))
  any_overlong = (go (any_aside n K T) (any_came n K T), λ w. back w.0 w.1)
    where
      go : (a : Any) → Came (sheet_aside n K (number (2 ^ n) F)) (cells_aside most_first n K (number (2 ^ n) F)) a → a
          ≡ overlong
          → Blocked K n (pick n (bit (kept n F)) (inputs n)) (table_over n (bit (kept n F)) F)
          × ((cs : List Cell) × MakesOver most_first K n (pick n (bit (kept n F)) (inputs n))
          (table_over n (bit (kept n F)) F) cs × (most_records < length cs))
      go a (too_long_lem ds f g h) e = ((sheet_stuck n K F p q).0 f, (ds, (cells_made most_first n K F p q ds).0 g, h))
      go a (by_make_lem ds f) e = (no_answer refl).1 e
      go a (by_more ds f g h) e = (no_answer refl).1 e
      go a (no_split f g) e = let z : ◌≡◌ {A = ℕ} 0 1 = cc in absurd (omega arith)

      back : Blocked K n (pick n (bit (kept n F)) (inputs n)) (table_over n (bit (kept n F)) F)
          → (cs : List Cell) × MakesOver most_first K n (pick n (bit (kept n F)) (inputs n))
          (table_over n (bit (kept n F)) F) cs × (most_records < length cs)
          → any_aside n K (number (2 ^ n) F) ≡ overlong
      back b w =
          any_more n K T (made w.0) ((sheet_stuck n K F p q).1 b) ((cells_made most_first n K F p q w.0).1 w.1)
          ∙ ap (λ (t : Bool). cond t (sheet w.0) overlong) (lt-leb (length w.0) most_records w.2)
