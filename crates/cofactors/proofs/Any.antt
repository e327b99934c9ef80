-- The sheet for any gate: each of its answers in words, and what holds of its cells, which are those of a chain with
-- one first cell at each step or with up to 3, or the sheet of cofactors. Assumes nothing.
use mathlib.Core.Path.{◌≡◌, refl, sym, ap, ap₂, ◌∙◌, subst}
use mathlib.Core.Logic.{◌↔◌, ◌⊎◌, inl, inr, ⊎_elim}
use mathlib.Core.Bool.{Bool, true, false, cond}
use mathlib.Core.List.{List, [], ◌∷◌}
use Prim.Native.Nat.{ℕ, suc, ◌+◌, ◌-◌, ◌^◌, ◌<◌, ◌≤◌}
use native.Mathlib.Decide.{dec_lt}
use native.Mathlib.Omega.{arith}
use lib.Dec.{leb}
use lib.ListN.{length}
use borrow.Author.Tests.{le-leb, lt-leb, leb-true, leb-false}
use Rattle.bits.specs.Numbers.{bit, number}
use Rattle.bits.specs.Sets.{size}
use Rattle.tables.specs.Counting.{support, kept, table_over}
use Rattle.tables.proofs.Keeping.{kept_most}
use Rattle.splits.specs.Columns.{most_first}
use Rattle.sheets.specs.declared.kinds.Edition.{Edition}
use Rattle.sheets.specs.Edition.{most_records}
use Rattle.sheets.specs.Network.{Cell, Gives}
use Rattle.sheets.specs.Writing.{FitsFrom, AtMost}
use Rattle.sheets.specs.Reading.{AllRead}
use Rattle.chains.specs.Chain.{pick, last_cell, Made, stuck, made, inputs}
use Rattle.chains.specs.Aside.{cells_aside, sheet_aside}
use Rattle.chains.specs.Words.{Blocked, ends}
use Rattle.chains.specs.Over.{MakesOver, BlockedOver}
use Rattle.chains.proofs.Lists.{pick-length}
use Rattle.chains.proofs.Aside.{cells_made, cells_stuck, cells_give, cells_fit, cells_read, sheet_made, sheet_stuck}
use Rattle.chains.proofs.Aside.{cells_few, table_most, table-records}
use Rattle.cofactors.specs.Cofactors.{cofactor_cells, cofactor_count, most_selecting, cofactors_aside}
use Rattle.cofactors.specs.Chosen.{Near}
use Rattle.cofactors.specs.Any.{Any, sheet, unsplit, overlong, shorter, severally, either, otherwise, any_aside}
use Rattle.cofactors.proofs.Count.{count_most}
use Rattle.cofactors.proofs.Shorter.{no_answer, not_stuck, shorter-made, shorter_long, shorter_few}
use Rattle.cofactors.proofs.Shorter.{shorter-none, Came, by_make_lem, by_more, too_long_lem, no_split, came}
use Rattle.cofactors.proofs.Aside.{near-made, made-near, far_stuck, stuck_far, kept_near, aside_count}
use Rattle.cofactors.proofs.Aside.{aside_few}
use Rattle.cofactors.proofs.Aside.{aside_gives, aside_fits, aside_read}

module _ (n K T : ℕ) where
  any_came : Came (sheet_aside n K T) (otherwise n K T) (any_aside n K T)
  unfolding any_aside
  any_came = came (sheet_aside n K T) (otherwise n K T)

  -- where make has a sheet, it is the answer
  pub any_make : (cs : List Cell) → sheet_aside n K T ≡ made cs → any_aside n K T ≡ sheet cs
  unfolding any_aside
  any_make cs e = ap (λ (x : Made). either x (otherwise n K T)) e

  -- else what the chain with several first cells and the sheet of cofactors come to
  pub any_more : (x y : Made) → sheet_aside n K T ≡ stuck → cells_aside most_first n K T ≡ x → cofactors_aside n K T ≡ y
      → any_aside n K T ≡ severally (shorter x y)
  unfolding any_aside otherwise
  any_more x y e f g = ap₂ either e (ap₂ shorter f g)

  -- the cells of the answer are those of a chain, with one first cell at each step or with up to 3, or of cofactors
  any_cells : (cs : List Cell) → any_aside n K T ≡ sheet cs
      → ((m : ℕ) × (cells_aside m n K T ≡ made cs)) ⊎ (cofactors_aside n K T ≡ made cs)
  unfolding otherwise
  any_cells cs e = go (any_aside n K T) any_came e
    where
      go : (a : Any) → Came (sheet_aside n K T) (otherwise n K T) a → a ≡ sheet cs
          → ((m : ℕ) × (cells_aside m n K T ≡ made cs)) ⊎ (cofactors_aside n K T ≡ made cs)
      go a (by_make_lem ds f) e = let d : ds ≡ cs = cc in inl (1, f ∙ ap made d)
      go a (by_more ds f g h) e =
          let d : ds ≡ cs = cc in
          ⊎_elim (λ z. inl (most_first, z)) (λ z. inr z)
          (shorter-made (cells_aside most_first n K T) (cofactors_aside n K T) cs (g ∙ ap made d))
      go a (too_long_lem ds f g h) e = (no_answer e).1 refl
      go a (no_split f g) e = (no_answer e).0 refl

-- ---- the answer for a gate's table F
module _ (n K : ℕ) (F : ℕ → Bool) (p : 1 ≤ n) (two : 2 ≤ K) where
  abbrev T : ℕ
  T = number (2 ^ n) F

  -- the inputs that are kept of the gate's, as signals, the table over them, and how many count
  abbrev l : List ℕ
  l = pick n (bit (kept n F)) (inputs n)

  abbrev U : ℕ
  U = table_over n (bit (kept n F)) F

  abbrev c : ℕ
  c = size n (bit (support n F))

  abbrev one : 1 ≤ K
  one = omega arith

  module _ (cs : List Cell) (is : any_aside n K (number (2 ^ n) F) ≡ sheet cs) where
    from : {P : Type 0} → ((m : ℕ) → cells_aside m n K T ≡ made cs → P) → (cofactors_aside n K T ≡ made cs → P) → P
    from chain cofactors = ⊎_elim (λ w. chain w.0 w.1) cofactors (any_cells n K T cs is)

    -- the network of its cells gives the table's bit at every assignment
    pub any_gives : Gives n K F cs
    any_gives = from (λ m e. cells_give m n K F p one cs e) (aside_gives n K F two p cs)

    -- each fits its record
    pub any_fits : (e : Edition) → K ≤ e.most → FitsFrom e n cs
    any_fits e h = from (λ m w. cells_fit m n K F p one cs w e h) (λ w. aside_fits n K F two p cs w e h)

    -- each but the last is read by a later one
    pub any_read : AllRead n cs
    any_read = from (λ m e. cells_read m n K F p one cs e) (aside_read n K F two p cs)

    -- a sheet has room for them
    pub any_records : n + 1 ≤ K + most_records → length cs ≤ most_records
    any_records h = go (any_aside n K T) (any_came n K T) is
      where
        go : (a : Any) → Came (sheet_aside n K (number (2 ^ n) F)) (otherwise n K (number (2 ^ n) F)) a → a ≡ sheet cs
            → length cs ≤ most_records
        go a (by_make_lem ds f) e = let d : ds ≡ cs = cc in table-records n K F p one cs (f ∙ ap made d) h
        go a (by_more ds f g l) e = let d : ds ≡ cs = cc in subst (λ (x : List Cell). length x ≤ most_records) d l
        go a (too_long_lem ds f g l) e = (no_answer e).1 refl
        go a (no_split f g) e = (no_answer e).0 refl

  -- no cell reads more than K signals, nor more than any larger number
  pub otherwise_few : (cs : List Cell) → otherwise n K (number (2 ^ n) F) ≡ made cs → (L : ℕ) → K ≤ L → AtMost L cs
  unfolding otherwise
  otherwise_few cs e L h =
      ⊎_elim (λ z. cells_few most_first n K F p one cs z L h)
      (λ z. go n cs (aside_fits n K F two p cs z (record { most = L; start = 0; size = 0 }) h))
      (shorter-made (cells_aside most_first n K T) (cofactors_aside n K T) cs e)
    where
      go : (i : ℕ) (cs : List Cell) → FitsFrom (record { most = L; start = 0; size = 0 }) i cs → AtMost L cs
      go i [] w = tt
      go i (c ∷ cs) w = (w.0.most, go (suc i) cs w.1)

  -- ---- where make's chain is stuck, more than K inputs count
  pub stuck_more : sheet_aside n K (number (2 ^ n) F) ≡ stuck → K < size n (bit (support n F))
  stuck_more e = elim (dec_lt K (size n (bit (kept n F)))) [
    | yes h ↦ omega (arith, kept_near n K F two h, pick-length n (bit (kept n F)) (inputs n))
    | no h ↦ not_stuck ((sheet_made n K F p one (last_cell l U ∷ [])).1
        (ends (omega (arith, pick-length n (bit (kept n F)) (inputs n))))) e
  ]

  -- ---- the refusals, in words

  -- 8 exactly where make's chain has a table without a split, so has the chain with several first cells, and too many
  -- inputs count for a sheet of cofactors
  pub any_unsplit : (any_aside n K (number (2 ^ n) F) ≡ unsplit)
      ↔ (Blocked K n l U × BlockedOver most_first K n l U × (K + most_selecting K < c))
  unfolding otherwise
  any_unsplit = (
    go (any_aside n K T) (any_came n K T),
    λ w.
        any_more n K T stuck stuck ((sheet_stuck n K F p one).1 w.0) ((cells_stuck most_first n K F p one).1 w.1)
        (far_stuck n K F two w.2),
  )
    where
      go : (a : Any) → Came (sheet_aside n K (number (2 ^ n) F)) (otherwise n K (number (2 ^ n) F)) a → a ≡ unsplit
          → Blocked K n l U × BlockedOver most_first K n l U × (K + most_selecting K < c)
      go a (no_split f g) e =
          let w = shorter-none (cells_aside most_first n K T) (cofactors_aside n K T) g in (
            (sheet_stuck n K F p one).0 f,
            (cells_stuck most_first n K F p one).0 w.0,
            stuck_far n K F two w.1 (stuck_more f),
          )
      go a (by_make_lem ds f) e = (no_answer refl).0 e
      go a (by_more ds f g h) e = (no_answer refl).0 e
      go a (too_long_lem ds f g h) e = let z : ◌≡◌ {A = ℕ} 0 1 = cc in absurd (omega arith)

  -- 17 exactly where make's chain has such a table, the other comes to its end with too many cells, and too many inputs
  -- count for a sheet of cofactors
  pub any_overlong : (any_aside n K (number (2 ^ n) F) ≡ overlong)
      ↔ (Blocked K n l U × ((cs : List Cell) × MakesOver most_first K n l U cs × (most_records < length cs))
      × (K + most_selecting K < c))
  unfolding otherwise
  any_overlong = (go (any_aside n K T) (any_came n K T), λ w. back w.0 w.1 w.2)
    where
      go : (a : Any) → Came (sheet_aside n K (number (2 ^ n) F)) (otherwise n K (number (2 ^ n) F)) a → a ≡ overlong
          → Blocked K n l U × ((cs : List Cell) × MakesOver most_first K n l U cs × (most_records < length cs))
          × (K + most_selecting K < c)
      go a (too_long_lem ds f g h) e =
          let w = shorter_long (cells_aside most_first n K T) (cofactors_aside n K T) most_records ds g h
          (λ es d. (aside_few n K F two p es d).1) in (
            (sheet_stuck n K F p one).0 f,
            (ds, (cells_made most_first n K F p one ds).0 w.0, h),
            stuck_far n K F two w.1 (stuck_more f),
          )
      go a (by_make_lem ds f) e = (no_answer refl).1 e
      go a (by_more ds f g h) e = (no_answer refl).1 e
      go a (no_split f g) e = let z : ◌≡◌ {A = ℕ} 0 1 = cc in absurd (omega arith)

      back : Blocked K n l U → (cs : List Cell) × MakesOver most_first K n l U cs × (most_records < length cs)
          → K + most_selecting K < c → any_aside n K (number (2 ^ n) F) ≡ overlong
      back b w far =
          any_more n K T (made w.0) stuck ((sheet_stuck n K F p one).1 b)
          ((cells_made most_first n K F p one w.0).1 w.1) (far_stuck n K F two far)
          ∙ ap (λ (t : Bool). cond t (sheet w.0) overlong) (lt-leb (length w.0) most_records w.2)

  -- ---- where so few inputs count there is always a sheet

  pub any_near : Near K c → (cs : List Cell) × (any_aside n K (number (2 ^ n) F) ≡ sheet cs)
      × (length cs ≤ cofactor_count K (c - K))
  any_near w = go (sheet_aside n K T) refl
    where
      go : (x : Made) → sheet_aside n K (number (2 ^ n) F) ≡ x → (cs : List Cell)
          × (any_aside n K (number (2 ^ n) F) ≡ sheet cs) × (length cs ≤ cofactor_count K (c - K))
      go (made cs) e =
          let m = count_most K (c - K) (omega (arith, w.more)) (omega (arith, w.few)) in
          (cs, any_make n K T cs e, omega (arith, table_most n K F p one cs e, m.2, w.more))
      go stuck e = from (shorter_few (cells_aside most_first n K T) (cofactors_aside n K T) ms is)
        where
          ms : List Cell
          ms = cofactor_cells K n l U

          is : cofactors_aside n K (number (2 ^ n) F) ≡ made (cofactor_cells K n l U)
          is = near-made n K F two w

          from : (cs : List Cell) × (shorter (cells_aside most_first n K (number (2 ^ n) F))
              (cofactors_aside n K (number (2 ^ n) F)) ≡ made cs) × (length cs ≤ length (cofactor_cells K n l U))
              → (cs : List Cell) × (any_aside n K (number (2 ^ n) F) ≡ sheet cs) × (length cs ≤ cofactor_count K (c - K))
          from r =
              let few = aside_few n K F two p ms is in (
                r.0,
                any_more n K T (cells_aside most_first n K T) (cofactors_aside n K T) e refl refl ∙ ap severally r.1
                    ∙ ap (λ (t : Bool). cond t (sheet r.0) overlong) (le-leb (length r.0) most_records
                    (omega (arith, r.2, few.1))),
                omega (arith, r.2, aside_count n K F two p ms is),
              )

  -- and so wherever at most K inputs count: make's one cell
  pub any_small : c ≤ K → (cs : List Cell) × (any_aside n K (number (2 ^ n) F) ≡ sheet cs) × (length cs ≡ 1)
  any_small h =
      let e = (sheet_made n K F p one (last_cell l U ∷ [])).1 (ends (omega
      (arith, pick-length n (bit (kept n F)) (inputs n), kept_most n F))) in
      (last_cell l U ∷ [], any_make n K T (last_cell l U ∷ []) e, refl)

  -- ---- before there was a sheet of cofactors: the same where too many inputs count for it
  pub any_before_lem : K + most_selecting K < c → any_aside n K (number (2 ^ n) F)
      ≡ either (sheet_aside n K (number (2 ^ n) F)) (cells_aside most_first n K (number (2 ^ n) F))
  unfolding any_aside otherwise
  any_before_lem h = ap (λ (y : Made). either (sheet_aside n K T) (shorter (cells_aside most_first n K T) y))
      (far_stuck n K F two h) ∙ ap (either (sheet_aside n K T)) (alone (cells_aside most_first n K T))
    where
      alone : (x : Made) → shorter x stuck ≡ x
      alone stuck = refl
      alone (made cs) = refl
