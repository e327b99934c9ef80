-- What was proved of the chain, of the cells of a gate with what does not count set aside: it is the chain over what is
-- kept of the gate's table F, so it gives F, keeps the record rules and has few cells. With one first cell at a step
-- these are the laws of its sheet. Assumes nothing.
use mathlib.Core.Path.{◌≡◌, sym, ap, ap₂, ◌∙◌, subst}
use mathlib.Core.Logic.{◌↔◌}
use mathlib.Core.Bool.{Bool}
use mathlib.Core.List.{List}
use Prim.Native.Nat.{ℕ, zero, suc, ◌+◌, ◌-◌, ◌*◌, ◌^◌, ◌<◌, ◌≤◌, max}
use native.Mathlib.Nat.{mul-le-mul_right}
use native.Mathlib.Omega.{arith}
use lib.ListN.{length}
use Rattle.bits.specs.Numbers.{bit, number}
use Rattle.bits.specs.Sets.{size}
use Rattle.bits.proofs.Numbers.{number_lt, bit-number}
use Rattle.bits.proofs.Sizes.{size-le}
use Rattle.tables.specs.Counting.{AllCount, support, kept, table_over}
use Rattle.tables.proofs.Depending.{count_ext}
use Rattle.tables.proofs.Over.{over_lt, over_ext, over_gather}
use Rattle.tables.proofs.Keeping.{kept_sees, kept_some, kept_most, kept_ext}
use Rattle.sheets.specs.declared.kinds.Edition.{Edition}
use Rattle.sheets.specs.Edition.{most_records}
use Rattle.sheets.specs.Network.{Cell, Gives}
use Rattle.sheets.specs.Writing.{FitsFrom, AtMost}
use Rattle.sheets.specs.Reading.{AllRead}
use Rattle.chains.specs.Chain.{pick, stuck, made, chain, inputs, sheet_of}
use Rattle.chains.specs.Aside.{kept_signals, kept_table, cells_aside, sheet_aside}
use Rattle.chains.specs.Words.{Makes, Blocked}
use Rattle.chains.specs.Over.{MakesOver, BlockedOver}
use Rattle.chains.proofs.Lists.{AllBelow, pick-length, pick_below, pick-rising, packed-pick, inputs-length}
use Rattle.chains.proofs.Lists.{inputs_at, inputs_below, inputs-rising}
use Rattle.chains.proofs.View.{over_made, over_stuck}
use Rattle.chains.proofs.One.{makes_over, over_one, chain_stuck_lem}
use Rattle.chains.proofs.Once.{aside_plain, aside_once}
use Rattle.chains.proofs.Right.{over_network, over_few}
use Rattle.chains.proofs.Rules.{over_fits, over_most}
use Rattle.chains.proofs.Read.{over_read}

-- ---- the table F of n inputs, held in any way, and its number
module _ (n : ℕ) (F : ℕ → Bool) where
  is : (x : ℕ) → x < 2 ^ n → bit (number (2 ^ n) F) x ≡ F x
  is x h = bit-number (2 ^ n) F x h

  kept_is : kept (length (inputs n)) (bit (number (2 ^ n) F)) ≡ kept n F
  kept_is = ap (λ (m : ℕ). kept m (bit (number (2 ^ n) F))) (inputs-length n) ∙ kept_ext n (bit (number (2 ^ n) F)) F is

  pub signals_are : kept_signals (inputs n) (number (2 ^ n) F) ≡ pick n (bit (kept n F)) (inputs n)
  unfolding kept_signals
  signals_are = ap₂ (λ (m s : ℕ). pick m (bit s) (inputs n)) (inputs-length n) kept_is

  pub table_is : kept_table (inputs n) (number (2 ^ n) F) ≡ table_over n (bit (kept n F)) F
  unfolding kept_table
  table_is =
      ap₂ (λ (m s : ℕ). table_over m (bit s) (bit (number (2 ^ n) F))) (inputs-length n) kept_is
      ∙ over_ext n (bit (kept n F)) (bit (number (2 ^ n) F)) F is

  -- the sheet of a table that depends on each of its inputs is document 01's
  pub sheet-plain : (K : ℕ) → AllCount n F → sheet_aside n K (number (2 ^ n) F) ≡ sheet_of n K (number (2 ^ n) F)
  unfolding cells_aside sheet_of
  sheet-plain K all =
      let q = sym (inputs-length n) in
      aside_plain 1 n K n (inputs n) (number (2 ^ n) F)
      (subst (λ (c : ℕ). number (2 ^ n) F < 2 ^ (2 ^ c)) q (number_lt (2 ^ n) F))
      (subst (λ (c : ℕ). AllCount c (bit (number (2 ^ n) F))) q
      (count_ext n F (bit (number (2 ^ n) F)) (λ x h. sym (is x h)) all))

-- set aside once, then the chain: what the code does
pub cells_once : (m n K : ℕ) (F : ℕ → Bool) → 1 ≤ n → 1 ≤ K
    → cells_aside m n K (number (2 ^ n) F) ≡ chain m n K n (pick n (bit (kept n F)) (inputs n))
    (table_over n (bit (kept n F)) F)
unfolding cells_aside
cells_once m zero K F p q = absurd (omega arith)
cells_once m (suc n) K F p q =
    aside_once m n K (suc n) (inputs (suc n)) (number (2 ^ suc n) F) q
    ∙ ap₂ (chain m (suc n) K (suc n)) (signals_are (suc n) F) (table_is (suc n) F)

-- ---- its cells, with up to m first cells at each step
module _ (m n K : ℕ) (F : ℕ → Bool) (p : 1 ≤ n) (q : 1 ≤ K) where
  abbrev S : ℕ → Bool
  S = bit (kept n F)

  abbrev l : List ℕ
  l = pick n (bit (kept n F)) (inputs n)

  abbrev U : ℕ
  U = table_over n (bit (kept n F)) F

  enough : length l < n + K
  enough = omega (arith, pick-length n S (inputs n), size-le n S)

  -- they are made, exactly as the chain makes those of the table over what is kept
  pub cells_made : (cs : List Cell) → (cells_aside m n K (number (2 ^ n) F) ≡ made cs) ↔ MakesOver m K n l U cs
  cells_made cs =
      let once = cells_once m n K F p q in
      let exactly = over_made m n K n l U cs p enough in
      (λ e. exactly.0 (sym once ∙ e), λ c. once ∙ exactly.1 c)

  -- and it is stuck exactly where a table of that chain with more than K inputs has no possible split
  pub cells_stuck : (cells_aside m n K (number (2 ^ n) F) ≡ stuck) ↔ BlockedOver m K n l U
  cells_stuck =
      let once = cells_once m n K F p q in
      let exactly = over_stuck m n K n l U p enough in
      (λ e. exactly.0 (sym once ∙ e), λ w. once ∙ exactly.1 w)

  low : AllBelow n l
  low = pick_below n S (inputs n) n (λ j h. inputs_below n j (omega (arith, inputs-length n)))

  module _ (cs : List Cell) (made-is : cells_aside m n K (number (2 ^ n) F) ≡ made cs) where
    makes : MakesOver m K n l U cs
    makes = (cells_made cs).0 made-is

    -- demand 2: their network gives the table's bit at every assignment
    pub cells_give : Gives n K F cs
    cells_give =
        over_network F makes low
        (λ x h. ap (bit U) (packed-pick n S (inputs n) (bit x) x (λ j g. ap (bit x) (sym (inputs_at n j g))))
        ∙ over_gather n F S (kept_sees n F) x h)

    -- no cell reads more than K signals, nor more than any larger number
    pub cells_few : (L : ℕ) → K ≤ L → AtMost L cs
    cells_few L h = over_few h makes low

    -- each cell fits its record, in every edition whose records hold K signals
    pub cells_fit : (e : Edition) → K ≤ e.most → FitsFrom e n cs
    cells_fit e h =
        let size_is = pick-length n S (inputs n) in
        over_fits e h makes (record {
          some = omega (arith, size_is, kept_some n F p);
          below = low;
          rising = pick-rising n S (inputs n) (omega (arith, inputs-length n)) (inputs-rising n);
          table = subst (λ (c : ℕ). U < 2 ^ (2 ^ c)) (sym size_is) (over_lt n S F);
        })

    -- each but the last is read by a later one
    pub cells_read : AllRead n cs
    cells_read = over_read makes low

    -- at most m for each input that counts beyond K, and one
    pub cells_most : length cs ≤ (size n (bit (support n F)) - K) * m + 1
    cells_most =
        let few : length l - K ≤ size n (bit (support n F)) - K = omega
        (arith, pick-length n S (inputs n), kept_most n F) in
        omega (arith, over_most makes, mul-le-mul_right m few)

-- ---- its sheet, with one first cell at each step
module _ (n K : ℕ) (F : ℕ → Bool) (p : 1 ≤ n) (q : 1 ≤ K) where
  -- it is made, exactly as document 01 makes the sheet of the table over what is kept
  pub sheet_made : (cs : List Cell)
      → (sheet_aside n K (number (2 ^ n) F) ≡ made cs)
      ↔ Makes K n (pick n (bit (kept n F)) (inputs n)) (table_over n (bit (kept n F)) F) cs
  sheet_made cs = let w = cells_made 1 n K F p q cs in (λ e. over_one (w.0 e), λ c. w.1 (makes_over c))

  -- and stuck, exactly where a table of that chain with more than K inputs has no possible split
  pub sheet_stuck : (sheet_aside n K (number (2 ^ n) F) ≡ stuck)
      ↔ Blocked K n (pick n (bit (kept n F)) (inputs n)) (table_over n (bit (kept n F)) F)
  sheet_stuck =
      let once = cells_once 1 n K F p q in
      let exactly = chain_stuck_lem n K n (pick n (bit (kept n F)) (inputs n)) (table_over n (bit (kept n F)) F) p
      (enough 1 n K F p q) in
      (λ e. exactly.0 (sym once ∙ e), λ w. once ∙ exactly.1 w)

  module _ (cs : List Cell) (made-is : sheet_aside n K (number (2 ^ n) F) ≡ made cs) where
    pub table_gives : Gives n K F cs
    table_gives = cells_give 1 n K F p q cs made-is

    pub table_few : (L : ℕ) → K ≤ L → AtMost L cs
    table_few = cells_few 1 n K F p q cs made-is

    pub table_fits : (e : Edition) → K ≤ e.most → FitsFrom e n cs
    table_fits = cells_fit 1 n K F p q cs made-is

    pub table_read : AllRead n cs
    table_read = cells_read 1 n K F p q cs made-is

    -- at most max(1, c - K + 1) cells, where c inputs count
    pub table_most : length cs ≤ max 1 (size n (bit (support n F)) + 1 - K)
    table_most = omega (arith, cells_most 1 n K F p q cs made-is)

    -- so as many records as a sheet holds are enough
    pub table-records : n + 1 ≤ K + most_records → length cs ≤ most_records
    table-records h = omega (arith, table_most, size-le n (bit (support n F)))
