-- The sheet of cofactors of a gate's table F, with what does not count set aside: where there is one, and that it gives
-- F. Assumes nothing.
use mathlib.Core.Path.{◌≡◌, refl, sym, ap, ap₂, ◌∙◌, subst}
use mathlib.Core.Logic.{◌↔◌}
use mathlib.Core.Bool.{Bool, true, false, cond, ◌&&◌}
use mathlib.Core.List.{List}
use Prim.Native.Nat.{ℕ, ◌+◌, ◌-◌, ◌^◌, ◌<◌, ◌≤◌}
use native.Mathlib.Decide.{dec_lt}
use native.Mathlib.Omega.{arith}
use lib.Dec.{leb, ltb}
use lib.ListN.{length}
use lib.Pow.{pow_pos}
use borrow.Author.Tests.{leb-true, le-leb, ltb-true, lt-ltb}
use Rattle.bits.specs.Numbers.{bit, number}
use Rattle.bits.specs.Sets.{size}
use Rattle.bits.proofs.Bools.{and_left, and_right, false_of}
use Rattle.tables.specs.Counting.{support, kept, table_over}
use Rattle.tables.proofs.Over.{over_gather}
use Rattle.tables.proofs.Keeping.{kept_sees, two-kept, some_kept}
use Rattle.sheets.specs.declared.kinds.Edition.{Edition}
use Rattle.sheets.specs.Edition.{most_records}
use Rattle.sheets.specs.Network.{Cell, Gives}
use Rattle.sheets.specs.Writing.{FitsFrom}
use Rattle.sheets.specs.Reading.{AllRead}
use Rattle.chains.specs.Chain.{pick, Made, stuck, made, inputs}
use Rattle.chains.proofs.Lists.{AllBelow, Rising, pick-length, pick_below, pick-rising, packed-pick, inputs-length}
use Rattle.chains.proofs.Lists.{inputs_at, inputs_below, inputs-rising}
use Rattle.chains.proofs.Aside.{signals_are, table_is}
use Rattle.cofactors.specs.Cofactors.{cofactor_cells, cofactor_count, most_selecting, has_cofactors, cofactors_of}
use Rattle.cofactors.specs.Cofactors.{cofactors_aside}
use Rattle.cofactors.specs.Chosen.{Near}
use Rattle.cofactors.proofs.Cofactors.{cofactors_give, cofactors_fit, cofactors_wired, cofactors_read}
use Rattle.cofactors.proofs.Count.{cofactors_count, count_most}

near_true : (K c : ℕ) → has_cofactors K c ≡ true → Near K c
near_true K c h = record {
  more = ltb-true K c (and_left (ltb K c) (leb c (K + most_selecting K)) h);
  few = leb-true c (K + most_selecting K) (and_right (ltb K c) (leb c (K + most_selecting K)) h);
}

true_near : (K c : ℕ) → Near K c → has_cofactors K c ≡ true
true_near K c w = ap₂ ◌&&◌ (lt-ltb K c w.more) (le-leb c (K + most_selecting K) w.few)

module _ (n K : ℕ) (F : ℕ → Bool) (two : 2 ≤ K) where
  abbrev l : List ℕ
  l = pick n (bit (kept n F)) (inputs n)

  abbrev U : ℕ
  U = table_over n (bit (kept n F)) F

  -- how many inputs count
  abbrev c : ℕ
  c = size n (bit (support n F))

  kept-count : length l ≡ size n (bit (kept n F))
  kept-count = pick-length n (bit (kept n F)) (inputs n)

  -- where more than K are kept, those count
  pub kept_near : K < size n (bit (kept n F)) → length (pick n (bit (kept n F)) (inputs n)) ≡ size n (bit (support n F))
  kept_near h = kept-count ∙ ap (λ (s : ℕ). size n (bit s)) (two-kept n F (omega arith))

  pub near-kept : K < size n (bit (support n F)) → length (pick n (bit (kept n F)) (inputs n))
      ≡ size n (bit (support n F))
  near-kept h = kept-count ∙ ap (λ (s : ℕ). size n (bit s)) (some_kept n F (omega arith))

  pub aside_is : cofactors_aside n K (number (2 ^ n) F) ≡ cofactors_of K n (pick n (bit (kept n F)) (inputs n))
      (table_over n (bit (kept n F)) F)
  unfolding cofactors_aside
  aside_is = ap₂ (cofactors_of K n) (signals_are n F) (table_is n F)

  by_test : (b : Bool) → has_cofactors K (length l) ≡ b → cofactors_aside n K (number (2 ^ n) F)
      ≡ cond b (made (cofactor_cells K n l U)) stuck
  unfolding cofactors_of
  by_test b e = aside_is ∙ ap (λ (b : Bool). cond b (made (cofactor_cells K n l U)) stuck) e

  -- there is one where so few inputs more than K are kept
  pub kept-made : Near K (size n (bit (kept n F))) → cofactors_aside n K (number (2 ^ n) F)
      ≡ made (cofactor_cells K n (pick n (bit (kept n F)) (inputs n)) (table_over n (bit (kept n F)) F))
  kept-made w = by_test true (true_near K (length l) (subst (Near K) (sym kept-count) w))

  pub kept_stuck : (Near K (size n (bit (kept n F))) → ⊥) → cofactors_aside n K (number (2 ^ n) F) ≡ stuck
  kept_stuck h = by_test false (false_of (has_cofactors K (length l)) (λ e. h (subst (Near K) kept-count
      (near_true K (length l) e))))

  -- and so where so few more count
  pub near-made : Near K (size n (bit (support n F))) → cofactors_aside n K (number (2 ^ n) F)
      ≡ made (cofactor_cells K n (pick n (bit (kept n F)) (inputs n)) (table_over n (bit (kept n F)) F))
  near-made w = kept-made (subst (Near K) (sym (near-kept w.more) ∙ kept-count) w)

  -- and nowhere else
  pub made-near : (cs : List Cell) → cofactors_aside n K (number (2 ^ n) F) ≡ made cs
      → Near K (size n (bit (support n F)))
      × (cs ≡ cofactor_cells K n (pick n (bit (kept n F)) (inputs n)) (table_over n (bit (kept n F)) F))
  made-near cs e = go (has_cofactors K (length l)) refl
    where
      go : (b : Bool) → has_cofactors K (length (pick n (bit (kept n F)) (inputs n))) ≡ b
          → Near K (size n (bit (support n F)))
          × (cs ≡ cofactor_cells K n (pick n (bit (kept n F)) (inputs n)) (table_over n (bit (kept n F)) F))
      go true q =
          let w = near_true K (length l) q in
          let z = by_test true q in
          let same : made cs ≡ made (cofactor_cells K n l U) = sym e ∙ z in
          (subst (Near K) (kept_near (omega (arith, w.more, kept-count))) w, cc)
      go false q = let z = by_test false q in let y : ◌≡◌ {A = ℕ} 0 1 = cc in absurd (omega arith)

  pub far_stuck : K + most_selecting K < size n (bit (support n F)) → cofactors_aside n K (number (2 ^ n) F) ≡ stuck
  far_stuck h = go (cofactors_aside n K (number (2 ^ n) F)) refl
    where
      go : (x : Made) → cofactors_aside n K (number (2 ^ n) F) ≡ x → x ≡ stuck
      go stuck e = refl
      go (made cs) e = absurd (omega (arith, (made-near cs e).0.few))

  pub stuck_far : cofactors_aside n K (number (2 ^ n) F) ≡ stuck → K < size n (bit (support n F))
      → K + most_selecting K < size n (bit (support n F))
  stuck_far e h = elim (dec_lt (K + most_selecting K) c) [
    | yes g ↦ g
    | no g ↦
        let m = near-made (record { more = h; few = omega arith }) in
        let z : ◌≡◌ {A = ℕ} 0 1 = cc in
        absurd (omega arith)
  ]

  -- ---- its cells
  module _ (p : 1 ≤ n) (cs : List Cell) (is : cofactors_aside n K (number (2 ^ n) F) ≡ made cs) where
    abbrev low : AllBelow n l
    low = pick_below n (bit (kept n F)) (inputs n) n (λ j h. inputs_below n j (omega (arith, inputs-length n)))

    abbrev rises : Rising l
    rises = pick-rising n (bit (kept n F)) (inputs n) (omega (arith, inputs-length n)) (inputs-rising n)

    near : Near K c
    near = (made-near cs is).0

    more : K < length l
    more = omega (arith, near.more, near-kept near.more)

    cells_are : cofactor_cells K n l U ≡ cs
    cells_are = sym (made-near cs is).1

    -- as many as is said
    pub aside_count : length cs ≡ cofactor_count K (size n (bit (support n F)) - K)
    aside_count =
        let e = near-kept near.more in
        ap length (sym cells_are) ∙ cofactors_count K n l U more (omega (arith, near.few))
        ∙ ap (λ (m : ℕ). cofactor_count K (m - K)) e

    pub aside_few : (3 ≤ length cs) × (length cs ≤ most_records)
    aside_few =
        let s = c - K in
        let m = count_most K s (omega (arith, near.more)) (omega (arith, near.few)) in
        (omega (arith, aside_count, m.0), omega (arith, aside_count, m.1))

    -- their network gives the table's bit at every assignment
    pub aside_gives : Gives n K F cs
    aside_gives = subst (Gives n K F) cells_are (record {
      some = omega (arith, ap length cells_are, aside_few.0);
      wired = cofactors_wired K n l U two more low rises;
      gives = λ x h.
          cofactors_give K n l U two more low rises (bit x) false
          ∙ ap (bit U) (packed-pick n (bit (kept n F)) (inputs n) (bit x) x (λ j g. ap (bit x) (sym (inputs_at n j g))))
          ∙ over_gather n F (bit (kept n F)) (kept_sees n F) x h;
    })

    -- each fits its record, in every edition whose records hold K signals
    pub aside_fits : (e : Edition) → K ≤ e.most → FitsFrom e n cs
    aside_fits e h = subst (FitsFrom e n) cells_are (cofactors_fit K n l U two more low rises e h)

    -- each but the last is read by a later one
    pub aside_read : AllRead n cs
    aside_read = subst (AllRead n) cells_are (cofactors_read K n l U two more low rises)
