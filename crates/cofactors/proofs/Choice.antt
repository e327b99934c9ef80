-- Which sheet it is, where make's chain has a table without a split: the answer is what is chosen, in words. Assumes
-- nothing.
use mathlib.Core.Path.{◌≡◌, refl, sym, ap, ◌∙◌, subst}
use mathlib.Core.Logic.{◌↔◌}
use mathlib.Core.Bool.{Bool, true, false, cond}
use mathlib.Core.List.{List}
use Prim.Native.Nat.{ℕ, ◌+◌, ◌-◌, ◌^◌, ◌<◌, ◌≤◌}
use native.Mathlib.Omega.{arith}
use lib.Dec.{leb}
use lib.ListN.{length}
use borrow.Author.Tests.{le-leb, lt-leb, leb-true, leb-false}
use Rattle.bits.specs.Numbers.{bit, number}
use Rattle.bits.specs.Sets.{size}
use Rattle.tables.specs.Counting.{support, kept, table_over}
use Rattle.splits.specs.Columns.{most_first}
use Rattle.sheets.specs.Edition.{most_records}
use Rattle.sheets.specs.Network.{Cell}
use Rattle.chains.specs.Chain.{pick, Made, stuck, made, inputs}
use Rattle.chains.specs.Aside.{cells_aside, sheet_aside}
use Rattle.chains.specs.Words.{Blocked}
use Rattle.chains.specs.Over.{MakesOver}
use Rattle.chains.proofs.Aside.{cells_made, cells_stuck, sheet_stuck}
use Rattle.cofactors.specs.Cofactors.{cofactor_cells, cofactors_aside}
use Rattle.cofactors.specs.Chosen.{Chosen, chain_kept, chain_longer, chain_alone, cofactors_alone}
use Rattle.cofactors.specs.Any.{sheet, overlong, severally, any_aside}
use Rattle.cofactors.proofs.Shorter.{no_answer}
use Rattle.cofactors.proofs.Aside.{near-made, made-near, far_stuck, stuck_far, aside_count, aside_few}
use Rattle.cofactors.proofs.Any.{any_more, stuck_more}

module _ (n K : ℕ) (F : ℕ → Bool) (p : 1 ≤ n) (two : 2 ≤ K) where
  abbrev T : ℕ
  T = number (2 ^ n) F

  -- the inputs that are kept of the gate's, as signals, the table over them, and how many count
  abbrev l : List ℕ
  l = pick n (bit (kept n F)) (inputs n)

  abbrev U : ℕ
  U = table_over n (bit (kept n F)) F

  abbrev c : ℕ
  c = size n (bit (support n F))

  abbrev one : 1 ≤ K
  one = omega arith

  abbrev ms : List Cell
  ms = cofactor_cells K n l U

  room : (cs : List Cell) → length cs ≤ most_records → severally (made cs) ≡ sheet cs
  room cs h = ap (λ (t : Bool). cond t (sheet cs) overlong) (le-leb (length cs) most_records h)

  pub any_chosen : Blocked K n l U → (cs : List Cell) → (any_aside n K (number (2 ^ n) F) ≡ sheet cs)
      ↔ Chosen K n l U c cs
  any_chosen b cs = (λ e. forth (cells_aside most_first n K T) refl (cofactors_aside n K T) refl e, back cs)
    where
      none : sheet_aside n K (number (2 ^ n) F) ≡ stuck
      none = (sheet_stuck n K F p one).1 b

      makes : (xs : List Cell) → cells_aside most_first n K (number (2 ^ n) F) ≡ made xs → MakesOver most_first K n l U xs
      makes xs f = (cells_made most_first n K F p one xs).0 f

      both : (xs ys : List Cell) → cells_aside most_first n K (number (2 ^ n) F) ≡ made xs
          → cofactors_aside n K (number (2 ^ n) F) ≡ made ys → (t : Bool) → leb (length xs) (length ys) ≡ t
          → severally (made (cond t xs ys)) ≡ sheet cs → Chosen K n l U c cs
      both xs ys f g true q e =
          let few = aside_few n K F two p ys g in
          let l = leb-true (length xs) (length ys) q in
          let d : xs ≡ cs = cc (room xs (omega arith)) in
          subst (Chosen K n (pick n (bit (kept n F)) (inputs n)) U c) d
          (chain_kept xs (makes xs f) (made-near n K F two ys g).0 (omega (arith, aside_count n K F two p ys g)))
      both xs ys f g false q e =
          let few = aside_few n K F two p ys g in
          let near = made-near n K F two ys g in
          let d : ys ≡ cs = cc (room ys few.1) in
          let m : cofactor_cells K n l U ≡ cs = sym near.1 ∙ d in
          subst (Chosen K n l U c) m
          (chain_longer xs (makes xs f) near.0 (omega
          (arith, aside_count n K F two p ys g, leb-false (length xs) (length ys) q)))

      alone : (xs : List Cell) → cells_aside most_first n K (number (2 ^ n) F) ≡ made xs
          → cofactors_aside n K (number (2 ^ n) F) ≡ stuck → (t : Bool) → leb (length xs) most_records ≡ t
          → cond t (sheet xs) overlong ≡ sheet cs → Chosen K n l U c cs
      alone xs f g true q e =
          let d : xs ≡ cs = cc in
          subst (Chosen K n l U c) d
          (chain_alone xs (makes xs f) (stuck_far n K F two g (stuck_more n K F p two none)) (leb-true (length xs) most_records q))
      alone xs f g false q e = (no_answer e).1 refl

      forth : (x : Made) → cells_aside most_first n K (number (2 ^ n) F) ≡ x → (y : Made)
          → cofactors_aside n K (number (2 ^ n) F) ≡ y → any_aside n K (number (2 ^ n) F) ≡ sheet cs
          → Chosen K n l U c cs
      forth (made xs) f (made ys) g e = both xs ys f g (leb (length xs) (length ys)) refl
          (sym (any_more n K T (made xs) (made ys) none f g) ∙ e)
      forth (made xs) f stuck g e = alone xs f g (leb (length xs) most_records) refl
          (sym (any_more n K T (made xs) stuck none f g) ∙ e)
      forth stuck f (made ys) g e =
          let few = aside_few n K F two p ys g in
          let near = made-near n K F two ys g in
          let z = any_more n K T stuck (made ys) none f g ∙ room ys few.1 in
          let d : ys ≡ cs = cc in
          let m : cofactor_cells K n l U ≡ cs = sym near.1 ∙ d in
          subst (Chosen K n l U c) m (cofactors_alone ((cells_stuck most_first n K F p one).0 f) near.0)
      forth stuck f stuck g e = (no_answer e).0 (any_more n K T stuck stuck none f g)

      made_by : (xs : List Cell) → MakesOver most_first K n l U xs → cells_aside most_first n K (number (2 ^ n) F)
          ≡ made xs
      made_by xs m = (cells_made most_first n K F p one xs).1 m

      back : (cs : List Cell) → Chosen K n l U c cs → any_aside n K (number (2 ^ n) F) ≡ sheet cs
      back cs (chain_kept xs m w h) =
          let g = near-made n K F two w in
          let few = aside_few n K F two p ms g in
          let count = aside_count n K F two p ms g in
          any_more n K T (made xs) (made ms) none (made_by xs m) g
          ∙ ap (λ (t : Bool). severally (made (cond t xs ms))) (le-leb (length xs) (length ms) (omega arith))
          ∙ room xs (omega arith)
      back cs (chain_longer xs m w h) =
          let g = near-made n K F two w in
          let count = aside_count n K F two p ms g in
          any_more n K T (made xs) (made ms) none (made_by xs m) g
          ∙ ap (λ (t : Bool). severally (made (cond t xs ms))) (lt-leb (length xs) (length ms) (omega arith))
          ∙ room ms (aside_few n K F two p ms g).1
      back cs (chain_alone xs m w h) =
          any_more n K T (made xs) stuck none (made_by xs m) (far_stuck n K F two w) ∙ room xs h
      back cs (cofactors_alone m w) =
          let g = near-made n K F two w in
          any_more n K T stuck (made ms) none ((cells_stuck most_first n K F p one).1 m) g
          ∙ room ms (aside_few n K F two p ms g).1
