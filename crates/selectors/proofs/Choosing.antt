-- The chain or the sheet of cofactors, from what the code holds of both. Assumes nothing.
use mathlib.Core.Path.{◌≡◌, refl, sym, ap, ap₂, ◌∙◌, subst}
use mathlib.Core.Bool.{Bool, true, false, cond}
use mathlib.Core.List.{List}
use Prim.Native.Nat.{ℕ, ◌+◌, ◌^◌, ◌<◌, ◌≤◌}
use native.Mathlib.Omega.{arith}
use lib.Dec.{leb}
use lib.ListN.{length, get_or}
use borrow.Author.Tests.{le-leb, lt-leb, leb-true, leb-false}
use Rattle.bits.specs.Numbers.{bit, number}
use Rattle.bits.specs.Sets.{size}
use Rattle.std.proofs.Common.{Option, Some, None}
use Rattle.std.specs.Option.{IsSomeAnd}
use Rattle.bits.proofs.Lists.{length-list}
use Rattle.bits.proofs.Sizes.{size-le}
use Rattle.tables.specs.Table.{most_inputs, table_bit}
use Rattle.tables.specs.Counting.{table_over}
use Rattle.splits.specs.Columns.{most_first}
use Rattle.sheets.specs.declared.kinds.Sheet.{Sheet}
use Rattle.sheets.specs.Network.{Cell}
use Rattle.sheets.specs.Held.{cells_of}
use Rattle.chains.specs.Chain.{pick, Made, stuck, made, inputs}
use Rattle.chains.specs.Aside.{cells_aside}
use Rattle.chains.proofs.Lists.{pick-length}
use Rattle.cofactors.specs.Cofactors.{cofactor_cells, most_selecting, cofactors_aside}
use Rattle.cofactors.specs.Any.{shorter, otherwise}
use Rattle.cofactors.specs.Chosen.{Near}
use Rattle.cofactors.proofs.Aside.{aside_few}
use Rattle.making.specs.declared.signals.Signals.{Signals}
use Rattle.making.specs.declared.chaining.ChainEnd.{ChainEnd}
use Rattle.making.specs.Stage.{signals_of}
use Rattle.making.specs.Area.{at_hand}
use Rattle.making.specs.Chaining.{Tells}
use Rattle.making.proofs.Halves.{at_hand_lem}
use Rattle.making.proofs.Piling.{cells_count}

-- ---- how many inputs are near K
pub near-two : (k c : ℕ) → k < c → k < 3 → (leb c (k + 2) ≡ true → Near k c) × (leb c (k + 2) ≡ false → Near k c → ⊥)
near-two k c m h =
    let e : most_selecting k ≡ 2 = ap (λ (t : Bool). cond t 3 2) (lt-leb 3 k h) in (
      λ q. record { more = m; few = omega (arith, leb-true c (k + 2) q) },
      λ q w. omega (arith, leb-false c (k + 2) q, w.few),
    )

pub near_three : (k c : ℕ) → k < c → 3 ≤ k → (leb c (k + 3) ≡ true → Near k c)
    × (leb c (k + 3) ≡ false → Near k c → ⊥)
near_three k c m h =
    let e : most_selecting k ≡ 3 = ap (λ (t : Bool). cond t 3 2) (le-leb 3 k h) in (
      λ q. record { more = m; few = omega (arith, leb-true c (k + 3) q) },
      λ q w. omega (arith, leb-false c (k + 3) q, w.few),
    )

-- ---- what is kept of a gate's table, in the work area and as signals
module _ (n k : ℕ) (F : ℕ → Bool) (m : ℕ) (s : Signals) (picked : signals_of s ≡ pick n (bit m) (inputs n)) where
  pub count : s.count ≡ size n (bit m)
  count = sym (length-list s.count (λ j. get_or s.at j 0)) ∙ ap length picked ∙ pick-length n (bit m) (inputs n)

  pub kept_cells : (work : List ℕ) → n ≤ most_inputs → number (2 ^ size n (bit m)) (table_bit work)
      ≡ table_over n (bit m) F
      → cofactor_cells k n (signals_of s) (number (2 ^ s.count) (at_hand work))
      ≡ cofactor_cells k n (pick n (bit m) (inputs n)) (table_over n (bit m) F)
  kept_cells work large over =
      ap₂ (cofactor_cells k n) picked (at_hand_lem work s.count (omega (arith, count, size-le n (bit m)))
      ∙ ap (λ (c : ℕ). number (2 ^ c) (table_bit work)) count ∙ over)

-- ---- the one with fewer cells
module _ (other : Sheet) where
  pub tells_first : (a : ChainEnd) → a.count ≤ other.count → (x : Made) (cs : List Cell) → Tells (Some a) x
      → cells_of other ≡ cs → Tells (Some a) (shorter x (made cs))
  tells_first a h stuck cs w e = absurd w
  tells_first a h (made xs) cs w e =
      subst (λ (t : Bool). Tells (Some a) (made (cond t xs cs))) (sym (le-leb (length xs) (length cs)
      (omega (arith, w.0, ap length e, cells_count other)))) w

  abbrev its : Option ChainEnd
  its = Some (record { count = other.count; sheet = other })

  its_told : (cs : List Cell) → cells_of other ≡ cs → Tells its (made cs)
  its_told cs e = (sym (cells_count other) ∙ ap length e, λ few. e)

  pub tells_longer : (a : ChainEnd) → other.count < a.count → (x : Made) (cs : List Cell) → Tells (Some a) x
      → cells_of other ≡ cs → Tells its (shorter x (made cs))
  tells_longer a h stuck cs w e = its_told cs e
  tells_longer a h (made xs) cs w e =
      subst (λ (t : Bool). Tells its (made (cond t xs cs))) (sym (lt-leb (length xs) (length cs)
      (omega (arith, w.0, ap length e, cells_count other)))) (its_told cs e)

  pub tells_stuck : (x : Made) (cs : List Cell) → Tells None x → cells_of other ≡ cs → Tells its (shorter x (made cs))
  tells_stuck stuck cs w e = its_told cs e
  tells_stuck (made xs) cs w e = absurd w

-- ---- three cells or fewer are as few as a sheet of cofactors has
pub tells_three : (n K : ℕ) (F : ℕ → Bool) → 1 ≤ n → 2 ≤ K → (a : Option ChainEnd) → IsSomeAnd a (λ e. e.count ≤ 3)
    → Tells a (cells_aside most_first n K (number (2 ^ n) F)) → Tells a (otherwise n K (number (2 ^ n) F))
unfolding otherwise
tells_three n K F p two None few w = absurd few
tells_three n K F p two (Some a) few w = go (cells_aside most_first n K T) w (cofactors_aside n K T) refl
  where
    T : ℕ
    T = number (2 ^ n) F

    go : (x : Made) → Tells (Some a) x → (y : Made) → cofactors_aside n K (number (2 ^ n) F) ≡ y
        → Tells (Some a) (shorter x y)
    go stuck w y e = absurd w
    go (made xs) w stuck e = w
    go (made xs) w (made ys) e =
        subst (λ (t : Bool). Tells (Some a) (made (cond t xs ys))) (sym (le-leb (length xs) (length ys)
        (omega (arith, w.0, few, (aside_few n K F two p ys e).0)))) w

-- ---- with and without a sheet of cofactors
module _ (n K T : ℕ) (a : Option ChainEnd) where
  pub tells_alone : cofactors_aside n K T ≡ stuck → Tells a (cells_aside most_first n K T) → Tells a (otherwise n K T)
  unfolding otherwise
  tells_alone e w = subst (λ (y : Made). Tells a (shorter (cells_aside most_first n K T) y)) (sym e)
      (go (cells_aside most_first n K T) w)
    where
      go : (x : Made) → Tells a x → Tells a (shorter x stuck)
      go stuck w = w
      go (made cs) w = w

  pub tells_both : (cs : List Cell) → cofactors_aside n K T ≡ made cs
      → Tells a (shorter (cells_aside most_first n K T) (made cs)) → Tells a (otherwise n K T)
  unfolding otherwise
  tells_both cs e w = subst (λ (y : Made). Tells a (shorter (cells_aside most_first n K T) y)) (sym e) w
