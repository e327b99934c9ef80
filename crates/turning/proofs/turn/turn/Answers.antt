-- `turn` meets its contract: a place that was found is that of the first way, and with none there is no way. Assumes
-- nothing.
use mathlib.Core.Path.{◌≡◌, refl, sym, ap, ◌∙◌}
use mathlib.Core.Bool.{Bool, true, false, cond, not}
use mathlib.Core.List.{[], ◌∷◌}
use Prim.Native.Nat.{ℕ}
use Rattle.std.proofs.Common.{Some, None}
use Rattle.bits.specs.Places.{found_below}
use Rattle.refusals.specs.Verdicts.{Fine}
use Rattle.refusals.specs.Lines.{refusal, line, verdict, reply}
use Rattle.turning.specs.declared.ways.Way.{Way}
use Rattle.turning.specs.Ways.{way_count}
use Rattle.turning.specs.Listing.{way_at, first_way}
use Rattle.turning.specs.Reach.{reaches}
use Rattle.turning.specs.Turn.{turn_done, turn_not, turn_outcome}
use Rattle.turning.proofs.turn.turn.Goals as goal

module _ (f g : ℕ) where
  -- whether there is a way decides the only line
  by : {t : Bool} → reaches f g ≡ t → reply (verdict (line 21 (not t) ∷ [])) (turn_done f g) turn_not ≡ turn_outcome f g
  unfolding turn_outcome
  by h = ap (λ (t : Bool). reply (verdict (line 21 (not t) ∷ [])) (turn_done f g) turn_not) (sym h)

  found : {i : ℕ} {w : Way} → Some i ≡ found_below way_count (first_way f g) → w ≡ way_at i
      → record { verdict = Fine; way = w } ≡ turn_outcome f g
  found {i} {w} p q = go (reaches f g) refl p
    where
      go : (t : Bool) → reaches f g ≡ t → Some i ≡ cond t (Some (first_way f g)) None
          → record { verdict = Fine; way = w } ≡ turn_outcome f g
      go true e h =
          let z : i ≡ first_way f g = cc in
          ap (λ (v : Way). record { verdict = Fine; way = v }) (q ∙ ap way_at z) ∙ by e
      go false e h = cc

  none : None ≡ found_below way_count (first_way f g) → turn_not (refusal 21 0) ≡ turn_outcome f g
  none p = go (reaches f g) refl p
    where
      go : (t : Bool) → reaches f g ≡ t → None ≡ cond t (Some (first_way f g)) None
          → turn_not (refusal 21 0) ≡ turn_outcome f g
      go true e h = cc
      go false e h = by e

pub returns-in-Some : goal.returns-in-Some
returns-in-Some c = let a = c.args in found a.first a.second c.in-Some.ensures c.way_at.ensures

pub returns-in-None : goal.returns-in-None
returns-in-None c = none c.args.first c.args.second c.in-None.ensures
