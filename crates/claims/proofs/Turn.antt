-- Turn one three-input table into another: what is claimed of it. Assumes nothing.
use mathlib.Core.Path.{◌≡◌, refl, sym, ap, subst, ◌∙◌}
use mathlib.Core.Logic.{◌↔◌}
use mathlib.Core.Bool.{Bool, true, false, not}
use mathlib.Core.List.{[], ◌∷◌}
use Prim.Native.Nat.{ℕ, ◌<◌}
use native.Mathlib.Omega.{arith}
use borrow.Author.Tests.{ltb-true}
use Rattle.bits.proofs.Bools.{false_of}
use Rattle.refusals.specs.Verdicts.{Refusal, Fine, Refused}
use Rattle.refusals.specs.Lines.{refusal, line, verdict, number_of, place_of, reply}
use Rattle.refusals.proofs.Lines.{not_fine}
use Rattle.turning.specs.declared.ways.Way.{Way}
use Rattle.turning.specs.Ways.{IsWay, Reachable, FirstWay, way_count}
use Rattle.turning.specs.Listing.{way_at, first_way}
use Rattle.book.specs.Book.{table_count, entry}
use Rattle.turning.specs.Reach.{reaches}
use Rattle.turning.specs.Turn.{TurnAnswer, turn_lines, turn_done, turn_not, turn_outcome}
use Rattle.turning.proofs.Listed.{rank, rank_lt, listed, way_at_lem, first_way_lem}
use Rattle.book.proofs.Entries.{reaches_exactly, same-entry}
use Rattle.claims.specs.Words.{ByLines}
use Rattle.claims.proofs.Verdicts.{says_verdict, is_refused_lem, by_lines, no_place}

module _ (f g : ℕ) where
  pub says : (turn_outcome f g).verdict ≡ verdict (turn_lines f g)
  unfolding turn_outcome
  says = says_verdict (λ (a : TurnAnswer). a.verdict) (turn_done f g) turn_not refl (λ r. refl) (verdict (turn_lines f g))

  -- the verdict is that of line 21
  pub turn_lines_lem : ByLines (turn_outcome f g).verdict (turn_lines f g)
  turn_lines_lem = by_lines (turn_lines f g) refl (turn_outcome f g).verdict says

  -- refused: zeros
  pub turn_refused : (r : Refusal) → (turn_outcome f g).verdict ≡ Refused r
      → (turn_outcome f g).way ≡ record { flip = false; mask = 0; p0 = 0; p1 = 0; p2 = 0 }
  unfolding turn_outcome
  turn_refused r h =
      ap (λ (a : TurnAnswer). a.way)
      (is_refused_lem (λ (a : TurnAnswer). a.verdict) (turn_done f g) turn_not refl (λ q. refl) (verdict (turn_lines f g)) r
      h)

  -- nothing is named
  pub turn_names_nothing : place_of (turn_outcome f g).verdict ≡ 0
  turn_names_nothing = no_place (λ k. false) (turn_lines f g) refl says refl

  -- two answers that keep the promise are equal
  pub turn-once : (a b : TurnAnswer) → a ≡ turn_outcome f g → b ≡ turn_outcome f g → a ≡ b
  turn-once a b p q = p ∙ sym q

  by_test : {t : Bool} → reaches f g ≡ t
      → turn_outcome f g ≡ reply (verdict (line 21 (not t) ∷ [])) (turn_done f g) turn_not
  unfolding turn_outcome
  by_test h = ap (λ (t : Bool). reply (verdict (line 21 (not t) ∷ [])) (turn_done f g) turn_not) h

  -- done, if some swap and flips turn the first table into the second
  pub turn_done_lem : Reachable f g → (turn_outcome f g).verdict ≡ Fine
  turn_done_lem r = ap (λ (a : TurnAnswer). a.verdict) (by_test ((reaches_exactly f g).1 r))

  -- and refused as 21 exactly if none do
  pub turn_exactly : (number_of (turn_outcome f g).verdict ≡ 21) ↔ (Reachable f g → ⊥)
  turn_exactly = (
    λ e r. let z : ◌≡◌ {A = ℕ} 0 21 = sym (ap number_of (turn_done_lem r)) ∙ e in omega arith,
    λ n. ap (λ (a : TurnAnswer). number_of a.verdict)
        (by_test (false_of (reaches f g) (λ h. n ((reaches_exactly f g).0 h)))),
  )

  -- the way is the first of all that turn the first table into the second
  pub turn-first : (turn_outcome f g).verdict ≡ Fine → FirstWay f g (turn_outcome f g).way
  turn-first done = go (reaches f g) refl
    where
      go : (t : Bool) → reaches f g ≡ t → FirstWay f g (turn_outcome f g).way
      go true h =
          subst (λ (a : TurnAnswer). FirstWay f g a.way) (sym (by_test h))
          (first_way_lem f g (ltb-true (first_way f g) way_count h))
      go false h = absurd (not_fine (refusal 21 0) (sym done ∙ ap (λ (a : TurnAnswer). a.verdict) (by_test h)))

  -- and there is one exactly when the book has the same entry for both
  pub turn_by_the_book : f < table_count → g < table_count → ((turn_outcome f g).verdict ≡ Fine) ↔ (entry f ≡ entry g)
  turn_by_the_book h k = (
    λ done. (same-entry f g h k).0 (reached (turn-first done)),
    λ e. turn_done_lem ((same-entry f g h k).1 e),
  )
    where
      reached : FirstWay f g (turn_outcome f g).way → Reachable f g
      reached w = record { way = (turn_outcome f g).way; is = w.is; turns = w.turns }

-- there are 96 ways in all: each has its place in the listing, and at each place stands one
pub all_listed : (w : Way) → IsWay w → (rank w < way_count) × (way_at (rank w) ≡ w)
all_listed w k = (rank_lt w k, listed w k)

pub only_ways : (i : ℕ) → i < way_count → IsWay (way_at i)
only_ways = way_at_lem
