-- The printed book, and its rule: each entry is reachable and no smaller number is, by one test over the whole book.
-- Assumes nothing.
use mathlib.Core.Path.{◌≡◌, refl, sym, ap, subst, ◌∙◌}
use mathlib.Core.Bool.{Bool, true, cond, ◌&&◌}
use mathlib.Core.List.{List, [], ◌∷◌}
use Prim.Native.Nat.{ℕ, ◌<◌, ◌≤◌}
use native.Mathlib.Omega.{arith}
use lib.Dec.{leb, ltb, eqb}
use lib.ListN.{get_or}
use borrow.Author.Tests.{leb-true, ltb-true}
use Rattle.bits.specs.Numbers.{bit, number}
use Rattle.bits.specs.Below.{every, least}
use Rattle.bits.specs.Lists.{list_of}
use Rattle.bits.proofs.Bools.{and_left, and_right}
use Rattle.bits.proofs.Below.{every_at}
use Rattle.bits.proofs.Lists.{list-of}
use Rattle.bits.proofs.Numbers.{number_ext, number_bit}
use Rattle.turning.specs.declared.ways.Way.{Way}
use Rattle.turning.specs.Ways.{flipped, moved, Turns, Reachable, way_count}
use Rattle.turning.specs.Listing.{way_at, turns, first_way}
use Rattle.book.specs.Book.{table_count, LeastReachable, entry, different}
use Rattle.turning.specs.Reach.{reaches}
use Rattle.turning.proofs.Listed.{rank, rank_lt, listed}
use Rattle.turning.proofs.Group.{reach_same, reach_back, reach_on}
use Rattle.book.proofs.Entries.{reaches_exactly, entry-least, least-once}

unfoldable pub book : List ℕ
book =
    0x00 ∷ 0x01 ∷ 0x01 ∷ 0x03 ∷ 0x01 ∷ 0x03 ∷ 0x06 ∷ 0x07 ∷ 0x01 ∷ 0x06 ∷ 0x03 ∷ 0x07 ∷ 0x03 ∷ 0x07 ∷ 0x07 ∷ 0x0F ∷
    0x01 ∷ 0x03 ∷ 0x06 ∷ 0x07 ∷ 0x06 ∷ 0x07 ∷ 0x16 ∷ 0x17 ∷ 0x18 ∷ 0x19 ∷ 0x19 ∷ 0x1B ∷ 0x19 ∷ 0x1B ∷ 0x1E ∷ 0x07 ∷
    0x01 ∷ 0x06 ∷ 0x03 ∷ 0x07 ∷ 0x18 ∷ 0x19 ∷ 0x19 ∷ 0x1B ∷ 0x06 ∷ 0x16 ∷ 0x07 ∷ 0x17 ∷ 0x19 ∷ 0x1E ∷ 0x1B ∷ 0x07 ∷
    0x03 ∷ 0x07 ∷ 0x07 ∷ 0x0F ∷ 0x19 ∷ 0x1B ∷ 0x1E ∷ 0x07 ∷ 0x19 ∷ 0x1E ∷ 0x1B ∷ 0x07 ∷ 0x3C ∷ 0x19 ∷ 0x19 ∷ 0x03 ∷
    0x01 ∷ 0x06 ∷ 0x18 ∷ 0x19 ∷ 0x03 ∷ 0x07 ∷ 0x19 ∷ 0x1B ∷ 0x06 ∷ 0x16 ∷ 0x19 ∷ 0x1E ∷ 0x07 ∷ 0x17 ∷ 0x1B ∷ 0x07 ∷
    0x03 ∷ 0x07 ∷ 0x19 ∷ 0x1B ∷ 0x07 ∷ 0x0F ∷ 0x1E ∷ 0x07 ∷ 0x19 ∷ 0x1E ∷ 0x3C ∷ 0x19 ∷ 0x1B ∷ 0x07 ∷ 0x19 ∷ 0x03 ∷
    0x06 ∷ 0x16 ∷ 0x19 ∷ 0x1E ∷ 0x19 ∷ 0x1E ∷ 0x3C ∷ 0x19 ∷ 0x16 ∷ 0x69 ∷ 0x1E ∷ 0x16 ∷ 0x1E ∷ 0x16 ∷ 0x19 ∷ 0x06 ∷
    0x07 ∷ 0x17 ∷ 0x1B ∷ 0x07 ∷ 0x1B ∷ 0x07 ∷ 0x19 ∷ 0x03 ∷ 0x1E ∷ 0x16 ∷ 0x19 ∷ 0x06 ∷ 0x19 ∷ 0x06 ∷ 0x18 ∷ 0x01 ∷
    0x01 ∷ 0x18 ∷ 0x06 ∷ 0x19 ∷ 0x06 ∷ 0x19 ∷ 0x16 ∷ 0x1E ∷ 0x03 ∷ 0x19 ∷ 0x07 ∷ 0x1B ∷ 0x07 ∷ 0x1B ∷ 0x17 ∷ 0x07 ∷
    0x06 ∷ 0x19 ∷ 0x16 ∷ 0x1E ∷ 0x16 ∷ 0x1E ∷ 0x69 ∷ 0x16 ∷ 0x19 ∷ 0x3C ∷ 0x1E ∷ 0x19 ∷ 0x1E ∷ 0x19 ∷ 0x16 ∷ 0x06 ∷
    0x03 ∷ 0x19 ∷ 0x07 ∷ 0x1B ∷ 0x19 ∷ 0x3C ∷ 0x1E ∷ 0x19 ∷ 0x07 ∷ 0x1E ∷ 0x0F ∷ 0x07 ∷ 0x1B ∷ 0x19 ∷ 0x07 ∷ 0x03 ∷
    0x07 ∷ 0x1B ∷ 0x17 ∷ 0x07 ∷ 0x1E ∷ 0x19 ∷ 0x16 ∷ 0x06 ∷ 0x1B ∷ 0x19 ∷ 0x07 ∷ 0x03 ∷ 0x19 ∷ 0x18 ∷ 0x06 ∷ 0x01 ∷
    0x03 ∷ 0x19 ∷ 0x19 ∷ 0x3C ∷ 0x07 ∷ 0x1B ∷ 0x1E ∷ 0x19 ∷ 0x07 ∷ 0x1E ∷ 0x1B ∷ 0x19 ∷ 0x0F ∷ 0x07 ∷ 0x07 ∷ 0x03 ∷
    0x07 ∷ 0x1B ∷ 0x1E ∷ 0x19 ∷ 0x17 ∷ 0x07 ∷ 0x16 ∷ 0x06 ∷ 0x1B ∷ 0x19 ∷ 0x19 ∷ 0x18 ∷ 0x07 ∷ 0x03 ∷ 0x06 ∷ 0x01 ∷
    0x07 ∷ 0x1E ∷ 0x1B ∷ 0x19 ∷ 0x1B ∷ 0x19 ∷ 0x19 ∷ 0x18 ∷ 0x17 ∷ 0x16 ∷ 0x07 ∷ 0x06 ∷ 0x07 ∷ 0x06 ∷ 0x03 ∷ 0x01 ∷
    0x0F ∷ 0x07 ∷ 0x07 ∷ 0x03 ∷ 0x07 ∷ 0x03 ∷ 0x06 ∷ 0x01 ∷ 0x07 ∷ 0x06 ∷ 0x03 ∷ 0x01 ∷ 0x03 ∷ 0x01 ∷ 0x01 ∷ 0x00 ∷
    []

abbrev printed_at : ℕ → ℕ
printed_at f = get_or book f 0

-- the table that a way turns f into
turned : Way → ℕ → ℕ
turned w f = number 8 (λ x. flipped w.flip (bit f (moved w x)))

-- whether a table is its own entry
abbrev is_entry : ℕ → Bool
is_entry e = ltb e table_count && eqb (printed_at e) e

-- whether no way turns it into a smaller one
abbrev lowest : ℕ → Bool
lowest e = every way_count (λ i. leb e (turned (way_at i) e))

abbrev reached_at : ℕ → Bool
reached_at f = is_entry (printed_at f) && reaches f (printed_at f)

-- Only the fourteen tables that are their own entries are turned in every way: what can be reached from any other can
-- be reached from its entry.
abbrev low_at : ℕ → Bool
low_at e = cond (is_entry e) (lowest e) true

rule : (every table_count reached_at && every table_count low_at) ≡ true
unfolding book first_way least turns turned way_at moved number
rule = refl

turned_is : (w : Way) (f g : ℕ) → g < table_count → Turns w f g → turned w f ≡ g
unfolding turned
turned_is w f g l t = number_ext 8 _ (bit g) (λ x b. sym (t x b)) ∙ number_bit 8 g l

low_at_lem : (e : ℕ) → is_entry e ≡ true → lowest e ≡ true
low_at_lem e p =
    sym (ap (λ (b : Bool). cond b (lowest e) true) p)
    ∙ every_at table_count low_at (and_right (every table_count reached_at) (every table_count low_at) rule) e
    (ltb-true e table_count (and_left (ltb e table_count) (eqb (printed_at e) e) p))

-- a table that is its own entry is the least of all that it can be turned into
least-of : (e g : ℕ) → is_entry e ≡ true → g < table_count → Reachable e g → e ≤ g
least-of e g p l r =
    let w = r.way in
    let t = subst (λ (v : Way). Turns v e g) (sym (listed w r.is)) r.turns in
    subst (λ (m : ℕ). e ≤ m) (turned_is (way_at (rank w)) e g l t)
    (leb-true _ _ (every_at way_count (λ i. leb e (turned (way_at i) e)) (low_at_lem e p) (rank w) (rank_lt w r.is)))

module _ (f : ℕ) (h : f < table_count) where
  here : reached_at f ≡ true
  here = every_at table_count reached_at (and_left (every table_count reached_at) (every table_count low_at) rule) f h

  reached : Reachable f (printed_at f)
  reached = (reaches_exactly f (printed_at f)).0 (and_right (is_entry (printed_at f)) (reaches f (printed_at f)) here)

  none-lower : (g : ℕ) → g < table_count → Reachable f g → printed_at f ≤ g
  none-lower g l r =
      least-of (printed_at f) g (and_left (is_entry (printed_at f)) (reaches f (printed_at f)) here) l
      (reach_on (reach_back reached) r)

  pub book_rule : LeastReachable f (get_or book f 0)
  book_rule = record { table = omega (arith, none-lower f h (reach_same f)); reachable = reached; least = none-lower }

  pub printed : get_or book f 0 ≡ entry f
  printed = least-once book_rule (entry-least f h)

-- it is all the entries in turn
pub book_is : list_of table_count entry ≡ book
unfolding book
book_is = list-of table_count entry book 0 refl (λ f h. sym (printed f h))

pub how_many : different (list_of table_count entry) ≡ 14
unfolding book
how_many = ap different book_is
