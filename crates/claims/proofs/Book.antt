-- The book of three-input tables: what is claimed of it. Assumes nothing.
use mathlib.Core.Path.{◌≡◌, sym, ◌∙◌}
use mathlib.Core.Logic.{◌↔◌}
use Prim.Native.Nat.{ℕ, ◌<◌}
use lib.Dec.{lit<}
use Rattle.bits.specs.Lists.{list_of}
use Rattle.turning.specs.Ways.{Reachable}
use Rattle.book.specs.Book.{table_count, LeastReachable, entry, different}
use Rattle.turning.proofs.Group.{reach_same, reach_back, reach_on}
use Rattle.book.proofs.Entries.{entry-least, least-once, same-entry}
use Rattle.book.proofs.Printed.{book, printed, how_many}

-- each entry is reachable, and no smaller number is
pub book_least : (f : ℕ) → f < table_count → LeastReachable f (entry f)
book_least = entry-least

-- which settles it
pub book_settled : (f e : ℕ) → f < table_count → LeastReachable f e → e ≡ entry f
book_settled f e h w = least-once w (entry-least f h)

-- two answers that keep the promise are equal
pub book_once : (f a b : ℕ) → a ≡ entry f → b ≡ entry f → a ≡ b
book_once f a b p q = p ∙ sym q

-- it has 14 different entries
pub book_entries : different (list_of table_count entry) ≡ 14
book_entries = how_many

-- 80 goes to 01, 96 to 69, E8 to 17
pub book_examples : (entry 0x80 ≡ 0x01) × (entry 0x96 ≡ 0x69) × (entry 0xE8 ≡ 0x17)
unfolding book
book_examples = (sym (printed 0x80 (lit< tt)), sym (printed 0x96 (lit< tt)), sym (printed 0xE8 (lit< tt)))

-- two tables have the same entry exactly when swaps and flips turn one into the other
pub book_classes : (f g : ℕ) → f < table_count → g < table_count → Reachable f g ↔ (entry f ≡ entry g)
book_classes = same-entry

-- which a table does with itself, either way round, and one after another
pub reachable_same : (f : ℕ) → Reachable f f
reachable_same = reach_same

pub reachable_back : {f g : ℕ} → Reachable f g → Reachable g f
reachable_back r = reach_back r

pub reachable_on : {f g h : ℕ} → Reachable f g → Reachable g h → Reachable f h
reachable_on r s = reach_on r s
