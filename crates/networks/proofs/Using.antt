-- Every cell but the last can be taken to be read by a later one: a cell that isn't is left out, and another, which
-- gives the last one on, stands at the end. Assumes nothing.
use mathlib.Core.Path.{◌≡◌, refl, sym, ap, ◌∙◌}
use mathlib.Core.Bool.{Bool, true, false, ◌||◌}
use mathlib.Core.List.{List, [], ◌∷◌}
use Prim.Native.Nat.{ℕ, zero, suc, ◌+◌, ◌-◌, ◌<◌, ◌≤◌}
use native.Mathlib.Nat.{not-suc-le-zero}
use native.Mathlib.Decide.{dec_lt}
use native.Mathlib.Omega.{arith}
use lib.Dec.{eqb}
use lib.ListN.{length, drop, length-drop, get_or-append}
use lib.Seq.{get_or-drop, get_or-append_seam}
use borrow.Author.Tests.{eq-eqb, eqb-false}
use Rattle.bits.specs.Numbers.{val}
use Rattle.bits.specs.Lists.{member}
use Rattle.bits.specs.Below.{least}
use Rattle.bits.proofs.Bools.{or_left}
use Rattle.bits.proofs.Least.{is_least}
use Rattle.sheets.specs.Network.{Cell, Carries}
use Rattle.sheets.specs.Reading.{times, reads, unread_cell, without}
use Rattle.sheets.proofs.Without.{without-length, without_gives}
use Rattle.networks.specs.Signals.{does_read, ReadLater}
use Rattle.networks.specs.Sorted.{Used}
use Rattle.networks.proofs.Padding.{passing, padded, padded_length, padded_gives}

-- ---- a signal that is read, as the place of a cell that reads it

times-member : (x : ℕ) (l : List ℕ) → 1 ≤ times x l → member x l ≡ true
times-member x [] h = absurd (not-suc-le-zero h)
times-member x (y ∷ l) h = go (eqb x y) h (times-member x l)
  where
    go : (t : Bool) → 1 ≤ val t + times x l → (1 ≤ times x l → member x l ≡ true) → (t || member x l) ≡ true
    go true h ih = refl
    go false h ih = ih (omega arith)

record Reader (x : ℕ) (cs : List Cell) : Type 0 where
  place : ℕ
  within : place < length cs
  reads_it : does_read cs place x ≡ true

reader : (x : ℕ) (cs : List Cell) → 1 ≤ reads x cs → Reader x cs
reader x [] h = absurd (not-suc-le-zero h)
reader x (c ∷ cs) h = elim (dec_lt 0 (times x c.signals)) [
  | yes g ↦ record { place = 0; within = omega arith; reads_it = times-member x c.signals g }
  | no g ↦ later (reader x cs (omega arith))
]
  where
    later : Reader x cs → Reader x (c ∷ cs)
    later r = record { place = suc r.place; within = omega (arith, r.within); reads_it = r.reads_it }

read_later : (n : ℕ) (cs : List Cell) (i : ℕ) → unread_cell n cs i ≡ false → ReadLater n cs i
read_later n cs i q = from (reader (n + i) (drop (suc i) cs) (some (reads (n + i) (drop (suc i) cs)) q))
  where
    some : (a : ℕ) → eqb a 0 ≡ false → 1 ≤ a
    some a q = let z = eqb-false a 0 q in omega arith

    from : Reader (n + i) (drop (suc i) cs) → ReadLater n cs i
    from r = record {
      reader = suc i + r.place;
      later = omega arith;
      within = omega (arith, r.within, length-drop (suc i) cs);
      reads =
          ap (λ (c : Cell). member (n + i) c.signals)
          (sym (get_or-drop (suc i) cs r.place (record { signals = []; table = 0 }))) ∙ r.reads_it;
    }

-- ---- the padded network's cells are read

padded_read : (n K m : ℕ) (F : ℕ → Bool) → 1 ≤ K → Used n K m F → Used n K (suc m) F
unfolding padded passing
padded_read n K m F one U = record {
  cells = padded n cs;
  count = padded_length n cs ∙ ap suc U.count;
  network = padded_gives n K F cs one U.network;
  read = λ i h. elim (dec_lt (i + 1) m) [ yes g ↦ old i (U.read i g) | no g ↦ new i (omega arith) ];
}
  where
    cs : List Cell
    cs = U.cells

    last : Cell
    last = passing (n + length U.cells - 1)

    old : (i : ℕ) → ReadLater n cs i → ReadLater n (padded n cs) i
    old i r = record {
      reader = r.reader;
      later = r.later;
      within = omega (arith, r.within, padded_length n cs);
      reads =
          ap (λ (c : Cell). member (n + i) c.signals)
          (get_or-append cs (last ∷ []) (record { signals = []; table = 0 }) r.reader r.within) ∙ r.reads;
    }

    new : (i : ℕ) → i + 1 ≡ m → ReadLater n (padded n cs) i
    new i e = record {
      reader = m;
      later = omega arith;
      within = omega (arith, U.count, padded_length n cs);
      reads =
          ap (λ (k : ℕ). does_read (padded n cs) k (n + i)) (sym U.count)
          ∙ ap (λ (c : Cell). member (n + i) c.signals)
          (get_or-append_seam cs last [] (record { signals = []; table = 0 }))
          ∙ or_left (eqb (n + i) (n + length cs - 1)) false
          (eq-eqb (n + i) (n + length cs - 1) (omega (arith, U.count)));
    }

-- ---- so every network of m cells makes one of which all cells are read
pub all_used : (n K : ℕ) (F : ℕ → Bool) (m : ℕ) → 1 ≤ K → Carries n K m F → Used n K m F
all_used n K F zero one C = absurd (omega (arith, C.count, C.network.some))
all_used n K F (suc m) one C = elim (dec_lt i m) [
  | yes h ↦ padded_read n K m F one (all_used n K F m one (fewer h))
  | no h ↦ record {
    cells = cs;
    count = C.count;
    network = C.network;
    read = λ j l. read_later n cs j ((is_least m (unread_cell n cs)).before j (omega arith));
  }
]
  where
    cs : List Cell
    cs = C.cells

    i : ℕ
    i = least m (unread_cell n cs)

    fewer : i < m → Carries n K m F
    fewer h = record {
      cells = without n i cs;
      count = omega (arith, without-length n i cs (omega (arith, C.count)), C.count);
      network = without_gives n K i F cs C.network (omega (arith, C.count)) ((is_least m (unread_cell n cs)).here h);
    }
