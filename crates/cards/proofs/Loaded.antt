-- A desk while it is loaded, and afterwards: its own bytes. Assumes nothing.
use mathlib.Core.Path.{◌≡◌, ap, ◌∙◌}
use mathlib.Core.List.{List, [], ◌∷◌, ◌++◌}
use Prim.Native.Nat.{ℕ, zero, suc, ◌+◌, ◌-◌, ◌*◌, ◌<◌, ◌≤◌}
use native.Mathlib.Nat.{not-suc-le-zero}
use native.Mathlib.Omega.{arith}
use lib.ListN.{length, get_or, set, take, length-set}
use lib.Seq.{ext_get_or, get_or-set_same, get_or-set_other, get_or-take, length-take-le, take-append-le}
use Rattle.sheets.specs.Edition.{record_size, most_records, first_edition}
use Rattle.sheets.specs.Sheet.{records}
use Rattle.cards.specs.Card.{desks, place_bytes, desk_bytes, card_bytes, base, own_bytes, open_mark, inputs_on, count_on}
use Rattle.cards.specs.Card.{sheet_on}
use Rattle.cards.specs.Stores.{stored, place_byte, status_byte, marking, filling, load_stores, store_count, cut_load}
use Rattle.cards.specs.Stores.{Holds}
use Rattle.cards.proofs.Making.{every_take, made_append, made_length, untouched, upward_out, upward_in, own_at}
use Rattle.cards.proofs.Order.{places, status, length-filling, avoids_mark}

module _ (d n : ℕ) (s c : List ℕ) (long : length c ≡ card_bytes) (least : 1 ≤ d) (most : d ≤ desks) where
  -- from the first store to before the last the mark is 0
  pub mark-zero : (k : ℕ) → 1 ≤ k → k < store_count → open_mark (own_bytes (stored (cut_load k d n s) c) d) ≡ 0
  unfolding load_stores
  mark-zero zero h g = absurd (not-suc-le-zero h)
  mark-zero (suc k) h g =
      let a = base d + place_bytes in
      own_at (stored (take k (filling d n s ++ (marking d 1 ∷ []))) (set c a 0)) d place_bytes (omega arith)
      ∙ ap (λ u. get_or (stored u (set c a 0)) a 0) (take-append-le k (filling d n s) (marking d 1 ∷ [])
      (omega (arith, length-filling d n s)))
      ∙ untouched (take k (filling d n s)) (set c a 0) a
      (every_take (λ t. a ≡ t.place → ⊥) k (filling d n s) (avoids_mark d n s))
      ∙ get_or-set_same c a 0 0 (omega arith)

  -- ---- after the last store

  abbrev first : List ℕ
  first = set c (base d + place_bytes) 0

  abbrev filled : List ℕ
  filled = stored (status d n s) (stored (places d n s) first)

  pub whole_made : stored (load_stores d n s) c ≡ set filled (base d + place_bytes) 1
  unfolding load_stores filling
  whole_made =
      made_append (places d n s ++ status d n s) (marking d 1 ∷ []) first
      ∙ ap (λ (l : List ℕ). set l (base d + place_bytes) 1) (made_append (places d n s) (status d n s) first)

  long_places : length (stored (places d n s) first) ≡ card_bytes
  long_places = made_length (places d n s) first ∙ length-set c (base d + place_bytes) 0 ∙ long

  -- every byte is the new sheet's
  pub desk_holds : Holds (own_bytes (stored (load_stores d n s) c) d) n s
  desk_holds = record {
    places = λ j h. at j (omega arith) ∙ get_or-set_other filled (base d + place_bytes) (base d + j) 1 0 (λ q. omega arith)
        ∙ upward_out (base d + (place_bytes + 1)) (status_byte n s) (record_size - 1) (base d + j)
        (stored (places d n s) first) (λ i l q. omega arith)
        ∙ upward_in (base d) (place_byte s) place_bytes j first h (omega (arith, length-set c (base d + place_bytes) 0));
    marked = at place_bytes (omega arith)
        ∙ get_or-set_same filled (base d + place_bytes) 1 0
        (omega (arith, made_length (status d n s) (stored (places d n s) first), long_places));
    status = λ j h. at (place_bytes + 1 + j) (omega arith)
        ∙ get_or-set_other filled (base d + place_bytes) (base d + (place_bytes + 1 + j)) 1 0 (λ q. omega arith)
        ∙ ap (λ (a : ℕ). get_or filled a 0) (over j)
        ∙ upward_in (base d + (place_bytes + 1)) (status_byte n s) (record_size - 1) j (stored (places d n s) first) h
        (omega (arith, long_places));
  }
    where
      at : (j : ℕ) → j < desk_bytes → get_or (own_bytes (stored (load_stores d n s) c) d) j 0
          ≡ get_or (set filled (base d + place_bytes) 1) (base d + j) 0
      at j h = own_at (stored (load_stores d n s) c) d j h ∙ ap (λ (l : List ℕ). get_or l (base d + j) 0) whole_made

      over : (j : ℕ) → base d + (place_bytes + 1 + j) ≡ base d + (place_bytes + 1) + j
      over j = omega arith

-- ---- what such a desk says of itself

module _ (o : List ℕ) (n : ℕ) (s : List ℕ) (h : Holds o n s) where
  pub says_inputs : inputs_on o ≡ n
  says_inputs = h.status 0 (omega arith)

  pub says_cells : count_on o ≡ records first_edition s
  says_cells = h.status 1 (omega arith)

  pub says_sheet : length o ≡ desk_bytes → record_size * records first_edition s ≡ length s → records first_edition s
      ≤ most_records → sheet_on o ≡ s
  says_sheet l w m =
      let k = record_size * records first_edition s in
      let q : length (take k o) ≡ length s = length-take-le k o (omega arith) ∙ w in
      ap (λ (i : ℕ). take (record_size * i) o) says_cells
      ∙ ext_get_or 0 (take k o) s q (λ j g. let i : j < place_bytes = omega arith in get_or-take k o j 0 (omega arith)
      ∙ h.places j i)
