-- The order of a load's stores: which is the i-th, that each goes to the load's own desk, and that only the first and
-- the last go to its mark. Assumes nothing.
use mathlib.Core.Path.{◌≡◌, refl, sym, ap, ap₂, ◌∙◌}
use mathlib.Core.Bool.{Bool, true, false, cond}
use mathlib.Core.List.{List, [], ◌∷◌, ◌++◌}
use Prim.Native.Nat.{ℕ, suc, ◌+◌, ◌-◌, ◌<◌, ◌≤◌}
use native.Mathlib.Omega.{arith}
use lib.Dec.{eqb}
use lib.ListN.{length, get_or, set, take, drop, length-append, length-drop, get_or-append}
use lib.Seq.{get_or-append-add, get_or-drop, take-suc}
use borrow.Author.Tests.{eq-eqb, ne_eqb}
use Rattle.bits.proofs.Lists.{length-list, list_at}
use Rattle.sheets.specs.Edition.{record_size}
use Rattle.cards.specs.declared.stores.Store.{Store}
use Rattle.cards.specs.Card.{desks, place_bytes, desk_bytes, card_bytes, base, holder}
use Rattle.cards.specs.Stores.{storing, stored, upward, place_byte, status_byte, marking, filling, load_stores}
use Rattle.cards.specs.Stores.{store_count, store_at, onto}
use Rattle.cards.proofs.Making.{Every, every_map, every_append, every-list, every_at, made_append}

module _ (d n : ℕ) (s : List ℕ) where
  abbrev pub places : List Store
  places = upward (base d) place_bytes (place_byte s)

  abbrev pub status : List Store
  status = upward (base d + (place_bytes + 1)) (record_size - 1) (status_byte n s)

  pub length-filling : length (filling d n s) ≡ desk_bytes - 1
  unfolding filling
  length-filling = length-append places status ∙ ap₂ ◌+◌
      (length-list place_bytes (λ j. storing (base d + j) (place_byte s j)))
      (length-list (record_size - 1) (λ j. storing (base d + (place_bytes + 1) + j) (status_byte n s j)))

  pub length_load : length (load_stores d n s) ≡ store_count
  unfolding load_stores
  length_load = ap suc (length-append (filling d n s) (marking d 1 ∷ []) ∙ ap (λ (k : ℕ). k + 1) length-filling)

  -- ---- the i-th store

  at_first : store_at d n s 0 ≡ marking d 0
  unfolding load_stores
  at_first = refl

  fill_at : (j : ℕ) → j < desk_bytes - 1 → store_at d n s (suc j) ≡ get_or (filling d n s) j (storing 0 0)
  unfolding load_stores
  fill_at j h = get_or-append (filling d n s) (marking d 1 ∷ []) (storing 0 0) j (omega (arith, length-filling))

  at_place : (j : ℕ) → j < place_bytes → store_at d n s (suc j) ≡ storing (base d + j) (place_byte s j)
  unfolding filling
  at_place j h =
      let f : ℕ → Store = λ i. storing (base d + i) (place_byte s i) in
      fill_at j (omega arith) ∙ get_or-append places status (storing 0 0) j (omega (arith, length-list place_bytes f))
      ∙ list_at place_bytes f j (storing 0 0) h

  at_status : (j : ℕ) → j < record_size - 1 → store_at d n s (suc (place_bytes + j))
      ≡ storing (base d + (place_bytes + 1) + j) (status_byte n s j)
  unfolding filling
  at_status j h =
      let f : ℕ → Store = λ i. storing (base d + i) (place_byte s i) in
      let g : ℕ → Store = λ i. storing (base d + (place_bytes + 1) + i) (status_byte n s i) in
      fill_at (place_bytes + j) (omega arith)
      ∙ ap (λ (k : ℕ). get_or (places ++ status) (k + j) (storing 0 0)) (sym (length-list place_bytes f))
      ∙ get_or-append-add places status j (storing 0 0) ∙ list_at (record_size - 1) g j (storing 0 0) h

  at_last : store_at d n s (store_count - 1) ≡ marking d 1
  unfolding load_stores
  at_last =
      ap (λ (k : ℕ). get_or (filling d n s ++ (marking d 1 ∷ [])) (k + 0) (storing 0 0)) (sym length-filling)
      ∙ get_or-append-add (filling d n s) (marking d 1 ∷ []) 0 (storing 0 0)

  -- the same as the code makes it
  pub store_first : (i : ℕ) → i ≡ 0 → marking d 0 ≡ store_at d n s i
  store_first i q = sym (ap (store_at d n s) q ∙ at_first)

  pub store_place : (i b : ℕ) → 1 ≤ i → i ≤ place_bytes → b ≡ place_byte s (i - 1) → storing (base d + (i - 1)) b
      ≡ store_at d n s i
  store_place i b h g q =
      let e : i ≡ suc (i - 1) = omega arith in
      ap (storing (base d + (i - 1))) q ∙ sym (ap (store_at d n s) e ∙ at_place (i - 1) (omega arith))

  pub store_status : (i b : ℕ) → place_bytes < i → i < desk_bytes → b ≡ status_byte n s (i - (place_bytes + 1))
      → storing (base d + i) b ≡ store_at d n s i
  store_status i b h g q =
      let j = i - (place_bytes + 1) in
      let e : i ≡ suc (place_bytes + j) = omega arith in
      let a : base d + i ≡ base d + (place_bytes + 1) + j = omega arith in
      ap₂ storing a q ∙ sym (ap (store_at d n s) e ∙ at_status j (omega arith))

  pub store_last : (i : ℕ) → i ≡ desk_bytes → marking d 1 ≡ store_at d n s i
  store_last i q = sym (ap (store_at d n s) q ∙ at_last)

  -- one store more
  pub made_next : (c o : List ℕ) (t : Store) (first i : ℕ) → first ≤ i → i < store_count → t ≡ store_at d n s i
      → o ≡ stored (take (i - first) (drop first (load_stores d n s))) c
      → set o t.place t.byte ≡ stored (take (i + 1 - first) (drop first (load_stores d n s))) c
  made_next c o t first i h g q e =
      let l = drop first (load_stores d n s) in
      let j = i - first in
      let k : i + 1 - first ≡ suc j = omega arith in
      let at : first + j ≡ i = omega arith in
      let w : get_or l j (storing 0 0) ≡ t = get_or-drop first (load_stores d n s) j (storing 0 0) ∙ ap (store_at d n s) at
      ∙ sym q in
      ap (λ (y : List ℕ). set y t.place t.byte) e
      ∙ sym (ap (λ (m : ℕ). stored (take m l) c) k
      ∙ ap (λ (u : List Store). stored u c) (take-suc l j (storing 0 0)
      (omega (arith, length-drop first (load_stores d n s), length_load)))
      ∙ made_append (take j l) (get_or l j (storing 0 0) ∷ []) c
      ∙ ap (λ (y : Store). set (stored (take j l) c) y.place y.byte) w)

  -- ---- where they go

  -- between the first and the last none goes to the mark
  pub avoids_mark : Every (λ t. base d + place_bytes ≡ t.place → ⊥) (filling d n s)
  unfolding filling
  avoids_mark =
      let P : Store → Type 0 = λ t. base d + place_bytes ≡ t.place → ⊥ in
      every_append P places status (every-list P place_bytes (λ j. storing (base d + j) (place_byte s j))
      (λ j l q. omega arith))
      (every-list P (record_size - 1) (λ j. storing (base d + (place_bytes + 1) + j) (status_byte n s j))
      (λ j l q. omega arith))

  -- each goes to one of the desk's own bytes
  abbrev Within : Store → Type 0
  Within t = (base d ≤ t.place) × (t.place < base d + desk_bytes)

  pub all_within : Every Within (load_stores d n s)
  unfolding load_stores filling
  all_within = (
    (omega arith, omega arith),
    every_append Within (places ++ status) (marking d 1 ∷ [])
        (every_append Within places status (every-list Within place_bytes (λ j. storing (base d + j) (place_byte s j))
        (λ j l. (omega arith, omega arith)))
        (every-list Within (record_size - 1) (λ j. storing (base d + (place_bytes + 1) + j) (status_byte n s j))
        (λ j l. (omega arith, omega arith))))
        ((omega arith, omega arith), tt),
  )

-- so it lies on the card
pub on_card : (d n : ℕ) (s : List ℕ) (i : ℕ) → 1 ≤ d → d ≤ desks → i < store_count → (store_at d n s i).place < card_bytes
on_card d n s i l m h = let w = every_at (Within d n s) (load_stores d n s) (storing 0 0) i (all_within d n s)
    (omega (arith, length_load d n s)) in omega (arith, w.1)

-- ---- stores into one desk

-- of some stores into desk d, those into d are all, and those into another none
abbrev pub Into : ℕ → Store → Type 0
Into d t = holder t.place ≡ d

pub onto-append : (d : ℕ) (u w : List Store) → onto d (u ++ w) ≡ onto d u ++ onto d w
onto-append d [] w = refl
onto-append d (t ∷ u) w = go (eqb (holder t.place) d) (onto-append d u w)
  where
    go : (r : Bool) → onto d (u ++ w) ≡ onto d u ++ onto d w → cond r (t ∷ onto d (u ++ w)) (onto d (u ++ w))
        ≡ cond r (t ∷ onto d u) (onto d u) ++ onto d w
    go true ih = ap (λ (l : List Store). t ∷ l) ih
    go false ih = ih

pub onto_own : (d : ℕ) (u : List Store) → Every (Into d) u → onto d u ≡ u
onto_own d [] h = refl
onto_own d (t ∷ u) h =
    ap (λ (r : Bool). cond r (t ∷ onto d u) (onto d u)) (eq-eqb (holder t.place) d h.0)
    ∙ ap (λ (l : List Store). t ∷ l) (onto_own d u h.1)

pub onto_other : (d f : ℕ) (u : List Store) → (d ≡ f → ⊥) → Every (Into d) u → onto f u ≡ []
onto_other d f [] e h = refl
onto_other d f (t ∷ u) e h =
    ap (λ (r : Bool). cond r (t ∷ onto f u) (onto f u)) (ne_eqb (holder t.place) f (λ q. e (sym h.0 ∙ q)))
    ∙ onto_other d f u e h.1

pub all_into : (d n : ℕ) (s : List ℕ) → 1 ≤ d → Every (Into d) (load_stores d n s)
all_into d n s l = every_map (Within d n s) (Into d) (λ t w. at t.place w.0 w.1) (load_stores d n s)
    (all_within d n s)
  where
    at : (p : ℕ) → base d ≤ p → p < base d + desk_bytes → holder p ≡ d
    at p a b = omega arith
