-- A load is a list of stores, one byte each.
use Rattle.std.specs.Prelude.{◌≡◌, List, [], ◌∷◌, ◌++◌, cond, ℕ, ◌+◌, ◌-◌, ◌<◌, eqb, get_or, set, take, drop}
use Rattle.bits.specs.Lists.{list_of}
use Rattle.sheets.specs.Edition.{record_size, first_edition}
use Rattle.sheets.specs.Sheet.{records}
use Rattle.cards.specs.declared.stores.Store.{Store}
use Rattle.cards.specs.Card.{place_bytes, base, holder, open_mark}

-- the byte b goes to place a of the card
abbrev pub storing : ℕ → ℕ → Store
storing a b = record { place = a; byte = b }

-- a card after some stores, the first of them made first
abbrev pub stored : List Store → List ℕ → List ℕ
stored [] c = c
stored (t ∷ ts) c = stored ts (set c t.place t.byte)

-- k stores upward from place a: the values of f
abbrev pub upward : ℕ → ℕ → (ℕ → ℕ) → List Store
upward a k f = list_of k (λ j. storing (a + j) (f j))

-- ---- a load of the sheet s, of n inputs, onto desk d

-- byte j of the record places: the sheet's; those of unused places are zero
abbrev pub place_byte : List ℕ → ℕ → ℕ
place_byte s j = get_or s j 0

-- byte j of the status record past its mark: n, the count of cells, 13 zeros
abbrev pub status_byte : ℕ → List ℕ → ℕ → ℕ
status_byte n s j = get_or (n ∷ records first_edition s ∷ []) j 0

-- the mark to b
abbrev pub marking : ℕ → ℕ → Store
marking d b = storing (base d + place_bytes) b

-- the place bytes upward, then the rest of the status upward
unfoldable pub filling : ℕ → ℕ → List ℕ → List Store
filling d n s =
    upward (base d) place_bytes (place_byte s)
    ++ upward (base d + (place_bytes + 1)) (record_size - 1) (status_byte n s)

-- mark to 0; the place bytes and the rest of the status; mark to 1
unfoldable pub load_stores : ℕ → ℕ → List ℕ → List Store
load_stores d n s = marking d 0 ∷ (filling d n s ++ (marking d 1 ∷ []))

-- how many these are
abbrev pub store_count : ℕ
store_count = place_bytes + record_size + 1

-- the store i of them
abbrev pub store_at : ℕ → ℕ → List ℕ → ℕ → Store
store_at d n s i = get_or (load_stores d n s) i (storing 0 0)

-- a load that is cut: the first k of its stores, all where it has no more
abbrev pub cut_load : ℕ → ℕ → ℕ → List ℕ → List Store
cut_load k d n s = take k (load_stores d n s)

-- store i of a load alone, none where it has no such
abbrev pub one_store : ℕ → ℕ → ℕ → List ℕ → List Store
one_store i d n s = take 1 (drop i (load_stores d n s))

-- a desk with the bytes o holds the sheet s, of n inputs, and is open
pub record Holds (o : List ℕ) (n : ℕ) (s : List ℕ) : Type 0 where
  pub places : (j : ℕ) → j < place_bytes → get_or o j 0 ≡ place_byte s j
  pub marked : open_mark o ≡ 1
  pub status : (j : ℕ) → j < record_size - 1 → get_or o (place_bytes + 1 + j) 0 ≡ status_byte n s j

-- of any stores those into desk d, in their order
abbrev pub onto : ℕ → List Store → List Store
onto d [] = []
onto d (t ∷ ts) = cond (eqb (holder t.place) d) (t ∷ onto d ts) (onto d ts)
