-- What a list of stores makes of a card: byte by byte, each desk's by the stores into that desk alone. Assumes nothing.
use mathlib.Core.Path.{◌≡◌, refl, sym, ap, ◌∙◌}
use mathlib.Core.Bool.{Bool, true, false, cond}
use mathlib.Core.List.{List, [], ◌∷◌, ◌++◌}
use Prim.Native.Nat.{ℕ, zero, suc, ◌+◌, ◌<◌, ◌≤◌}
use native.Mathlib.Decide.{dec_lt}
use native.Mathlib.Nat.{not-suc-le-zero}
use native.Mathlib.Omega.{arith}
use lib.Dec.{eqb}
use lib.ListN.{length, get_or, set, take, drop, length-set, length-drop}
use lib.Seq.{ext_get_or, get_or-set_same, get_or-set_other, set_out, get_or-take, get_or-drop, length-take-le}
use borrow.Author.Tests.{eqb-true, eqb-false}
use Rattle.bits.specs.Lists.{list_of}
use Rattle.cards.specs.declared.stores.Store.{Store}
use Rattle.cards.specs.Card.{desks, desk_bytes, card_bytes, base, holder, own_bytes}
use Rattle.cards.specs.Stores.{storing, stored, upward, onto}

-- ---- all of some stores

abbrev pub Every : (Store → Type 0) → List Store → Type 0
Every P [] = Unit {0}
Every P (t ∷ ts) = P t × Every P ts

pub every_map : (P Q : Store → Type 0) → ((t : Store) → P t → Q t) → (u : List Store) → Every P u → Every Q u
every_map P Q f [] a = tt
every_map P Q f (t ∷ u) a = (f t a.0, every_map P Q f u a.1)

module _ (P : Store → Type 0) where
  pub every_append : (u w : List Store) → Every P u → Every P w → Every P (u ++ w)
  every_append [] w a b = b
  every_append (t ∷ u) w a b = (a.0, every_append u w a.1 b)

  pub every-list : (k : ℕ) (f : ℕ → Store) → ((j : ℕ) → j < k → P (f j)) → Every P (list_of k f)
  unfolding list_of
  every-list zero f h = tt
  every-list (suc k) f h = every_append (list_of k f) (f k ∷ []) (every-list k f (λ j l. h j (omega arith)))
      (h k (omega arith), tt)

  pub every_take : (k : ℕ) (u : List Store) → Every P u → Every P (take k u)
  every_take zero u a = tt
  every_take (suc k) [] a = tt
  every_take (suc k) (t ∷ u) a = (a.0, every_take k u a.1)

  pub every_drop : (k : ℕ) (u : List Store) → Every P u → Every P (drop k u)
  every_drop zero u a = a
  every_drop (suc k) [] a = tt
  every_drop (suc k) (t ∷ u) a = every_drop k u a.1

  pub every_at : (u : List Store) (d : Store) (i : ℕ) → Every P u → i < length u → P (get_or u i d)
  every_at [] d i a h = absurd (not-suc-le-zero h)
  every_at (t ∷ u) d zero a h = a.0
  every_at (t ∷ u) d (suc i) a h = every_at u d i a.1 (omega arith)

-- ---- stores one after another

pub made_append : (u w : List Store) (c : List ℕ) → stored (u ++ w) c ≡ stored w (stored u c)
made_append [] w c = refl
made_append (t ∷ u) w c = made_append u w (set c t.place t.byte)

pub made_length : (u : List Store) (c : List ℕ) → length (stored u c) ≡ length c
made_length [] c = refl
made_length (t ∷ u) c = made_length u (set c t.place t.byte) ∙ length-set c t.place t.byte

-- a byte to which no store goes stays
pub untouched : (u : List Store) (c : List ℕ) (a : ℕ) → Every (λ t. a ≡ t.place → ⊥) u → get_or (stored u c) a 0
    ≡ get_or c a 0
untouched [] c a h = refl
untouched (t ∷ u) c a h = untouched u (set c t.place t.byte) a h.1
    ∙ get_or-set_other c t.place a t.byte 0 h.0

-- ---- stores upward

module _ (a : ℕ) (f : ℕ → ℕ) where
  -- before them and past them nothing changes
  pub upward_out : (k b : ℕ) (c : List ℕ) → ((j : ℕ) → j < k → b ≡ a + j → ⊥) → get_or (stored (upward a k f) c) b 0
      ≡ get_or c b 0
  upward_out k b c h = untouched (upward a k f) c b
      (every-list (λ t. b ≡ t.place → ⊥) k (λ j. storing (a + j) (f j)) h)

  -- and there they leave the values
  pub upward_in : (k j : ℕ) (c : List ℕ) → j < k → a + k ≤ length c → get_or (stored (upward a k f) c) (a + j) 0 ≡ f j
  unfolding list_of
  upward_in zero j c h g = absurd (not-suc-le-zero h)
  upward_in (suc k) j c h g =
      ap (λ (l : List ℕ). get_or l (a + j) 0) (made_append (upward a k f) (storing (a + k) (f k) ∷ []) c)
      ∙ elim (dec_lt j k) [
        | yes l ↦ get_or-set_other (stored (upward a k f) c) (a + k) (a + j) (f k) 0 (λ q. omega arith)
            ∙ upward_in k j c l (omega arith)
        | no l ↦ let q : j ≡ k = omega arith in
            ap (λ (i : ℕ). get_or (set (stored (upward a k f) c) (a + k) (f k)) (a + i) 0) q
            ∙ get_or-set_same (stored (upward a k f) c) (a + k) (f k) 0 (omega (arith, made_length (upward a k f) c))
            ∙ ap f (sym q)
      ]

-- ---- a byte is decided by the stores into its own desk

-- a store leaves two cards that agree at j agreeing at j
set_agree : (c e : List ℕ) (p b j : ℕ) → length c ≡ length e → get_or c j 0 ≡ get_or e j 0 → get_or (set c p b) j 0
    ≡ get_or (set e p b) j 0
set_agree c e p b j l h = go (eqb j p) refl
  where
    go : (t : Bool) → eqb j p ≡ t → get_or (set c p b) j 0 ≡ get_or (set e p b) j 0
    go false q = get_or-set_other c p j b 0 (eqb-false j p q) ∙ h ∙ sym (get_or-set_other e p j b 0 (eqb-false j p q))
    go true q = elim (dec_lt p (length c)) [
      | yes g ↦ ap (λ (i : ℕ). get_or (set c p b) i 0) (eqb-true j p q) ∙ get_or-set_same c p b 0 g
          ∙ sym (ap (λ (i : ℕ). get_or (set e p b) i 0) (eqb-true j p q) ∙ get_or-set_same e p b 0 (omega arith))
      | no g ↦ ap (λ (x : List ℕ). get_or x j 0) (set_out c p b (omega arith)) ∙ h
          ∙ sym (ap (λ (x : List ℕ). get_or x j 0) (set_out e p b (omega arith)))
    ]

agree : (u : List Store) (c e : List ℕ) (j : ℕ) → length c ≡ length e → get_or c j 0 ≡ get_or e j 0 → get_or (stored u c) j 0
    ≡ get_or (stored u e) j 0
agree [] c e j l h = h
agree (t ∷ u) c e j l h =
    agree u (set c t.place t.byte) (set e t.place t.byte) j
    (length-set c t.place t.byte ∙ l ∙ sym (length-set e t.place t.byte))
    (set_agree c e t.place t.byte j l h)

by_own : (u : List Store) (c : List ℕ) (j : ℕ) → get_or (stored u c) j 0 ≡ get_or (stored (onto (holder j) u) c) j 0
by_own [] c j = refl
by_own (t ∷ u) c j = go (eqb (holder t.place) (holder j)) refl (by_own u (set c t.place t.byte) j)
  where
    go : (r : Bool) → eqb (holder t.place) (holder j) ≡ r
        → get_or (stored u (set c t.place t.byte)) j 0
        ≡ get_or (stored (onto (holder j) u) (set c t.place t.byte)) j 0
        → get_or (stored u (set c t.place t.byte)) j 0
        ≡ get_or (stored (cond r (t ∷ onto (holder j) u) (onto (holder j) u)) c) j 0
    go true q ih = ih
    go false q ih =
        ih ∙ agree (onto (holder j) u) (set c t.place t.byte) c j (length-set c t.place t.byte)
        (get_or-set_other c t.place j t.byte 0 (λ e. eqb-false (holder t.place) (holder j) q
        (ap holder (sym e))))

-- two lists of stores that each desk sees alike make the same card
pub alike : (u w : List Store) (c : List ℕ) → ((d : ℕ) → onto d u ≡ onto d w) → stored u c ≡ stored w c
alike u w c h =
    ext_get_or 0 (stored u c) (stored w c) (made_length u c ∙ sym (made_length w c))
    (λ j l. by_own u c j ∙ ap (λ (v : List Store). get_or (stored v c) j 0) (h (holder j)) ∙ sym (by_own w c j))

-- ---- a desk's own bytes

pub own_at : (c : List ℕ) (d j : ℕ) → j < desk_bytes → get_or (own_bytes c d) j 0 ≡ get_or c (base d + j) 0
own_at c d j h = get_or-take desk_bytes (drop (base d) c) j 0 h ∙ get_or-drop (base d) c j 0

pub own_length : (c : List ℕ) (d : ℕ) → length c ≡ card_bytes → d ≤ desks → length (own_bytes c d) ≡ desk_bytes
own_length c d h g = length-take-le desk_bytes (drop (base d) c) (omega (arith, length-drop (base d) c))

-- two cards that agree on them have the same
pub own_ext : (c e : List ℕ) (d : ℕ) → length c ≡ card_bytes → length e ≡ card_bytes → d ≤ desks
    → ((j : ℕ) → j < desk_bytes → get_or c (base d + j) 0 ≡ get_or e (base d + j) 0) → own_bytes c d ≡ own_bytes e d
own_ext c e d h g m a =
    ext_get_or 0 (own_bytes c d) (own_bytes e d) (own_length c d h m ∙ sym (own_length e d g m))
    (λ j l. let i : j < desk_bytes = omega (arith, own_length c d h m) in own_at c d j i ∙ a j i ∙ sym (own_at e d j i))

pub held_by : (d j : ℕ) → 1 ≤ d → j < desk_bytes → holder (base d + j) ≡ d
held_by d j h g = omega arith

-- they are as its own stores alone leave them
pub own_made : (u : List Store) (c : List ℕ) (d : ℕ) → length c ≡ card_bytes → 1 ≤ d → d ≤ desks
    → own_bytes (stored u c) d
    ≡ own_bytes (stored (onto d u) c) d
own_made u c d h l m =
    own_ext (stored u c) (stored (onto d u) c) d (made_length u c ∙ h) (made_length (onto d u) c ∙ h) m
    (λ j g. by_own u c (base d + j) ∙ ap (λ (f : ℕ). get_or (stored (onto f u) c) (base d + j) 0) (held_by d j l g))
