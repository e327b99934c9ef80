-- The isolation: every mingling of the desks' stores ends in the card that the loads one after another leave.
-- Assumes nothing.
use mathlib.Core.Path.{◌≡◌, refl, sym, ap, ap₂, ◌∙◌, subst}
use mathlib.Core.Bool.{Bool, true, false, cond}
use mathlib.Core.List.{List, [], ◌∷◌, ◌++◌}
use Prim.Native.Nat.{ℕ, ◌≤◌}
use lib.Dec.{eqb}
use lib.ListN.{length, take, drop, take-append-drop}
use lib.Seq.{take-append_seam}
use borrow.Author.Tests.{eq-eqb, ne_eqb, eqb-true, eqb-false}
use Rattle.cards.specs.declared.stores.Store.{Store}
use Rattle.cards.specs.Card.{holder}
use Rattle.cards.specs.Stores.{stored, onto}
use Rattle.cards.specs.Mingling.{Load, stores_of, stores_in_turn, loads_of, waiting, left, Mingling, over, next}
use Rattle.cards.proofs.Making.{Every, every_append, alike}
use Rattle.cards.proofs.Order.{Into, onto-append, onto_own, onto_other, all_into}

-- every load is for a desk that a card can have
abbrev pub Numbered : List Load → Type 0
Numbered [] = Unit {0}
Numbered (l ∷ ls) = (1 ≤ l.desk) × Numbered ls

-- of loads one after another each desk sees its own loads, one after another
turn-seen : (ls : List Load) → Numbered ls → (d : ℕ) → onto d (stores_in_turn ls) ≡ waiting ls d
turn-seen [] h d = refl
turn-seen (l ∷ ls) h d = onto-append d (stores_of l) (stores_in_turn ls)
    ∙ go (eqb l.desk d) refl (turn-seen ls h.1 d)
  where
    into : Every (Into l.desk) (stores_of l)
    into = all_into l.desk l.inputs l.sheet h.0

    go : (r : Bool) → eqb l.desk d ≡ r → onto d (stores_in_turn ls) ≡ waiting ls d
        → onto d (stores_of l) ++ onto d (stores_in_turn ls) ≡ stores_in_turn (cond r (l ∷ loads_of d ls) (loads_of d ls))
    go true q ih = ap₂ ◌++◌ (subst (λ (f : ℕ). onto f (stores_of l) ≡ stores_of l) (eqb-true l.desk d q)
        (onto_own l.desk (stores_of l) into)) ih
    go false q ih = ap (λ (u : List Store). u ++ onto d (stores_in_turn ls))
        (onto_other l.desk d (stores_of l) (eqb-false l.desk d q) into) ∙ ih

-- what waits at a desk goes to it
pub waits_own : (ls : List Load) → Numbered ls → (d : ℕ) → Every (Into d) (waiting ls d)
waits_own [] h d = tt
waits_own (l ∷ ls) h d = go (eqb l.desk d) refl (waits_own ls h.1 d)
  where
    go : (r : Bool) → eqb l.desk d ≡ r → Every (Into d) (waiting ls d)
        → Every (Into d) (stores_in_turn (cond r (l ∷ loads_of d ls) (loads_of d ls)))
    go true q ih =
        every_append (Into d) (stores_of l) (waiting ls d)
        (subst (λ (f : ℕ). Every (Into f) (stores_of l)) (eqb-true l.desk d q)
        (all_into l.desk l.inputs l.sheet h.0)) ih
    go false q ih = ih

-- of a mingling each desk sees what waited at it, in its order
pub mingling_seen : {q : ℕ → List Store} {w : List Store} → Mingling q w → ((d : ℕ) → Every (Into d) (q d)) → (f : ℕ)
    → onto f w ≡ q f
mingling_seen (over h) own f = sym (h f)
mingling_seen (next {q} {t} {r} {w} d e m) own f = go (eqb f d) refl (mingling_seen m rest f)
  where
    ours : Every (Into d) (t ∷ r)
    ours = subst (Every (Into d)) e (own d)

    rest : (g : ℕ) → Every (Into g) (left q d r g)
    rest g = pick (eqb g d) refl
      where
        pick : (b : Bool) → eqb g d ≡ b → Every (Into g) (cond b r (q g))
        pick true z = subst (λ (i : ℕ). Every (Into i) r) (sym (eqb-true g d z)) ours.1
        pick false z = own g

    go : (b : Bool) → eqb f d ≡ b → onto f w ≡ cond b r (q f) → onto f (t ∷ w) ≡ q f
    go true z ih =
        ap (λ (b : Bool). cond b (t ∷ onto f w) (onto f w))
        (eq-eqb (holder t.place) f (ours.0 ∙ sym (eqb-true f d z)))
        ∙ ap (λ (u : List Store). t ∷ u) ih ∙ sym e ∙ ap q (sym (eqb-true f d z))
    go false z ih =
        ap (λ (b : Bool). cond b (t ∷ onto f w) (onto f w))
        (ne_eqb (holder t.place) f (λ y. eqb-false f d z (sym y ∙ ours.0))) ∙ ih

-- and conversely: stores of which each desk sees what waited at it are such a mingling
pub seen_mingling : (w : List Store) {q : ℕ → List Store} → ((d : ℕ) → onto d w ≡ q d) → Mingling q w
seen_mingling [] h = over (λ d. sym (h d))
seen_mingling (t ∷ w) {q} h = next (holder t.place) (sym (h (holder t.place)) ∙ first) (seen_mingling w rest)
  where
    d : ℕ
    d = holder t.place

    first : onto d (t ∷ w) ≡ t ∷ onto d w
    first = ap (λ (b : Bool). cond b (t ∷ onto d w) (onto d w)) (eq-eqb d d refl)

    rest : (f : ℕ) → onto f w ≡ left q d (onto d w) f
    rest f = pick (eqb f d) refl
      where
        pick : (b : Bool) → eqb f d ≡ b → onto f w ≡ cond b (onto d w) (q f)
        pick true z = ap (λ (i : ℕ). onto i w) (eqb-true f d z)
        pick false z = sym (ap (λ (b : Bool). cond b (t ∷ onto f w) (onto f w))
            (ne_eqb d f (λ y. eqb-false f d z (sym y)))) ∙ h f

-- so one after another is a mingling too
pub turn_mingles : (ls : List Load) → Numbered ls → Mingling (waiting ls) (stores_in_turn ls)
turn_mingles ls h = seen_mingling (stores_in_turn ls) (turn-seen ls h)

-- of the beginning of a mingling a desk sees a beginning of what waited at it
pub beginning_seen : {q : ℕ → List Store} {w : List Store} → Mingling q w → ((d : ℕ) → Every (Into d) (q d)) → (k f : ℕ)
    → onto f (take k w) ≡ take (length (onto f (take k w))) (q f)
beginning_seen {q} {w} m own k f =
    let u = onto f (take k w) in
    sym (take-append_seam u (onto f (drop k w)))
    ∙ ap (take (length u)) (sym (onto-append f (take k w) (drop k w)) ∙ ap (onto f) (take-append-drop k w)
    ∙ mingling_seen m own f)

-- so it ends in the card of the loads one after another
pub mingled : (ls : List Load) → Numbered ls → (w : List Store) → Mingling (waiting ls) w → (c : List ℕ) → stored w c
    ≡ stored (stores_in_turn ls) c
mingled ls h w m c = alike w (stores_in_turn ls) c (λ d. mingling_seen m (waits_own ls h) d ∙ sym (turn-seen ls h d))
