-- Several loads going at once, at most one per desk: every order in which their stores can come.
use Rattle.std.specs.Prelude.{◌≡◌, cond, List, [], ◌∷◌, ◌++◌, ℕ, eqb}
use Rattle.cards.specs.declared.stores.Store.{Store}
use Rattle.refusals.specs.Lines.{verdict, reply}
use Rattle.cards.specs.Stores.{load_stores}
use Rattle.cards.specs.LoadDesk.{load_lines, load_outcome}

-- a load that is asked for
pub record Load : Type 0 where
  pub desk : ℕ
  pub inputs : ℕ
  pub sheet : List ℕ

-- its stores
abbrev pub stores_of : Load → List Store
stores_of l = load_stores l.desk l.inputs l.sheet

-- the stores of loads one after another
abbrev pub stores_in_turn : List Load → List Store
stores_in_turn [] = []
stores_in_turn (l ∷ ls) = stores_of l ++ stores_in_turn ls

-- the loads of desk d, in their order
abbrev pub loads_of : ℕ → List Load → List Load
loads_of d [] = []
loads_of d (l ∷ ls) = cond (eqb l.desk d) (l ∷ loads_of d ls) (loads_of d ls)

-- what waits at each desk: the stores of its own loads, one load after another
abbrev pub waiting : List Load → ℕ → List Store
waiting ls d = stores_in_turn (loads_of d ls)

-- what waits when the first at desk d is gone, and r is left there
abbrev pub left : (ℕ → List Store) → ℕ → List Store → ℕ → List Store
left q d r f = cond (eqb f d) r (q f)

-- stores in an order in which they can come: each time the next one of any desk, until none waits
pub data Mingling : (ℕ → List Store) → List Store → Type 0 where
  over : {q : ℕ → List Store} → ((d : ℕ) → q d ≡ []) → Mingling q []
  next : {q : ℕ → List Store} {t : Store} {r w : List Store} (d : ℕ) → q d ≡ t ∷ r → Mingling (left q d r) w
      → Mingling q (t ∷ w)

-- ---- the calls

-- the loads that are accepted on a card of c's length
abbrev pub accepted : List ℕ → List Load → List Load
accepted c [] = []
accepted c (l ∷ ls) =
    reply (verdict (load_lines c l.desk l.inputs l.sheet)) (l ∷ accepted c ls) (λ r. accepted c ls)

-- the card after one call of a load after another, refused ones too
abbrev pub called : List Load → List ℕ → List ℕ
called [] c = c
called (l ∷ ls) c = called ls (load_outcome c l.desk l.inputs l.sheet).card
