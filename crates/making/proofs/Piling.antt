-- A pile that grows, and grows again, holds what was put on it in turn. Assumes nothing.
use mathlib.Core.Path.{◌≡◌, sym, ap, ◌∙◌, subst}
use mathlib.Core.List.{List, [], ◌∷◌, ◌++◌, append_assoc, append-nil}
use Prim.Native.Nat.{◌+◌, ◌≤◌}
use native.Mathlib.Omega.{arith}
use lib.ListN.{length, get_or, length-append}
use Rattle.bits.proofs.Lists.{length-list}
use Rattle.sheets.specs.declared.kinds.Sheet.{Sheet}
use Rattle.sheets.specs.declared.kinds.HeldCell.{HeldCell}
use Rattle.sheets.specs.Network.{Cell}
use Rattle.sheets.specs.Edition.{most_records}
use Rattle.sheets.specs.Held.{no_cell, network_cell, cells_of, Appended}
use Rattle.making.specs.declared.pile.Pile.{Pile}
use Rattle.making.specs.Pile.{Piled, Grown}

-- a sheet has as many cells as it counts
pub cells_count : (s : Sheet) → length (cells_of s) ≡ s.count
cells_count s = length-list s.count (λ i. network_cell (get_or s.cells i no_cell))

-- ---- none more
pub grown_none : (p : Pile) → Grown p [] p
grown_none p = record {
  count = omega arith;
  held = λ cs k few. k.held few ∙ sym (append-nil cs);
}

-- ---- one cell more

-- the sheet has no room for it
pub grown_full : (p : Pile) (c : HeldCell) (q : Pile) → most_records ≤ p.count → q.count ≡ p.count + 1
    → Grown p (network_cell c ∷ []) q
grown_full p c q h e = record { count = e; held = λ cs k few. absurd (omega (arith, e)) }

-- the sheet has room
pub grown_one : (p : Pile) (c : HeldCell) (q : Pile) → Appended p.sheet c q.sheet → q.count ≡ p.count + 1
    → Grown p (network_cell c ∷ []) q
grown_one p c q a e = record {
  count = e;
  held = λ cs k few. a.cells ∙ ap (λ (l : List Cell). l ++ (network_cell c ∷ [])) (k.held (omega (arith, e)));
}

-- ---- and more

module _ {p q : Pile} {more : List Cell} (g : Grown p more q) where
  pub grown_piled : {cs : List Cell} → Piled p cs → Piled q (cs ++ more)
  grown_piled {cs} k = record {
    count = omega (arith, g.count, k.count, length-append cs more);
    held = g.held cs k;
  }

  pub grown_then : {r : Pile} {others : List Cell} → Grown q others r → Grown p (more ++ others) r
  grown_then {r} {others} h = record {
    count = omega (arith, g.count, h.count, length-append more others);
    held = λ cs k few. h.held (cs ++ more) (grown_piled k) few ∙ append_assoc cs more others;
  }

-- the same cells under another name
pub grown_same : {p q : Pile} {more others : List Cell} → more ≡ others → Grown p more q → Grown p others q
grown_same {p} {q} e g = subst (λ (l : List Cell). Grown p l q) e g
