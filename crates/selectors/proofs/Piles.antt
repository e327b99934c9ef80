-- Cells put behind others, on a sheet. Assumes nothing.
use mathlib.Core.Path.{◌≡◌, ap₂, ◌∙◌}
use mathlib.Core.List.{List, [], ◌∷◌, ◌++◌, append_assoc}
use Rattle.sheets.specs.declared.kinds.HeldCell.{HeldCell}
use Rattle.sheets.specs.declared.kinds.Sheet.{Sheet}
use Rattle.sheets.specs.Held.{network_cell, cells_of, Appended}
use Rattle.sheets.specs.Network.{Cell}

-- one more
pub one_more : {s r : Sheet} {h : HeldCell} {cs : List Cell} {c : Cell} → Appended s h r → cells_of s ≡ cs
    → network_cell h ≡ c
    → cells_of r ≡ cs ++ (c ∷ [])
one_more w e d = w.cells ∙ ap₂ (λ (l : List Cell) (c : Cell). l ++ (c ∷ [])) e d

-- three more
pub three_more : (cs : List Cell) (a b c : Cell) → ((cs ++ (a ∷ [])) ++ (b ∷ [])) ++ (c ∷ []) ≡ cs
    ++ (a ∷ b ∷ c ∷ [])
three_more cs a b c = simp append_assoc
