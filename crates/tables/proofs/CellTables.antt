-- The words of a cell's table, so many or so many, and the number that they make. Assumes nothing.
use mathlib.Core.Path.{◌≡◌, sym, ap, ap₂, ◌∙◌}
use mathlib.Core.Bool.{Bool, ◌&&◌}
use mathlib.Core.List.{List, [], ◌∷◌, ◌++◌}
use Prim.Native.Nat.{ℕ, ◌+◌, ◌-◌, ◌*◌, ◌/◌, ◌%◌, ◌^◌, ◌<◌, ◌≤◌}
use native.Mathlib.Nat.{mod-lt}
use native.Mathlib.Decide.{dec_lt}
use native.Mathlib.Omega.{arith}
use lib.Dec.{ltb, lit<}
use lib.ListN.{length, get_or, drop, replicate, length-append, length-drop, length-replicate, get_or-append}
use lib.ListN.{get_or-replicate}
use lib.Seq.{get_or-drop, get_or-append-add}
use Rattle.bits.specs.Numbers.{bit, number}
use Rattle.bits.specs.Lists.{list_of}
use Rattle.bits.proofs.Numbers.{number_ext, number-of, bit-number}
use Rattle.bits.proofs.Lists.{length-list, list_at, list-of}
use Rattle.tables.specs.declared.cell.CellTable.{CellTable}
use Rattle.tables.specs.Words.{gate_word}
use Rattle.tables.specs.Cells.{cell_words, joined, words_of}
use Rattle.tables.proofs.Digits.{cut_number, past_words}

-- a bit of them
pub joined-bit : (c : ℕ) (ws : List ℕ) (x : ℕ) → x < 64 * c → bit (joined c ws) x ≡ bit (get_or ws (x / 64) 0) (x % 64)
unfolding joined
joined-bit c ws x h = bit-number (64 * c) (λ y. bit (get_or ws (y / 64) 0) (y % 64)) x h

-- words that have room for all 2 ^ k bits make the table
pub words_joined : (c k : ℕ) (F : ℕ → Bool) → 2 ^ k ≤ 64 * c → joined c (words_of c k F) ≡ number (2 ^ k) F
unfolding joined
words_joined c k F h =
    number_ext (64 * c) (λ x. bit (get_or (words_of c k F) (x / 64) 0) (x % 64)) f at ∙ cut_number (2 ^ k) (64 * c) F h
  where
    f : ℕ → Bool
    f x = ltb x (2 ^ k) && F x

    at : (x : ℕ) → x < 64 * c → bit (get_or (words_of c k F) (x / 64) 0) (x % 64) ≡ f x
    at x l =
        let e : 64 * (x / 64) + x % 64 ≡ x = omega arith in
        ap (λ (w : ℕ). bit w (x % 64)) (list_at c (gate_word k F) (x / 64) 0 (omega arith))
        ∙ bit-number 64 (λ i. f (64 * (x / 64) + i)) (x % 64) (mod-lt x (lit< tt)) ∙ ap f e

-- one of them
pub joined-word : (c : ℕ) (ws : List ℕ) (i : ℕ) → i < c → get_or ws i 0 < 2 ^ 64
    → get_or ws i 0 ≡ number 64 (λ j. bit (joined c ws) (64 * i + j))
joined-word c ws i h l =
    number-of 64 (get_or ws i 0) (λ j. bit (joined c ws) (64 * i + j)) l (λ j g.
    let p : i ≡ (64 * i + j) / 64 = omega arith in
    let q : j ≡ (64 * i + j) % 64 = omega arith in
    ap₂ (λ (a b : ℕ). bit (get_or ws a 0) b) p q ∙ sym (joined-bit c ws (64 * i + j) (omega arith)))

-- what stands behind a list is zeros
behind : (l : List ℕ) (end c w : ℕ) → length l ≡ end → end ≤ w → w < c
    → get_or (l ++ drop end (replicate c 0)) w 0 ≡ 0
behind l end c w many h g =
    let zeros : List ℕ = replicate c 0 in
    let e : w ≡ length l + (w - end) = omega (arith, many) in
    let q : end + (w - end) ≡ w = omega arith in
    ap (λ (m : ℕ). get_or (l ++ drop end zeros) m 0) e ∙ get_or-append-add l (drop end zeros) (w - end) 0
    ∙ get_or-drop end zeros (w - end) 0 ∙ ap (λ (m : ℕ). get_or zeros m 0) q ∙ get_or-replicate c w 0 0 g

-- as many words as a table has, and zeros behind them
pub words_padded : (end c k : ℕ) (F : ℕ → Bool) → end ≤ c → ((w : ℕ) → end ≤ w → w < c → 2 ^ (k - 6) ≤ w)
    → list_of end (gate_word k F) ++ drop end (replicate c 0) ≡ words_of c k F
words_padded end c k F h past = sym (list-of c f (l ++ r) 0 long at)
  where
    f : ℕ → ℕ
    f = gate_word k F

    l : List ℕ
    l = list_of end f

    r : List ℕ
    r = drop end (replicate c 0)

    many : length l ≡ end
    many = length-list end f

    long : length (l ++ r) ≡ c
    long =
        let zeros : List ℕ = replicate c 0 in
        omega (arith, length-append l r, length-drop end zeros, length-replicate {A = ℕ} c 0, many)

    at : (w : ℕ) → w < c → f w ≡ get_or (l ++ r) w 0
    at w g = elim (dec_lt w end) [
      | yes y ↦ sym (get_or-append l r 0 w (omega (arith, many)) ∙ list_at end f w 0 y)
      | no n ↦ past_words k w F (past w (omega arith) g) ∙ sym (behind l end c w many (omega arith) g)
    ]

-- four words, each by itself
pub four_words : (f : ℕ → ℕ) {a b c d : ℕ} → a ≡ f 0 → b ≡ f 1 → c ≡ f 2 → d ≡ f 3
    → ◌≡◌ {A = CellTable} (record { words = a ∷ b ∷ c ∷ d ∷ [] }) (record { words = list_of cell_words f })
unfolding list_of
four_words f {a} {b} {c} {d} p q r s =
    ap₂ (λ (x y : ℕ). four x y c d) p q ∙ ap₂ (λ (x y : ℕ). four (f 0) (f 1) x y) r s
  where
    four : ℕ → ℕ → ℕ → ℕ → CellTable
    four a b c d = record { words = a ∷ b ∷ c ∷ d ∷ [] }
