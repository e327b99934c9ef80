-- Signals in turn: what each is, of what the signals below it are. Assumes nothing.
use mathlib.Core.Path.{◌≡◌, refl, sym, ap, ◌∙◌, subst}
use mathlib.Core.Logic.{⊎_elim}
use mathlib.Core.Bool.{Bool, true, false, cond}
use mathlib.Core.List.{List, [], ◌∷◌}
use Prim.Native.Nat.{ℕ, zero, suc, ◌+◌, ◌<◌, ◌≤◌}
use native.Mathlib.Omega.{arith}
use lib.Dec.{eqb}
use lib.ListN.{length, get_or}
use borrow.Author.Tests.{eq-eqb, ne_eqb, eqb-true, eqb-false}
use Rattle.bits.proofs.Below.{below_suc}
use Rattle.sheets.specs.Network.{Cell, output, run, Wired}
use Rattle.printing.specs.Print.{in_turn}

-- a cell that stands past the last
abbrev pub no_cell : Cell
no_cell = record { signals = []; table = 0 }

-- cell j of them
abbrev pub cell_at : List Cell → ℕ → Cell
cell_at cs j = get_or cs j no_cell

-- v and w are alike at the signals of a cell
abbrev pub AlikeAt : {A : Type 0} → Cell → (ℕ → A) → (ℕ → A) → Type 0
AlikeAt c v w = (j : ℕ) → j < length c.signals → v (get_or c.signals j 0) ≡ w (get_or c.signals j 0)

module _ {A : Type 0} (makes : Cell → (ℕ → A) → A) where
  pub turn_below : (cs : List Cell) (i : ℕ) (v : ℕ → A) (s : ℕ) → s < i → in_turn makes i cs v s ≡ v s
  unfolding in_turn
  turn_below [] i v s h = refl
  turn_below (c ∷ cs) i v s h =
      turn_below cs (suc i) (λ t. cond (eqb t i) (makes c v) (v t)) s (omega arith)
      ∙ ap (λ (t : Bool). cond t (makes c v) (v s)) (ne_eqb s i (λ q. omega arith))

  -- cell j makes its signal of what the signals are
  pub turn-cell : ((c : Cell) (v w : ℕ → A) → AlikeAt c v w → makes c v ≡ makes c w)
      → (K : ℕ) (cs : List Cell) (i : ℕ) (v : ℕ → A)
      → Wired K i cs → (j : ℕ) → j < length cs → in_turn makes i cs v (i + j) ≡ makes (cell_at cs j) (in_turn makes i cs v)
  unfolding in_turn
  turn-cell sees K [] i v w j h = absurd (omega arith)
  turn-cell sees K (c ∷ cs) i v w zero h =
      let q : i + 0 ≡ i = omega arith in
      let u : ℕ → A = λ t. cond (eqb t i) (makes c v) (v t) in
      ap (in_turn makes (suc i) cs u) q ∙ turn_below cs (suc i) u i (omega arith)
      ∙ ap (λ (t : Bool). cond t (makes c v) (v i)) (eq-eqb i i refl)
      ∙ sees c v (in_turn makes (suc i) cs u) (λ j l. sym (turn_below (c ∷ cs) i v (get_or c.signals j 0) (w.1 j l)))
  turn-cell sees K (c ∷ cs) i v w (suc j) h =
      let q : i + suc j ≡ suc i + j = omega arith in
      let u : ℕ → A = λ t. cond (eqb t i) (makes c v) (v t) in
      ap (in_turn makes (suc i) cs u) q ∙ turn-cell sees K cs (suc i) u w.2 j (omega arith)

-- ---- two ways at once

-- every cell has it
abbrev pub Each : (Cell → Type 0) → List Cell → Type 0
Each C [] = Unit {0}
Each C (c ∷ cs) = C c × Each C cs

module _ {A B : Type 0} (f : Cell → (ℕ → A) → A) (g : Cell → (ℕ → B) → B) (P : ℕ → A → B → Type 0) (C : Cell → Type 0)
    (b : ℕ)
    (step : (c : Cell) (i : ℕ) (v : ℕ → A) (w : ℕ → B) → b ≤ i → C c
    → ((j : ℕ) → j < length c.signals → get_or c.signals j 0 < i)
    → ((s : ℕ) → s < i → P s (v s) (w s)) → P i (f c v) (g c w)) where
  -- what a cell hands on holds of every signal
  pub each_signal : (K : ℕ) (cs : List Cell) (i : ℕ) (v : ℕ → A) (w : ℕ → B) → b ≤ i → Each C cs → Wired K i cs
      → ((s : ℕ) → s < i → P s (v s) (w s))
      → (s : ℕ) → s < i + length cs → P s (in_turn f i cs v s) (in_turn g i cs w s)
  unfolding in_turn
  each_signal K [] i v w low a k h s l = h s (omega arith)
  each_signal K (c ∷ cs) i v w low a k h s l =
      each_signal K cs (suc i) (λ t. cond (eqb t i) (f c v) (v t)) (λ t. cond (eqb t i) (g c w) (w t)) (omega arith)
      a.1 k.2
      (λ t q. one t q (eqb t i) refl) s (omega arith)
    where
      one : (t : ℕ) → t < suc i → (r : Bool) → eqb t i ≡ r → P t (cond r (f c v) (v t)) (cond r (g c w) (w t))
      one t q true e = subst (λ (r : ℕ). P r (f c v) (g c w)) (sym (eqb-true t i e)) (step c i v w low a.0 k.1 h)
      one t q false e = ⊎_elim (λ l. h t l) (λ p. absurd (eqb-false t i e p)) (below_suc q)

-- running is taking the signals' values in turn: the last cell's is the answer
pub run-turn : (cs : List Cell) (o : Bool) (p : ℕ) (v : ℕ → Bool) → v p ≡ o → run o (suc p) cs v
    ≡ in_turn output (suc p) cs v (p + length cs)
unfolding run in_turn
run-turn [] o p v h = let q : p ≡ p + 0 = omega arith in sym h ∙ ap v q
run-turn (c ∷ cs) o p v h =
    let q : suc p + length cs ≡ p + suc (length cs) = omega arith in
    let u : ℕ → Bool = λ t. cond (eqb t (suc p)) (output c v) (v t) in
    run-turn cs (output c v) (suc p) u (ap (λ (t : Bool). cond t (output c v) (v (suc p)))
    (eq-eqb (suc p) (suc p) refl)) ∙ ap (in_turn output (suc (suc p)) cs u) q

pub run_last : (c : Cell) (cs : List Cell) (n : ℕ) (v : ℕ → Bool) → run false n (c ∷ cs) v
    ≡ in_turn output n (c ∷ cs) v (n + length cs)
unfolding run in_turn
run_last c cs n v =
    run-turn cs (output c v) n (λ t. cond (eqb t n) (output c v) (v t))
    (ap (λ (t : Bool). cond t (output c v) (v n)) (eq-eqb n n refl))

-- a wired cell reads lower signals
pub wired_at : (K : ℕ) (cs : List Cell) (i : ℕ) → Wired K i cs → (j : ℕ) → j < length cs → (k : ℕ) → k
    < length (cell_at cs j).signals
    → get_or (cell_at cs j).signals k 0 < i + j
wired_at K [] i w j h k l = absurd (omega arith)
wired_at K (c ∷ cs) i w zero h k l = omega (arith, w.1 k l)
wired_at K (c ∷ cs) i w (suc j) h k l = omega (arith, wired_at K cs (suc i) w.2 j (omega arith) k l)
