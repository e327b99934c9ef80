-- The values of a network's signals: inputs stay as they are, each cell gives what it reads off the others, and the
-- last one's is the answer. Assumes nothing.
use mathlib.Core.Path.{◌≡◌, refl, sym, ap, ◌∙◌}
use mathlib.Core.Bool.{Bool, true, false, cond, ◌||◌}
use mathlib.Core.List.{List, [], ◌∷◌, ◌++◌}
use Prim.Native.Nat.{ℕ, zero, suc, ◌+◌, ◌-◌, ◌^◌, ◌<◌, ◌≤◌}
use native.Mathlib.Nat.{add-zero, not-suc-le-zero}
use native.Mathlib.Omega.{arith}
use lib.Dec.{eqb}
use lib.ListN.{length, get_or}
use borrow.Author.Tests.{eq-eqb, ne_eqb, eqb-true}
use Rattle.bits.specs.Numbers.{bit}
use Rattle.bits.specs.Lists.{member}
use Rattle.bits.specs.Sets.{size}
use Rattle.bits.proofs.Bools.{clash, or_left, or_right}
use Rattle.bits.proofs.Numbers.{number_ext}
use Rattle.bits.proofs.Counting.{size_none, size-one, size-or}
use Rattle.sheets.specs.Network.{Cell, output, run, Wired, Gives}
use Rattle.networks.specs.Signals.{cell_at, does_read, values}

-- ---- what a cell reads

pub member_at : (l : List ℕ) (j : ℕ) → j < length l → member (get_or l j 0) l ≡ true
member_at [] j h = absurd (not-suc-le-zero h)
member_at (x ∷ l) zero h = or_left (eqb x x) (member x l) (eq-eqb x x refl)
member_at (x ∷ l) (suc j) h = or_right (eqb (get_or l j 0) x) (member (get_or l j 0) l) (member_at l j (omega arith))

pub member_below : (i : ℕ) (l : List ℕ) → ((j : ℕ) → j < length l → get_or l j 0 < i) → (s : ℕ) → member s l ≡ true
    → s < i
member_below i [] low s m = absurd (clash m refl)
member_below i (x ∷ l) low s m = go (eqb s x) refl m (member_below i l (λ j h. low (suc j) (omega arith)) s)
  where
    go : (t : Bool) → eqb s x ≡ t → (t || member s l) ≡ true → (member s l ≡ true → s < i) → s < i
    go true e m ih = omega (arith, eqb-true s x e, low 0 (omega arith))
    go false e m ih = ih m

-- a list has no more members than places
pub size-member : (n : ℕ) (l : List ℕ) → size n (λ s. member s l) ≤ length l
size-member n [] = omega (arith, size_none n)
size-member n (x ∷ l) = omega (arith, size-or n (λ s. eqb s x) (λ s. member s l), size-one n x, size-member n l)

-- a cell sees the signals that it reads, and no other
pub output_ext : (c : Cell) (v w : ℕ → Bool) → ((s : ℕ) → member s c.signals ≡ true → v s ≡ w s) → output c v
    ≡ output c w
unfolding output
output_ext c v w h =
    ap (bit c.table)
    (number_ext (length c.signals) (λ j. v (get_or c.signals j 0)) (λ j. w (get_or c.signals j 0))
    (λ j l. h (get_or c.signals j 0) (member_at c.signals j l)))

-- of a network's cells each reads at most K signals, and only lower ones
pub reads_most : (K i : ℕ) (cs : List Cell) → Wired K i cs → (j : ℕ) → j < length cs → length (cell_at cs j).signals ≤ K
reads_most K i [] w j h = absurd (not-suc-le-zero h)
reads_most K i (c ∷ cs) w zero h = w.0
reads_most K i (c ∷ cs) w (suc j) h = reads_most K (suc i) cs w.2 j (omega arith)

pub reads_below : (K i : ℕ) (cs : List Cell) → Wired K i cs → (j : ℕ) → j < length cs → (s : ℕ) → does_read cs j s ≡ true
    → s < i + j
reads_below K i [] w j h s m = absurd (not-suc-le-zero h)
reads_below K i (c ∷ cs) w zero h s m = omega (arith, member_below i c.signals w.1 s m)
reads_below K i (c ∷ cs) w (suc j) h s m = omega (arith, reads_below K (suc i) cs w.2 j (omega arith) s m)

-- ---- the values

-- one signal more
pub newly : (v : ℕ → Bool) (i : ℕ) (o : Bool) → cond (eqb i i) o (v i) ≡ o
newly v i o = ap (λ (t : Bool). cond t o (v i)) (eq-eqb i i refl)

older : (v : ℕ → Bool) (i s : ℕ) (o : Bool) → s < i → cond (eqb s i) o (v s) ≡ v s
older v i s o h = ap (λ (t : Bool). cond t o (v s)) (ne_eqb s i (omega arith))

pub values_below : (i : ℕ) (cs : List Cell) (v : ℕ → Bool) (s : ℕ) → s < i → values i cs v s ≡ v s
unfolding values
values_below i [] v s h = refl
values_below i (c ∷ cs) v s h =
    values_below (suc i) cs (λ s. cond (eqb s i) (output c v) (v s)) s (omega arith) ∙ older v i s (output c v) h

pub values-cell : (K i : ℕ) (cs : List Cell) (v : ℕ → Bool) → Wired K i cs → (j : ℕ) → j < length cs
    → values i cs v (i + j) ≡ output (cell_at cs j) (values i cs v)
unfolding values
values-cell K i [] v w j h = absurd (not-suc-le-zero h)
values-cell K i (c ∷ cs) v w zero h =
    let u : ℕ → Bool = λ s. cond (eqb s i) (output c v) (v s) in
    ap (values (suc i) cs u) (add-zero i) ∙ values_below (suc i) cs u i (omega arith) ∙ newly v i (output c v)
    ∙ output_ext c v (values (suc i) cs u)
    (λ s m. sym (values_below i (c ∷ cs) v s (member_below i c.signals w.1 s m)))
values-cell K i (c ∷ cs) v w (suc j) h =
    let u : ℕ → Bool = λ s. cond (eqb s i) (output c v) (v s) in
    let e : i + suc j ≡ suc i + j = omega arith in
    ap (values (suc i) cs u) e ∙ values-cell K (suc i) cs u w.2 j (omega arith)

-- the last cell's value is the answer
pub run_last : (o : Bool) (i : ℕ) (c : Cell) (cs : List Cell) (v : ℕ → Bool) → run o i (c ∷ cs) v
    ≡ values i (c ∷ cs) v (i + length cs)
unfolding run values
run_last o i c [] v = sym (ap (λ (s : ℕ). cond (eqb s i) (output c v) (v s)) (add-zero i) ∙ newly v i (output c v))
run_last o i c (d ∷ cs) v =
    let u : ℕ → Bool = λ s. cond (eqb s i) (output c v) (v s) in
    let e : suc i + length cs ≡ i + suc (length cs) = omega arith in
    run_last (output c v) (suc i) d cs u ∙ ap (values (suc i) (d ∷ cs) u) e

pub gives_last : (n K : ℕ) (F : ℕ → Bool) (cs : List Cell) → Gives n K F cs → (x : ℕ) → x < 2 ^ n
    → values n cs (bit x) (n + (length cs - 1)) ≡ F x
gives_last n K F [] N x h = absurd (not-suc-le-zero N.some)
gives_last n K F (c ∷ cs) N x h =
    let e : suc (length cs) - 1 ≡ length cs = omega arith in
    ap (λ (j : ℕ). values n (c ∷ cs) (bit x) (n + j)) e ∙ sym (run_last false n c cs (bit x)) ∙ N.gives x h

-- some cells, then others
pub run-append : (o : Bool) (i : ℕ) (cs ds : List Cell) (v : ℕ → Bool) → run o i (cs ++ ds) v
    ≡ run (run o i cs v) (i + length cs) ds (values i cs v)
unfolding run values
run-append o i [] ds v = ap (λ (j : ℕ). run o j ds v) (sym (add-zero i))
run-append o i (c ∷ cs) ds v =
    let u : ℕ → Bool = λ s. cond (eqb s i) (output c v) (v s) in
    let e : suc i + length cs ≡ i + suc (length cs) = omega arith in
    run-append (output c v) (suc i) cs ds u ∙ ap (λ (j : ℕ). run (run (output c v) (suc i) cs u) j ds
    (values (suc i) cs u)) e
