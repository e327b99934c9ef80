-- A cell that no later cell reads can be taken away: what is left, renumbered, gives the same, since each later cell
-- finds the same values under the new numbers. Assumes nothing.
use mathlib.Core.Path.{◌≡◌, refl, sym, ap, ◌∙◌, subst}
use mathlib.Core.Bool.{Bool, true, false, cond}
use mathlib.Core.List.{List, [], ◌∷◌, ◌++◌, map}
use Prim.Native.Nat.{ℕ, zero, suc, ◌+◌, ◌-◌, ◌<◌, ◌≤◌}
use native.Mathlib.Nat.{not-suc-le-zero, add-zero}
use native.Mathlib.Omega.{arith}
use native.Mathlib.Decide.{dec_lt}
use lib.Dec.{eqb}
use lib.ListN.{length, get_or, take, drop, length-map}
use borrow.Author.Tests.{eq-eqb, ne_eqb, lt-ltb, le-ltb, eqb-true, eqb-false}
use Rattle.bits.specs.Numbers.{bit, number}
use Rattle.bits.proofs.Numbers.{number_ext}
use Rattle.sheets.specs.declared.kinds.Edition.{Edition}
use Rattle.sheets.specs.Edition.{IsEdition}
use Rattle.sheets.specs.Sheet.{sheet_cells, sheet_bit, first_bad}
use Rattle.sheets.specs.Network.{Cell, output, run, Wired, Gives}
use Rattle.sheets.specs.Reading.{times, reads, unread_cell, unread, lowered, renumbered, without}
use Rattle.sheets.proofs.Wiring.{cells_length, good_wired}
use Rattle.sheets.proofs.Unread.{times_at}

-- the signal g is taken away, and those above it move down
module _ (g : ℕ) where
  low : (x : ℕ) → x < g → lowered g x ≡ x
  low x h = ap (λ (t : Bool). cond t (x - 1) x) (le-ltb g x (omega arith))

  high : (x : ℕ) → g < x → lowered g x ≡ x - 1
  high x h = ap (λ (t : Bool). cond t (x - 1) x) (lt-ltb g x h)

  map_at : (l : List ℕ) (j : ℕ) → j < length l → get_or (map (lowered g) l) j 0 ≡ lowered g (get_or l j 0)
  map_at [] j h = absurd (not-suc-le-zero h)
  map_at (x ∷ l) zero h = refl
  map_at (x ∷ l) (suc j) h = map_at l j (omega arith)

  -- the values v under the new numbers are those of w below t
  abbrev Moved : ℕ → (ℕ → Bool) → (ℕ → Bool) → Type 0
  Moved t w v = (x : ℕ) → x < t → (x ≡ g → ⊥) → w x ≡ v (lowered g x)

  -- a cell that reads signals below t, and not g, gives the same
  same-output : (t : ℕ) (w v : ℕ → Bool) (c : Cell) → Moved t w v
      → ((j : ℕ) → j < length c.signals → get_or c.signals j 0 < t)
      → times g c.signals ≡ 0 → output (renumbered g c) v ≡ output c w
  unfolding output
  same-output t w v c moved below none =
      let l = c.signals in
      ap (bit c.table)
      (ap (λ (k : ℕ). number k (λ j. v (get_or (map (lowered g) l) j 0))) (length-map l (lowered g))
      ∙ number_ext (length l) (λ j. v (get_or (map (lowered g) l) j 0)) (λ j. w (get_or l j 0)) (λ j h.
      ap v (map_at l j h) ∙ sym (moved (get_or l j 0) (below j h) (λ q. other l j h q none))))
    where
      other : (l : List ℕ) (j : ℕ) → j < length l → get_or l j 0 ≡ g → times g l ≡ 0 → ⊥
      other l j h q z = let one = subst (λ (y : ℕ). 1 ≤ times y l) q (times_at l j h) in omega arith

  -- one signal more, u + 1 among the old numbers and u among the new
  moved_more : (u : ℕ) (w v : ℕ → Bool) (o : Bool) → g ≤ u → Moved (suc u) w v
      → Moved (suc (suc u)) (λ s. cond (eqb s (suc u)) o (w s)) (λ s. cond (eqb s u) o (v s))
  moved_more u w v o h moved x l other = go (eqb x (suc u)) refl
    where
      apart : x < suc u → lowered g x ≡ u → ⊥
      apart q z = elim (dec_lt x g) [
        | yes a ↦ omega (arith, low x a)
        | no a ↦ elim (dec_lt g x) [ yes b ↦ omega (arith, high x b) | no b ↦ let r : x ≡ g = omega arith in other r ]
      ]

      go : (r : Bool) → eqb x (suc u) ≡ r → cond (eqb x (suc u)) o (w x)
          ≡ cond (eqb (lowered g x) u) o (v (lowered g x))
      go true q =
          let e = eqb-true x (suc u) q in
          let z : lowered g x ≡ u = omega (arith, high x (omega arith)) in
          ap (λ (r : Bool). cond r o (w x)) q ∙ sym (ap (λ (r : Bool). cond r o (v (lowered g x)))
          (eq-eqb (lowered g x) u z))
      go false q =
          let n = eqb-false x (suc u) q in
          let m : x < suc u = omega arith in
          ap (λ (r : Bool). cond r o (w x)) q ∙ moved x m other
          ∙ sym (ap (λ (r : Bool). cond r o (v (lowered g x))) (ne_eqb (lowered g x) u (apart m)))

  -- so the later cells give the same
  same-run : (K u : ℕ) (cs : List Cell) (o : Bool) (w v : ℕ → Bool) → g ≤ u → Moved (suc u) w v → Wired K (suc u) cs
      → reads g cs ≡ 0
      → run o u (map (renumbered g) cs) v ≡ run o (suc u) cs w
  unfolding run
  same-run K u [] o w v h moved wired none = refl
  same-run K u (c ∷ cs) o w v h moved wired none =
      let p = output c w in
      ap (λ (r : Bool). run r (suc u) (map (renumbered g) cs) (λ s. cond (eqb s u) r (v s)))
      (same-output (suc u) w v c moved wired.1 (first-none (times g c.signals) none))
      ∙ same-run K (suc u) cs p (λ s. cond (eqb s (suc u)) p (w s)) (λ s. cond (eqb s u) p (v s)) (omega arith)
      (moved_more u w v p h moved) wired.2
      (rest-none (times g c.signals) none)
    where
      first-none : (a : ℕ) → a + reads g cs ≡ 0 → a ≡ 0
      first-none a q = omega arith

      rest-none : (a : ℕ) → a + reads g cs ≡ 0 → reads g cs ≡ 0
      rest-none a q = omega arith

  -- and are wired as before
  same_wired : (K u : ℕ) (cs : List Cell) → g ≤ u → Wired K (suc u) cs → reads g cs ≡ 0
      → Wired K u (map (renumbered g) cs)
  same_wired K u [] h wired none = tt
  same_wired K u (c ∷ cs) h wired none = (
    subst (λ (k : ℕ). k ≤ K) (sym (length-map c.signals (lowered g))) wired.0,
    λ j l.
        let m : j < length c.signals = subst (λ (k : ℕ). j < k) (length-map c.signals (lowered g)) l in
        subst (λ (x : ℕ). x < u) (sym (map_at c.signals j m))
        (lower (get_or c.signals j 0) (wired.1 j m) (other j m)),
    same_wired K (suc u) cs (omega arith) wired.2 (omega arith),
  )
    where
      other : (j : ℕ) → j < length c.signals → get_or c.signals j 0 ≡ g → ⊥
      other j m q = let one = subst (λ (y : ℕ). 1 ≤ times y c.signals) q (times_at c.signals j m) in omega arith

      lower : (x : ℕ) → x < suc u → (x ≡ g → ⊥) → lowered g x < u
      lower x l o = elim (dec_lt x g) [
        | yes a ↦ omega (arith, low x a)
        | no a ↦ elim (dec_lt g x) [
          | yes b ↦ omega (arith, high x b)
          | no b ↦ let r : x ≡ g = omega arith
              in absurd (o r)
        ]
      ]

-- ---- cell i of a network

shift : (n i : ℕ) → n + suc i ≡ suc n + i
shift n i = omega arith

-- the cells before it stay
without-next : (n i : ℕ) (c : Cell) (cs : List Cell) → without n (suc i) (c ∷ cs) ≡ c ∷ without (suc n) i cs
without-next n i c cs = ap (λ (g : ℕ). c ∷ (take i cs ++ map (renumbered g) (drop (suc i) cs))) (shift n i)

same-without : (K n i : ℕ) (cs : List Cell) (o : Bool) (v : ℕ → Bool) → Wired K n cs → i + 1 < length cs
    → reads (n + i) (drop (suc i) cs) ≡ 0
    → run o n (without n i cs) v ≡ run o n cs v
unfolding run
same-without K n i [] o v wired h none = absurd (not-suc-le-zero h)
same-without K n zero (c ∷ []) o v wired h none = absurd (omega arith)
same-without K n zero (c ∷ d ∷ cs) o v wired h none =
    ap (λ (g : ℕ). run p n (map (renumbered g) (d ∷ cs)) v) (add-zero n)
    ∙ same-run n K n (d ∷ cs) p (λ s. cond (eqb s n) p (v s)) v (omega arith)
    (λ x l o. let b : x < n = omega arith in ap (λ (t : Bool). cond t p (v x)) (ne_eqb x n o) ∙ ap v (sym (low n x b)))
    wired.2 (subst (λ (g : ℕ). reads g (d ∷ cs) ≡ 0) (add-zero n) none)
  where
    p : Bool
    p = output c v
same-without K n (suc i) (c ∷ cs) o v wired h none =
    ap (λ (ds : List Cell). run o n ds v) (without-next n i c cs)
    ∙ same-without K (suc n) i cs (output c v) (λ s. cond (eqb s n) (output c v) (v s)) wired.2 (omega arith)
    (subst (λ (g : ℕ). reads g (drop (suc i) cs) ≡ 0) (shift n i) none)

without_wired : (K n i : ℕ) (cs : List Cell) → Wired K n cs → i < length cs → reads (n + i) (drop (suc i) cs) ≡ 0
    → Wired K n (without n i cs)
without_wired K n i [] wired h none = absurd (not-suc-le-zero h)
without_wired K n zero (c ∷ cs) wired h none =
    subst (λ (g : ℕ). Wired K n (map (renumbered g) cs)) (sym (add-zero n))
    (same_wired n K n cs (omega arith) wired.2 (subst (λ (g : ℕ). reads g cs ≡ 0) (add-zero n) none))
without_wired K n (suc i) (c ∷ cs) wired h none =
    subst (Wired K n) (sym (without-next n i c cs)) (
      wired.0,
      wired.1,
      without_wired K (suc n) i cs wired.2 (omega arith)
          (subst (λ (g : ℕ). reads g (drop (suc i) cs) ≡ 0) (shift n i) none),
    )

-- one cell less
pub without-length : (n i : ℕ) (cs : List Cell) → i < length cs → length (without n i cs) + 1 ≡ length cs
without-length n i [] h = absurd (not-suc-le-zero h)
without-length n zero (c ∷ cs) h = omega (arith, length-map cs (renumbered (n + 0)))
without-length n (suc i) (c ∷ cs) h = omega (
  arith,
  ap length (without-next n i c cs),
  without-length (suc n) i cs
      (omega arith),
)

-- a network without a cell, not its last, that isn't read is a network that gives the same
pub without_gives : (n K i : ℕ) (F : ℕ → Bool) (cs : List Cell) → Gives n K F cs → i + 1 < length cs → unread_cell n cs i
    ≡ true → Gives n K F (without n i cs)
without_gives n K i F cs N h u =
    let none = eqb-true (reads (n + i) (drop (suc i) cs)) 0 u in record {
      some = omega (arith, without-length n i cs (omega arith));
      wired = without_wired K n i cs N.wired (omega arith) none;
      gives = λ x l. same-without K n i cs false (bit x) N.wired h none ∙ N.gives x l;
    }

-- so a sheet's unread record, not its last, can be taken away
pub sheet-without : (e : Edition) → IsEdition e → (d n : ℕ) (s : List ℕ) (m i : ℕ) → first_bad e d n s m ≡ m → i + 1 < m
    → unread e n s m i ≡ true
    → Gives n e.most (sheet_bit e n s m) (without n i (sheet_cells e s m))
unfolding sheet_bit
sheet-without e o d n s m i good h u =
    let l = cells_length e s 0 m in
    without_gives n e.most i (sheet_bit e n s m) (sheet_cells e s m)
    (record { some = omega arith; wired = good_wired e d n s o m good; gives = λ x b. refl }) (omega arith) u
