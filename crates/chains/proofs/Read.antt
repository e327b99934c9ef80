-- Every cell but the last is read: each signal at hand is kept until a cell reads it, and the last cell reads all that
-- are left. Assumes nothing.
use mathlib.Core.Path.{◌≡◌, refl, sym, ap, ◌∙◌, subst}
use mathlib.Core.Bool.{Bool, true, false, not, ◌||◌}
use mathlib.Core.List.{List, [], ◌∷◌, ◌++◌}
use Prim.Native.Nat.{ℕ, zero, suc, ◌+◌, ◌-◌, ◌<◌, ◌≤◌}
use native.Mathlib.Decide.{dec_lt}
use native.Mathlib.Nat.{not-suc-le-zero}
use native.Mathlib.Omega.{arith}
use lib.ListN.{length, get_or, drop, length-append, get_or-append}
use lib.Seq.{get_or-append-add}
use borrow.Author.Tests.{ne_eqb}
use Rattle.bits.specs.Numbers.{bit, val}
use Rattle.bits.specs.Sets.{size}
use Rattle.bits.specs.Lists.{list_of}
use Rattle.bits.proofs.Bools.{or_left}
use Rattle.bits.proofs.Lists.{length-list, list_at}
use Rattle.bits.proofs.Sizes.{size-lt}
use Rattle.splits.specs.Split.{reads_d, reads_h}
use Rattle.sheets.specs.Network.{Cell, Wired}
use Rattle.sheets.specs.Reading.{times, reads, AllRead}
use Rattle.sheets.proofs.Unread.{times_at}
use Rattle.chains.specs.Chain.{pick, cell_at, new_cells, signals_after}
use Rattle.chains.specs.Over.{MakesOver, ends, goes}
use Rattle.chains.proofs.Lists.{AllBelow, pick-length}
use Rattle.chains.proofs.Picked.{pick_at}
use Rattle.chains.proofs.View.{after-inputs}
use Rattle.chains.proofs.Right.{over_wired}

-- ---- counting reads

pub reads-append : (s : ℕ) (cs ds : List Cell) → reads s (cs ++ ds) ≡ reads s cs + reads s ds
reads-append s [] ds = omega arith
reads-append s (c ∷ cs) ds = omega (arith, reads-append s cs ds)

reads-list : (s r : ℕ) (f : ℕ → Cell) → 1 ≤ r → 1 ≤ times s (f 0).signals → 1 ≤ reads s (list_of r f)
unfolding list_of
reads-list s zero f p h = absurd (not-suc-le-zero p)
reads-list s (suc zero) f p h = omega arith
reads-list s (suc (suc r)) f p h = omega (
  arith,
  reads-append s (list_of (suc r) f) (f (suc r) ∷ []),
  reads-list s
      (suc r) f (omega arith) h,
)

-- ---- where a signal stands

module _ (l : List ℕ) (r A B i : ℕ) where
  abbrev n : ℕ
  n = length l

  abbrev s_h : ℕ → Bool
  s_h = reads_h (bit A) (bit B)

  kept_at : (j : ℕ) → j < n → s_h j ≡ true → get_or (signals_after l r A B i) (size j s_h) 0 ≡ get_or l j 0
  kept_at j h e = get_or-append (pick n s_h l) (list_of r (λ t. i + t)) 0 (size j s_h)
      (omega (arith, pick-length n s_h l, size-lt n s_h j h e)) ∙ pick_at n s_h l j h e

  new_at : (t : ℕ) → t < r → get_or (signals_after l r A B i) (size n s_h + t) 0 ≡ i + t
  new_at t h =
      ap (λ (k : ℕ). get_or (signals_after l r A B i) (k + t) 0) (sym (pick-length n s_h l))
      ∙ get_or-append-add (pick n s_h l) (list_of r (λ t. i + t)) t 0 ∙ list_at r (λ t. i + t) t 0 h

-- ---- every signal at hand is read
signals_read : {m K i : ℕ} {l : List ℕ} {T : ℕ} {cs : List Cell} → MakesOver m K i l T cs → (p : ℕ) → p < length l → 1
    ≤ reads (get_or l p 0) cs
signals_read (ends {l = l} h) p q = omega (arith, times_at l p q)
signals_read (goes {i = i} {l = l} {T = T} r A B {cs = cs} h b c) p q =
    let s = get_or l p 0 in
    omega (arith, reads-append s (new_cells l T r A B) cs, go (bit A p) refl (λ k g. signals_read c k g))
  where
    go : (t : Bool) → bit A p ≡ t → ((p : ℕ) → p < length (signals_after l r A B i) → 1
        ≤ reads (get_or (signals_after l r A B i) p 0) cs)
        → 1 ≤ reads (get_or l p 0) (new_cells l T r A B) + reads (get_or l p 0) cs
    go true e ih =
        let s_d = reads_d (bit A) (bit B) in
        let o : s_d p ≡ true = or_left (bit A p) (bit B p) e in
        let f : 1 ≤ times (get_or (pick (length l) s_d l) (size p s_d) 0) (pick (length l) s_d l) =
        times_at (pick (length l) s_d l) (size p s_d) (omega
        (arith, pick-length (length l) s_d l, size-lt (length l) s_d p q o)) in
        let g : 1 ≤ times (get_or l p 0) (pick (length l) s_d l) = subst (λ (s : ℕ). 1 ≤ times s (pick (length l) s_d l))
        (pick_at (length l) s_d l p q o) f in
        omega (arith, reads-list (get_or l p 0) r (cell_at l T A B) b.works.some g)
    go false e ih =
        let s = reads_h (bit A) (bit B) in
        let o : s p ≡ true = either (bit A p) (bit B p) e in
        let g : 1 ≤ reads (get_or l p 0) cs =
        subst (λ (k : ℕ). 1 ≤ reads k cs) (kept_at l r A B i p q o)
        (ih (size p s) (omega (arith, after-inputs l r A B i, size-lt (length l) s p q o))) in
        omega arith
      where
        either : (a t : Bool) → a ≡ false → (t || not (a || t)) ≡ true
        either a true z = refl
        either true false z = cc
        either false false z = refl

-- every cell but the last, that is every signal from i on but the last, is read
each_read : {m K i : ℕ} {l : List ℕ} {T : ℕ} {cs : List Cell} → MakesOver m K i l T cs → (s : ℕ) → i ≤ s → s + 1 < i
    + length cs → 1 ≤ reads s cs
each_read (ends h) s p q = absurd (omega arith)
each_read (goes {i = i} {l = l} {T = T} r A B {cs = cs} h b c) s p q = elim (dec_lt s (i + r)) [
  | yes g ↦
      let n = length l in
      let s_h = reads_h (bit A) (bit B) in
      let t = s - i in
      let f : t < r = omega arith in
      let e : i + t ≡ s = omega arith in
      let y : 1 ≤ reads s cs = subst (λ (k : ℕ). 1 ≤ reads k cs) (new_at l r A B i t f ∙ e)
      (signals_read c (size n s_h + t) (omega (arith, after-inputs l r A B i))) in
      omega (arith, reads-append s (new_cells l T r A B) cs)
  | no g ↦
      omega (
        arith,
        reads-append s (new_cells l T r A B) cs,
        each_read c s (omega arith) (omega (
          arith,
          length-append (new_cells l T r A B) cs,
          length-list r
              (cell_at l T A B),
        )),
      )
]

-- ---- by a later cell, since no cell reads its own signal or a later one

times_none : (l : List ℕ) (i s : ℕ) → AllBelow i l → i ≤ s → times s l ≡ 0
times_none [] i s low h = refl
times_none (x ∷ l) i s low h =
    let b : x < i = low 0 (omega arith) in
    omega (arith, ap val (ne_eqb s x (omega arith)), times_none l i s (λ j g. low (suc j) (omega arith)) h)

pub later_reads : (K i : ℕ) (cs : List Cell) → Wired K i cs → (j s : ℕ) → i + j ≤ s + 1 → reads s (drop j cs) ≡ reads s cs
later_reads K i cs w zero s h = refl
later_reads K i [] w (suc j) s h = refl
later_reads K i (c ∷ cs) w (suc j) s h =
    omega (arith, later_reads K (suc i) cs w.2 j s (omega arith), times_none c.signals i s w.1 (omega arith))

pub over_read : {m K i : ℕ} {l : List ℕ} {T : ℕ} {cs : List Cell} → MakesOver m K i l T cs → AllBelow i l → AllRead i cs
over_read {m} {K} {i} {l} {T} {cs} c low j h =
    omega (
      arith,
      each_read c (i + j) (omega arith) (omega arith),
      later_reads K i cs (over_wired c low) (suc j) (i + j)
          (omega arith),
    )
