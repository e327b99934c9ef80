-- The times of signals, one after another: one input more, one place of a cell more, one cell more. Assumes nothing.
use Rattle.std.proofs.Common.{◌≡◌, ℕ, zero, suc, ◌+◌, ◌-◌, ◌<◌, ◌≤◌, Bool, true, false, cond, eqb, ltb, List, length, get_or, set, replicate, sym, refl, ap, ◌∙◌, ap₂, add-one, arith, get_or-set_other, get_or-set_same, le-ltb, lt-ltb, eqb-true}
use mathlib.Core.Path.{fun_ext}
use native.Mathlib.Decide.{dec_lt}
use lib.Ieee.{Float}
use borrow.Author.Tests.{eqb-false}
use Rattle.bits.specs.Lists.{list_of}
use Rattle.bits.proofs.Lists.{length-list, list_at}
use Rattle.sheets.specs.declared.kinds.Edition.{Edition}
use Rattle.sheets.specs.Record.{cell_of}
use Rattle.sheets.specs.Sheet.{record_at, cells_from, sheet_cells}
use Rattle.times.specs.declared.input_time.InputTime.{InputTime}
use Rattle.times.specs.InputTimes.{zero_time, time_of, time_at, input_times}
use Rattle.times.specs.Signals.{kept_time, cell_time, output_time}

-- ---- a list of times

module _ {A : Type 0} where
  pub zeros_at : (k h : ℕ) (z : A) → get_or (replicate k z) h z ≡ z
  zeros_at zero h z = refl
  zeros_at (suc k) zero z = refl
  zeros_at (suc k) (suc h) z = zeros_at k h z

  -- one place written
  pub written_at : (l : List A) (t : ℕ) (o z : A) (h : ℕ) → t < length l → get_or (set l t o) h z
      ≡ cond (eqb h t) o (get_or l h z)
  written_at l t o z h k = go (eqb h t) refl
    where
      go : (r : Bool) → eqb h t ≡ r → get_or (set l t o) h z ≡ cond r o (get_or l h z)
      go true q = ap (λ (j : ℕ). get_or (set l t o) j z) (eqb-true h t q) ∙ get_or-set_same l t o z k
      go false q = get_or-set_other l t h o z (eqb-false h t q)

-- ---- the inputs

pub no_inputs : (late : Bool) (ts : List InputTime) (l : List Float) (k h : ℕ) → l ≡ replicate k zero_time
    → get_or l h zero_time ≡ input_times late 0 ts h
no_inputs late ts l k h q = ap (λ (m : List Float). get_or m h zero_time) q ∙ zeros_at k h zero_time
    ∙ sym (ap (λ (t : Bool). cond t (time_of late (time_at ts h)) zero_time) (le-ltb h 0 (omega arith)))

pub one_input : (late : Bool) (ts : List InputTime) (l : List Float) (j : ℕ) (o : Float) → j < length l → o
    ≡ time_of late (time_at ts j)
    → ((h : ℕ) → get_or l h zero_time ≡ input_times late j ts h) → (h : ℕ) → get_or (set l j o) h zero_time
    ≡ input_times late (j + 1) ts h
one_input late ts l j o k q f h = written_at l j o zero_time h k ∙ go (eqb h j) refl
  where
    go : (r : Bool) → eqb h j ≡ r → cond r o (get_or l h zero_time) ≡ input_times late (j + 1) ts h
    go true e =
        let p = eqb-true h j e in
        q ∙ ap (λ (i : ℕ). time_of late (time_at ts i)) (sym p)
        ∙ sym (ap (λ (t : Bool). cond t (time_of late (time_at ts h)) zero_time) (lt-ltb h (j + 1) (omega (arith, p))))
    go false e = f h ∙ ap (λ (t : Bool). cond t (time_of late (time_at ts h)) zero_time)
        (same (dec_lt h j) (eqb-false h j e))
      where
        same : Dec (h < j) → (h ≡ j → ⊥) → ltb h j ≡ ltb h (j + 1)
        same (yes l) d = lt-ltb h j l ∙ sym (lt-ltb h (j + 1) (omega arith))
        same (no l) d = le-ltb h j (omega arith) ∙ sym (le-ltb h (j + 1) (omega arith))

-- ---- a cell

module _ {A : Type 0} (pick : A → A → A) where
  pub kept_ext : (k : ℕ) (v w : ℕ → A) → ((j : ℕ) → j ≤ k → v j ≡ w j) → kept_time pick v k ≡ kept_time pick w k
  unfolding kept_time
  kept_ext zero v w h = h 0 (omega arith)
  kept_ext (suc k) v w h = ap₂ pick (kept_ext k v w (λ j l. h j (omega arith))) (h (suc k) (omega arith))

  pub kept_more : (k : ℕ) (v : ℕ → A) → 1 ≤ k → pick (kept_time pick v (k - 1)) (v k) ≡ kept_time pick v (k + 1 - 1)
  unfolding kept_time
  kept_more zero v h = absurd (omega arith)
  kept_more (suc k) v h =
      let p : suc k - 1 ≡ k = omega arith in
      let q : suc k + 1 - 1 ≡ suc k = omega arith in
      ap (λ (i : ℕ). pick (kept_time pick v i) (v (suc k))) p ∙ sym (ap (kept_time pick v) q)

  -- a record's cell, by its bytes
  pub cell_at_lem : (after : A → A) (e : Edition) (b : ℕ → ℕ) (v : ℕ → A) → 1 ≤ b 0 → cell_time pick after (cell_of e b) v
      ≡ after (kept_time pick (λ j. v (b (j + 1))) (b 0 - 1))
  unfolding cell_time cell_of
  cell_at_lem after e b v h =
      let l = list_of (b 0) (λ j. b (j + 1)) in
      ap after (ap (λ (k : ℕ). kept_time pick (λ j. v (get_or l j 0)) (k - 1)) (length-list (b 0) (λ j. b (j + 1)))
      ∙ kept_ext (b 0 - 1) (λ j. v (get_or l j 0)) (λ j. v (b (j + 1)))
      (λ j g. ap v (list_at (b 0) (λ j. b (j + 1)) j 0 (omega arith))))

-- ---- the cells: i of m records are passed, the last of them at o; signal h settles at v h, and what is left gives X

module _ {A : Type 0} (pick : A → A → A) (after : A → A) (e : Edition) (s : List ℕ) (m : ℕ) where
  abbrev pub Passed : A → (n i : ℕ) → A → (ℕ → A) → Type 0
  Passed X n i o v = X ≡ output_time pick after o (n + i) (cells_from e s i (m - i)) v

  pub passed_none : (n : ℕ) (o : A) (v : ℕ → A) → Passed (output_time pick after o n (sheet_cells e s m) v) n 0 o v
  passed_none n o v =
      let p : m ≡ m - 0 = omega arith in
      let q : n ≡ n + 0 = omega arith in
      ap₂ (λ (r i : ℕ). output_time pick after o i (cells_from e s 0 r) v) p q

  pub passed_more : (X : A) (n i : ℕ) (o o' : A) (v v' : ℕ → A) → i < m → o'
      ≡ cell_time pick after (cell_of e (record_at e s i)) v
      → ((h : ℕ) → v' h ≡ cond (eqb h (n + i)) o' (v h)) → Passed X n i o v → Passed X n (i + 1) o' v'
  unfolding output_time cells_from
  passed_more X n i o o' v v' l q f g =
      let r = m - (i + 1) in
      let p : m - i ≡ suc r = omega arith in
      let t : suc (n + i) ≡ n + (i + 1) = omega arith in
      g ∙ ap (λ (k : ℕ). output_time pick after o (n + i) (cells_from e s i k) v) p
      ∙ ap (λ (b : A). output_time pick after b (suc (n + i)) (cells_from e s (suc i) r)
      (λ h. cond (eqb h (n + i)) b (v h))) (sym q)
      ∙ ap (output_time pick after o' (suc (n + i)) (cells_from e s (suc i) r)) (sym (fun_ext f))
      ∙ ap₂ (λ (u j : ℕ). output_time pick after o' u (cells_from e s j r) v') t (sym (add-one i))

  pub passed_all : (X : A) (n i : ℕ) (o : A) (v : ℕ → A) → m ≤ i → Passed X n i o v → X ≡ o
  unfolding output_time cells_from
  passed_all X n i o v h g = let q : m - i ≡ 0 = omega arith in g
      ∙ ap (λ (r : ℕ). output_time pick after o (n + i) (cells_from e s i r) v) q
