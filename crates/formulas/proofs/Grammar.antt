-- What the reader reads is what the text spells, and what is spelled it reads. Assumes nothing.
use mathlib.Core.Path.{◌≡◌, sym, ap, ◌∙◌}
use mathlib.Core.Bool.{Bool, true, false}
use Prim.Native.Nat.{ℕ, zero, suc, ◌+◌, ◌-◌, ◌*◌, ◌<◌, ◌≤◌}
use native.Mathlib.Omega.{arith}
use native.Mathlib.Decide.{dec_lt}
use Rattle.values.specs.Formula.{Formula, letter, constant}
use Rattle.formulas.specs.Text.{mark, Spells, a_letter, a_zero, a_one, a_not, a_nest, only, more}
use Rattle.formulas.specs.Reading.{bang, opening, digit, input, kind, up_to}
use Rattle.formulas.proofs.Steps.{Run, r_digit, r_input, r_not, r_open, r_last, r_next}
use Rattle.formulas.proofs.ByteKinds.{View, v_zero, v_one, v_input, viewed, is_bang, is_open, kind_bang}
use Rattle.formulas.proofs.ByteKinds.{kind_open, kind-zero, kind-one, kind_input}

-- no mark is 0
pub mark_pos : (k : ℕ) → 0 < mark k
mark_pos zero = omega arith
mark_pos (suc zero) = omega arith
mark_pos (suc (suc k)) = omega arith

-- ---- what is spelled has at least one byte, and none that is 0; it depends on those bytes alone

module _ (c : ℕ → ℕ) (n : ℕ) where
  pub spells_lt : {k d : ℕ} {F : Formula} {p q : ℕ} → Spells c n k d F p q → p < q
  spells_lt (a_letter j l e) = omega arith
  spells_lt (a_zero e) = omega arith
  spells_lt (a_one e) = omega arith
  spells_lt (a_not e h) = let i = spells_lt h in omega arith
  spells_lt (a_nest e h f) = let i = spells_lt h in omega arith
  spells_lt (only h) = spells_lt h
  spells_lt (more h e i) = let a = spells_lt h in let b = spells_lt i in omega arith

  -- i is p, or after it
  split : {A : Type 0} (p i : ℕ) → p ≤ i → (i ≡ p → A) → (suc p ≤ i → A) → A
  split p i h f g = elim (dec_lt p i) [ yes l ↦ g l | no l ↦ f (omega arith) ]

  pub spells_bytes : {k d : ℕ} {F : Formula} {p q : ℕ} → Spells c n k d F p q → (i : ℕ) → p ≤ i → i < q → c i ≡ 0 → ⊥
  spells_bytes {p = p} (a_letter j l e) i a b z = let x : i ≡ p = omega arith in let y = ap c x in omega arith
  spells_bytes {p = p} (a_zero e) i a b z = let x : i ≡ p = omega arith in let y = ap c x in omega arith
  spells_bytes {p = p} (a_one e) i a b z = let x : i ≡ p = omega arith in let y = ap c x in omega arith
  spells_bytes {p = p} (a_not e h) i a b z = split p i a (λ x. let y = ap c x in omega arith)
      (λ l. spells_bytes h i l b z)
  spells_bytes {p = p} (a_nest {q = q} e h f) i a b z =
      split p i a (λ x. let y = ap c x in omega arith)
      (λ l. elim (dec_lt i q) [
        | yes m ↦ spells_bytes h i l m z
        | no m ↦
            (let x : i ≡ q = omega arith in let y = ap c x in omega arith)
      ])
  spells_bytes (only h) i a b z = spells_bytes h i a b z
  spells_bytes (more {k = k} {q = q} h e j) i a b z =
      elim (dec_lt i q) [
        | yes m ↦ spells_bytes h i a m z
        | no m ↦ split q i (omega arith) (λ x. let y = ap c x in omega (arith, mark_pos k))
            (λ l. spells_bytes j i l b z)
      ]

pub spells_same : (c c' : ℕ → ℕ) (n : ℕ) {k d : ℕ} {F : Formula} {p q : ℕ} → Spells c n k d F p q
    → ((i : ℕ) → p ≤ i → i < q → c' i ≡ c i) → Spells c' n k d F p q
spells_same c c' n {p = p} (a_letter j l e) s = a_letter j l (s p (omega arith) (omega arith) ∙ e)
spells_same c c' n {p = p} (a_zero e) s = a_zero (s p (omega arith) (omega arith) ∙ e)
spells_same c c' n {p = p} (a_one e) s = a_one (s p (omega arith) (omega arith) ∙ e)
spells_same c c' n {p = p} (a_not e h) s =
    let l = spells_lt c n h in
    a_not (s p (omega arith) (omega arith) ∙ e) (spells_same c c' n h (λ i a b. s i (omega arith) b))
spells_same c c' n {p = p} (a_nest {q = q} e h f) s =
    let l = spells_lt c n h in
    a_nest (s p (omega arith) (omega arith) ∙ e) (spells_same c c' n h (λ i a b. s i (omega arith) (omega arith)))
    (s q (omega arith) (omega arith) ∙ f)
spells_same c c' n (only h) s = only (spells_same c c' n h s)
spells_same c c' n (more {q = q} h e j) s =
    let l = spells_lt c n h in
    let m = spells_lt c n j in
    more (spells_same c c' n h (λ i a b. s i a (omega arith))) (s q (omega arith) (omega arith) ∙ e)
    (spells_same c c' n j (λ i a b. s i (omega arith) b))

-- ---- what is read is spelled

module _ (c : ℕ → ℕ) (n : ℕ) where
  digit_spells : (d p : ℕ) (t : Bool) → View n (c p) (digit t) → Spells c n 0 d (constant t) p (suc p)
  digit_spells d p true (v_one e) = a_one e
  digit_spells d p false (v_zero e) = a_zero e

  input_spells : (d p : ℕ) {j : ℕ} → View n (c p) (input j) → Spells c n 0 d (letter j) p (suc p)
  input_spells d p (v_input j l e) = a_letter j l e

  pub sound : {m k d p q : ℕ} {F : Formula} → Run c n m k d p (up_to F q) → Spells c n k d F p q
  sound {d = d} {p = p} (r_digit t h) = digit_spells d p t (viewed n (c p) (digit t) h)
  sound {d = d} {p = p} (r_input j h) = input_spells d p (viewed n (c p) (input j) h)
  sound {p = p} (r_not h i) = a_not (is_bang n (c p) (viewed n (c p) bang h)) (sound i)
  sound {p = p} (r_open h i e) = a_nest (is_open n (c p) (viewed n (c p) opening h)) (sound i) e
  sound (r_last i l) = only (sound i)
  sound (r_next i e j) = more (sound i) e (sound j)

  -- ---- and what is spelled is read, where no mark follows

  abbrev pub Stops : ℕ → ℕ → Type 0
  Stops k b = (j : ℕ) → j < k → b ≡ mark j → ⊥

  mark-apart : (k j : ℕ) → k ≤ 2 → j < k → mark k ≡ mark j → ⊥
  mark-apart zero j h l e = omega arith
  mark-apart (suc zero) zero h l e = omega arith
  mark-apart (suc zero) (suc j) h l e = omega arith
  mark-apart (suc (suc zero)) zero h l e = omega arith
  mark-apart (suc (suc zero)) (suc zero) h l e = omega arith
  mark-apart (suc (suc zero)) (suc (suc j)) h l e = omega arith
  mark-apart (suc (suc (suc k))) j h l e = omega arith

  close_stops : (k b : ℕ) → b ≡ 41 → Stops k b
  close_stops k b e zero l f = omega arith
  close_stops k b e (suc zero) l f = omega arith
  close_stops k b e (suc (suc j)) l f = omega arith

  pub zero_stops : (k b : ℕ) → b ≡ 0 → Stops k b
  zero_stops k b e zero l f = omega arith
  zero_stops k b e (suc zero) l f = omega arith
  zero_stops k b e (suc (suc j)) l f = omega arith

  input_of : (b j : ℕ) → j < n → b ≡ 97 + j → kind n b ≡ input j
  input_of b j l e = kind_input n b (omega arith) (omega arith) ∙ ap input (omega arith)

  pub complete : {k d : ℕ} {F : Formula} {p q : ℕ} → Spells c n k d F p q → k ≤ 3 → Stops k (c q) → (m : ℕ)
      → 4 * (q - p) + k < m → Run c n m k d p (up_to F q)
  complete h a s zero l = absurd (omega arith)
  complete {p = p} (a_letter j i e) a s (suc m) l = r_input j (input_of (c p) j i e)
  complete {p = p} (a_zero e) a s (suc m) l = r_digit false (kind-zero n (c p) e)
  complete {p = p} (a_one e) a s (suc m) l = r_digit true (kind-one n (c p) e)
  complete {p = p} (a_not e h) a s (suc m) l =
      let z = spells_lt c n h in
      r_not (kind_bang n (c p) e) (complete h (omega arith) s m (omega arith))
  complete {p = p} (a_nest {q = q} e h f) a s (suc m) l =
      let z = spells_lt c n h in
      r_open (kind_open n (c p) e) (complete h (omega arith) (close_stops 3 (c q) f) m (omega arith)) f
  complete (only {k = k} h) a s (suc m) l =
      r_last (complete h (omega arith) (λ j b. s j (omega arith)) m (omega arith)) (s k (omega arith))
  complete (more {k = k} h e i) a s (suc m) l =
      let y = spells_lt c n h in
      let z = spells_lt c n i in
      r_next (complete h (omega arith) (λ j b f. mark-apart k j (omega arith) b (sym e ∙ f)) m (omega arith)) e
      (complete i a s m (omega arith))
