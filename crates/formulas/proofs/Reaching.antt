-- How far a reading reaches: it depends on the bytes up to there alone, and on enough calls for them. Assumes nothing.
use mathlib.Core.Path.{◌≡◌, sym, ap, ◌∙◌}
use Prim.Native.Nat.{ℕ, zero, suc, ◌+◌, ◌-◌, ◌*◌, ◌<◌, ◌≤◌}
use native.Mathlib.Omega.{arith}
use Rattle.formulas.specs.Reading.{kind, Reading, up_to, stuck}
use Rattle.formulas.proofs.Steps.{Run, r_tired, r_other, r_digit, r_input, r_deep_not, r_deep_open, r_not-bad}
use Rattle.formulas.proofs.Steps.{r_not, r_open_bad, r_open_left, r_open, r_first-bad, r_last, r_next-bad}
use Rattle.formulas.proofs.Steps.{r_next}
use Rattle.formulas.proofs.Grammar.{spells_lt, sound}

abbrev pub reach : Reading → ℕ
reach (up_to F q) = q
reach (stuck q) = q

module _ (c : ℕ → ℕ) (n : ℕ) where
  pub from : {m k d p : ℕ} {g : Reading} → Run c n m k d p g → p ≤ reach g
  from r_tired = omega arith
  from (r_other h) = omega arith
  from (r_digit t h) = omega arith
  from (r_input j h) = omega arith
  from (r_deep_not h) = omega arith
  from (r_deep_open h) = omega arith
  from (r_not-bad h i) = let a = from i in omega arith
  from (r_not h i) = let a = from i in omega arith
  from (r_open_bad h i) = let a = from i in omega arith
  from (r_open_left F h i l) = let a = from i in omega arith
  from (r_open h i l) = let a = from i in omega arith
  from (r_first-bad i) = from i
  from (r_last i l) = from i
  from (r_next-bad F i l j) = let a = from i in let b = from j in omega arith
  from (r_next i l j) = let a = from i in let b = from j in omega arith

  -- a reading that has calls enough for the bytes that it passes is the same with any other number of calls that is
  -- enough
  pub fuel : {m k d p : ℕ} {g : Reading} → Run c n m k d p g → 4 * (reach g - p) + k < m → (m' : ℕ) → 4 * (reach g - p)
      + k < m' → Run c n m' k d p g
  fuel i a zero b = absurd (omega arith)
  fuel r_tired a (suc m') b = absurd (omega arith)
  fuel (r_other h) a (suc m') b = r_other h
  fuel (r_digit t h) a (suc m') b = r_digit t h
  fuel (r_input j h) a (suc m') b = r_input j h
  fuel (r_deep_not h) a (suc m') b = r_deep_not h
  fuel (r_deep_open h) a (suc m') b = r_deep_open h
  fuel (r_not-bad h i) a (suc m') b = let x = from i in r_not-bad h (fuel i (omega arith) m' (omega arith))
  fuel (r_not h i) a (suc m') b = let x = from i in r_not h (fuel i (omega arith) m' (omega arith))
  fuel (r_open_bad h i) a (suc m') b = let x = from i in r_open_bad h (fuel i (omega arith) m' (omega arith))
  fuel (r_open_left F h i l) a (suc m') b = let x = from i in r_open_left F h (fuel i (omega arith) m' (omega arith)) l
  fuel (r_open h i l) a (suc m') b = let x = from i in r_open h (fuel i (omega arith) m' (omega arith)) l
  fuel (r_first-bad i) a (suc m') b = r_first-bad (fuel i (omega arith) m' (omega arith))
  fuel (r_last i l) a (suc m') b = r_last (fuel i (omega arith) m' (omega arith)) l
  fuel (r_next-bad F i l j) a (suc m') b =
      let x = spells_lt c n (sound c n i) in
      let y = from j in
      r_next-bad F (fuel i (omega arith) m' (omega arith)) l (fuel j (omega arith) m' (omega arith))
  fuel (r_next i l j) a (suc m') b =
      let x = spells_lt c n (sound c n i) in
      let y = from j in
      r_next (fuel i (omega arith) m' (omega arith)) l (fuel j (omega arith) m' (omega arith))

-- a reading depends on the bytes up to where it reaches alone
pub local : (c c' : ℕ → ℕ) (n b : ℕ) → ((i : ℕ) → i ≤ b → c' i ≡ c i) → {m k d p : ℕ} {g : Reading} → Run c n m k d p g
    → reach g ≤ b → Run c' n m k d p g
local c c' n b s r_tired h = r_tired
local c c' n b s {p = p} (r_other e) h = r_other (ap (kind n) (s p h) ∙ e)
local c c' n b s {p = p} (r_digit t e) h = r_digit t (ap (kind n) (s p (omega arith)) ∙ e)
local c c' n b s {p = p} (r_input j e) h = r_input j (ap (kind n) (s p (omega arith)) ∙ e)
local c c' n b s {p = p} (r_deep_not e) h = r_deep_not (ap (kind n) (s p h) ∙ e)
local c c' n b s {p = p} (r_deep_open e) h = r_deep_open (ap (kind n) (s p h) ∙ e)
local c c' n b s {p = p} (r_not-bad e i) h = let a = from c n i
    in r_not-bad (ap (kind n) (s p (omega arith)) ∙ e) (local c c' n b s i h)
local c c' n b s {p = p} (r_not e i) h = let a = from c n i
    in r_not (ap (kind n) (s p (omega arith)) ∙ e) (local c c' n b s i h)
local c c' n b s {p = p} (r_open_bad e i) h = let a = from c n i
    in r_open_bad (ap (kind n) (s p (omega arith)) ∙ e) (local c c' n b s i h)
local c c' n b s {p = p} (r_open_left {q = q} F e i l) h =
    let a = from c n i in
    r_open_left F (ap (kind n) (s p (omega arith)) ∙ e) (local c c' n b s i h) (λ z. l (sym (s q h) ∙ z))
local c c' n b s {p = p} (r_open {q = q} e i l) h =
    let a = from c n i in
    r_open (ap (kind n) (s p (omega arith)) ∙ e) (local c c' n b s i (omega arith)) (s q (omega arith) ∙ l)
local c c' n b s (r_first-bad i) h = r_first-bad (local c c' n b s i h)
local c c' n b s (r_last {q = q} i l) h = r_last (local c c' n b s i h) (λ z. l (sym (s q h) ∙ z))
local c c' n b s (r_next-bad {q = q} F i l j) h =
    let a = from c n j in
    r_next-bad F (local c c' n b s i (omega arith)) (s q (omega arith) ∙ l) (local c c' n b s j h)
local c c' n b s (r_next {q = q} i l j) h =
    let a = from c n j in
    r_next (local c c' n b s i (omega arith)) (s q (omega arith) ∙ l) (local c c' n b s j h)
