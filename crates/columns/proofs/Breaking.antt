-- Where the column test fails: the least b that breaks decides the test, and its columns are told apart by so many own
-- assignments. Assumes nothing.
use mathlib.Core.Path.{◌≡◌, refl, sym, ap, ap₂, ◌∙◌}
use mathlib.Core.Bool.{Bool, true, false, not, cond}
use mathlib.Core.List.{[], ◌∷◌, ◌++◌}
use Prim.Native.Nat.{ℕ, zero, suc, ◌-◌, ◌^◌, ◌<◌, ◌≤◌}
use native.Mathlib.Nat.{not-suc-le-zero}
use native.Mathlib.Decide.{dec_lt}
use native.Mathlib.Omega.{arith}
use lib.Dec.{eqb, leb, ltb}
use lib.ListN.{length, length-append}
use borrow.Author.Tests.{eq-eqb, ne_eqb, lt-ltb, le-ltb, le-leb, lt-leb, ltb-true, ltb-false}
use Rattle.bits.specs.Places.{found_below}
use Rattle.bits.specs.Sets.{size}
use Rattle.bits.proofs.Bools.{clash}
use Rattle.bits.proofs.Below.{every_all, every_stop}
use Rattle.bits.proofs.Least.{is_least}
use Rattle.splits.specs.Columns.{member, firsts, column, columns, few_columns, first_broken}
use Rattle.columns.specs.declared.columns.Broken.{Broken}
use Rattle.columns.specs.Broken.{broken_at, found_break, Several}
use Rattle.splits.proofs.Firsts.{firsts_has}
use Rattle.columns.proofs.Places.{below_of_some, above_of_none, below_of_no_none, above_of_is_none}
use Rattle.std.proofs.Common.{Option, Some, None}
use Rattle.std.specs.Option.{is_some}

module _ (n : ℕ) (F : ℕ → Bool) (A B : ℕ → Bool) (m : ℕ) where
  -- how many columns b has
  abbrev many : ℕ → ℕ
  many b = length (columns n F A B b)

  -- what is told where the test fails, and by whether it does
  abbrev here : Broken
  here = record { b = first_broken n F A B m; columns = many (first_broken n F A B m) }

  abbrev at : Bool → Broken
  at few = cond few (record { b = 0; columns = 0 }) here

  abbrev found : ℕ → ℕ → Option Broken
  found b k = Some (record { b = b; columns = k })

  abbrev by : Bool → Option Broken
  by few = found_break (at few)

  pub broken_before : (b : ℕ) → b < first_broken n F A B m → length (columns n F A B b) ≤ m
  unfolding first_broken
  broken_before b h = ltb-false m (many b) ((is_least (2 ^ size n B) (λ b. ltb m (many b))).before b h)

  pub broken_there : first_broken n F A B m < 2 ^ size n B → m < length (columns n F A B (first_broken n F A B m))
  unfolding first_broken
  broken_there h = ltb-true m _ ((is_least (2 ^ size n B) (λ b. ltb m (many b))).here h)

  pub broken_most : first_broken n F A B m ≤ 2 ^ size n B
  unfolding first_broken
  broken_most = (is_least (2 ^ size n B) (λ b. ltb m (many b))).within

  -- the test is that there is none
  pub broken_few : few_columns n F A B m ≡ eqb (first_broken n F A B m) (2 ^ size n B)
  unfolding few_columns
  broken_few = elim (dec_lt (first_broken n F A B m) (2 ^ size n B)) [
    | yes l ↦ every_stop (2 ^ size n B) (λ b. leb (many b) m) (first_broken n F A B m) l
        (lt-leb (many (first_broken n F A B m)) m (broken_there l))
        ∙ sym (ne_eqb (first_broken n F A B m) (2 ^ size n B) (omega arith))
    | no l ↦ let e : first_broken n F A B m ≡ 2 ^ size n B = omega (arith, broken_most) in
        every_all (2 ^ size n B) (λ b. leb (many b) m) (λ b h. le-leb (many b) m (broken_before b (omega (arith, e))))
        ∙ sym (eq-eqb (first_broken n F A B m) (2 ^ size n B) e)
  ]

  pub broken_within : few_columns n F A B m ≡ false → first_broken n F A B m < 2 ^ size n B
  broken_within e = elim (dec_lt (first_broken n F A B m) (2 ^ size n B)) [
    | yes l ↦ l
    | no l ↦ absurd (clash (eq-eqb (first_broken n F A B m) (2 ^ size n B) (omega (arith, broken_most)))
        (sym broken_few ∙ e))
  ]

  -- so it is asked for by looking for one
  module _ {o : Option ℕ} (told : o ≡ found_below (2 ^ size n B) (first_broken n F A B m)) where
    pub few_by : {none : Bool} → is_some o ≡ not none → none ≡ few_columns n F A B m
    few_by {none = true} e =
        sym (broken_few ∙ eq-eqb _ _ (omega (arith, above_of_is_none told e refl, broken_most)))
    few_by {none = false} e =
        sym (broken_few ∙ ne_eqb _ _ (λ q. omega (arith, below_of_no_none told e refl)))

    -- where it breaks, and that it doesn't
    pub break_some : {b k : ℕ} → o ≡ Some b → k ≡ length (columns n F A B b)
        → found b k ≡ found_break (broken_at n F A B m)
    break_some {b} {k} e q = let w = below_of_some (sym told ∙ e) in
        ap₂ found w.1
        (q ∙ ap many w.1)
        ∙ sym (ap (λ (t : Bool). cond t (Some here) None)
        (lt-ltb 0 (many (first_broken n F A B m)) (omega (arith, broken_there w.0))))
        ∙ sym (ap by (broken_few ∙ ne_eqb _ _ (λ q. omega (arith, w.0))))

    pub break_none : o ≡ None → None ≡ found_break (broken_at n F A B m)
    break_none e =
        sym (ap by (broken_few ∙ eq-eqb _ _ (omega (arith, above_of_none (sym told ∙ e), broken_most))))

  -- a break that was found is that one, and the test fails
  pub break_is : {w : Broken} → Some w ≡ found_break (broken_at n F A B m)
      → (w ≡ broken_at n F A B m) × (few_columns n F A B m ≡ false)
  break_is {w} e = go (few_columns n F A B m) e
    where
      go : (t : Bool) → Some w ≡ by t → (w ≡ at t) × (t ≡ false)
      go true e = cc
      go false e = go' (ltb 0 (many (first_broken n F A B m))) e
        where
          go' : (t : Bool) → Some w ≡ cond t (Some here) None → (w ≡ here) × (false ≡ false)
          go' true e = (cc, refl)
          go' false e = cc

  pub no_break : None ≡ found_break (broken_at n F A B m) → few_columns n F A B m ≡ true
  no_break e = go (few_columns n F A B m) refl e
    where
      go : (t : Bool) → few_columns n F A B m ≡ t → None ≡ by t → t ≡ true
      go true q e = refl
      go false q e =
          let there = broken_there (broken_within q) in
          let some = e ∙ ap (λ (t : Bool). cond t (Some here) None)
          (lt-ltb 0 (many (first_broken n F A B m)) (omega (arith, there))) in
          cc

-- ---- so many different values come from so many places

pub firsts_most : (f : ℕ → ℕ) (n : ℕ) → length (firsts f n) ≤ n
unfolding firsts
firsts_most f zero = omega arith
firsts_most f (suc n) = go (member (f n) (firsts f n)) (firsts_most f n)
  where
    go : (t : Bool) → length (firsts f n) ≤ n → length (cond t (firsts f n) (firsts f n ++ (f n ∷ []))) ≤ suc n
    go true ih = omega arith
    go false ih = omega (arith, length-append (firsts f n) (f n ∷ []))

pub firsts_several : (f : ℕ → ℕ) (n m : ℕ) → m < length (firsts f n) → Several f n m
unfolding firsts
firsts_several f zero m h = absurd (not-suc-le-zero h)
firsts_several f (suc n) m h = go (member (f n) (firsts f n)) refl (firsts_several f n) h
  where
    -- from those below n
    wider : Several f n m → Several f (suc n) m
    wider w = record { at = w.at; below = λ i l. omega (arith, w.below i l); apart = w.apart }

    -- and n, whose value is not among theirs
    last : member (f n) (firsts f n) ≡ false → Several f n (m - 1) → 1 ≤ m → Several f (suc n) m
    last e w p = record { at = at; below = below; apart = apart }
      where
        at : ℕ → ℕ
        at i = cond (ltb i m) (w.at i) n

        low : (i : ℕ) → i < m → at i ≡ w.at i
        low i l = ap (λ (t : Bool). cond t (w.at i) n) (lt-ltb i m l)

        top : (i : ℕ) → i ≡ m → at i ≡ n
        top i q = ap (λ (t : Bool). cond t (w.at i) n) (le-ltb i m (omega arith))

        below : (i : ℕ) → i ≤ m → at i < suc n
        below i l = elim (dec_lt i m) [
          | yes g ↦ omega (arith, low i g, w.below i (omega arith))
          | no g ↦ omega
              (arith, top i (omega arith))
        ]

        apart : (i j : ℕ) → i < j → j ≤ m → f (at i) ≡ f (at j) → ⊥
        apart i j l g q = elim (dec_lt j m) [
          | yes h ↦ w.apart i j l (omega arith) (sym (ap f (low i (omega arith))) ∙ q ∙ ap f (low j h))
          | no h ↦ clash (firsts_has f n (w.at i) (w.below i (omega arith)))
              (ap (λ (x : ℕ). member x (firsts f n)) (sym (ap f (low i (omega arith))) ∙ q ∙ ap f (top j (omega arith)))
              ∙ e)
        ]

    go : (t : Bool) → member (f n) (firsts f n) ≡ t → ((m : ℕ) → m < length (firsts f n) → Several f n m) → m
        < length (cond t (firsts f n) (firsts f n ++ (f n ∷ []))) → Several f (suc n) m
    go true e ih h = wider (ih m h)
    go false e ih h = elim (dec_lt m (length (firsts f n))) [
      | yes l ↦ wider (ih m l)
      | no l ↦ elim (dec_lt 0 m) [
        | yes p ↦ last e (ih (m - 1) (omega (arith, length-append (firsts f n) (f n ∷ [])))) p
        | no p ↦ record { at = λ i. n; below = λ i g. omega arith; apart = λ i j g k q. omega arith }
      ]
    ]

-- so a b with more than m columns has m + 1 own assignments with pairwise different columns
pub columns_several : (n : ℕ) (F : ℕ → Bool) (A B : ℕ → Bool) (b m : ℕ) → m < length (columns n F A B b)
    → Several (column n F A B b) (2 ^ size n A) m
unfolding columns
columns_several n F A B b m h = firsts_several (column n F A B b) (2 ^ size n A) m h
