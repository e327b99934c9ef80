-- A number is given exactly when its line holds and no earlier line does; 0 is given exactly when no line holds.
-- Assumes nothing.
use mathlib.Core.Path.{◌≡◌, refl, sym, ap, ◌∙◌}
use mathlib.Core.Logic.{◌↔◌}
use mathlib.Core.Bool.{Bool, true, false, cond, not, ◌&&◌, ◌||◌}
use mathlib.Core.List.{List, [], ◌∷◌, ◌++◌, append-nil}
use Prim.Native.Nat.{ℕ, zero, suc, ◌<◌}
use native.Mathlib.Nat.{not-suc-le-zero}
use native.Mathlib.Omega.{arith}
use lib.Dec.{eqb}
use lib.ListN.{length}
use borrow.Author.Tests.{not-true, eqb-true, eqb-false}
use Rattle.bits.proofs.Bools.{and_left, and_right}
use Rattle.refusals.specs.Verdicts.{Refusal, Verdict, Fine, Refused}
use Rattle.refusals.specs.Lines.{Line, verdict, InOrder, number_of, place_of, reply, line_at, Given}

pick : Line → Verdict → Bool → Verdict
pick l v t = cond t (Refused l.gives) v

refused : Verdict → ℕ
refused Fine = 0
refused (Refused r) = 1

pub not_fine : (r : Refusal) → Fine ≡ Refused r → ⊥
unfolding refused
not_fine r e = let z : ◌≡◌ {A = ℕ} 0 1 = ap refused e in omega arith

-- ---- a part of the lines, and those that follow it

-- where it is in order, those that follow decide
pub passes : (ls ms : List Line) → InOrder ls → verdict (ls ++ ms) ≡ verdict ms
unfolding pick
passes [] ms s = refl
passes (l ∷ ls) ms s = ap (pick l (verdict (ls ++ ms))) s.0 ∙ passes ls ms s.1

-- where it refuses, that is the verdict
pub stops : (ls ms : List Line) (r : Refusal) → verdict ls ≡ Refused r → verdict (ls ++ ms) ≡ Refused r
unfolding pick
stops [] ms r e = absurd (not_fine r e)
stops (l ∷ ls) ms r e = go l.holds e (stops ls ms r)
  where
    go : (t : Bool) → pick l (verdict ls) t ≡ Refused r → (verdict ls ≡ Refused r → verdict (ls ++ ms) ≡ Refused r)
        → pick l (verdict (ls ++ ms)) t ≡ Refused r
    go true q ih = q
    go false q ih = ih q

-- where those that follow are in order, it decides
pub lapses : (ls ms : List Line) → InOrder ms → verdict (ls ++ ms) ≡ verdict ls
unfolding pick
lapses [] ms s = sym (ap verdict (append-nil ms)) ∙ passes ms [] s
lapses (l ∷ ls) ms s = ap (λ (v : Verdict). pick l v l.holds) (lapses ls ms s)

-- where it is fine it is in order
pub in_order_lem : (ls : List Line) → verdict ls ≡ Fine → InOrder ls
unfolding pick
in_order_lem [] e = tt
in_order_lem (l ∷ ls) e = go l.holds refl e (in_order_lem ls)
  where
    go : (t : Bool) → l.holds ≡ t → pick l (verdict ls) t ≡ Fine → (verdict ls ≡ Fine → InOrder ls) → InOrder (l ∷ ls)
    go true h q ih = absurd (not_fine l.gives (sym q))
    go false h q ih = (h, ih q)

-- a call whose first lines are looked at before the others: what it returns and leaves
module _ {A : Type 0} (ls ms : List Line) (done : A) (refused : Refusal → A) where
  -- those refuse
  pub refused_by : (v : Verdict) (r : Refusal) → v ≡ verdict ls → v ≡ Refused r → refused r
      ≡ reply (verdict (ls ++ ms)) done refused
  refused_by v r q e = ap (λ (u : Verdict). reply u done refused) (sym (stops ls ms r (sym q ∙ e)))

  -- those are in order
  pub left_to : (v : Verdict) → v ≡ verdict ls → v ≡ Fine → reply (verdict ms) done refused
      ≡ reply (verdict (ls ++ ms)) done refused
  left_to v q e = ap (λ (u : Verdict). reply u done refused) (sym (passes ls ms (in_order_lem ls (sym q ∙ e))))

-- ---- the same step by step, as the code goes: each line before the first that holds is passed over

pub data First : List Line → Verdict → Type 0 where
  fine : First [] Fine
  here : {l : Line} {ls : List Line} → l.holds ≡ true → First (l ∷ ls) (Refused l.gives)
  later : {l : Line} {ls : List Line} {v : Verdict} → l.holds ≡ false → First ls v → First (l ∷ ls) v

pub decides : (ls : List Line) {v : Verdict} → First ls v → v ≡ verdict ls
unfolding pick
decides [] fine = refl
decides (l ∷ ls) (here h) = sym (ap (pick l (verdict ls)) h)
decides (l ∷ ls) (later h f) = decides ls f ∙ sym (ap (pick l (verdict ls)) h)

-- a look at the first lines, which comes to v, and then at the others
module _ (ls ms : List Line) (v : Verdict) (looked : v ≡ verdict ls) where
  -- those refuse
  pub stopped : (r : Refusal) → v ≡ Refused r → v ≡ verdict (ls ++ ms)
  stopped r e = e ∙ sym (stops ls ms r (sym looked ∙ e))

  -- those are in order: the others decide, which a look at them or the first that holds does
  pub goes_on : v ≡ Fine → {w : Verdict} → w ≡ verdict ms → w ≡ verdict (ls ++ ms)
  goes_on e f = f ∙ sym (passes ls ms (in_order_lem ls (sym looked ∙ e)))

  pub decided : v ≡ Fine → {w : Verdict} → First ms w → w ≡ verdict (ls ++ ms)
  decided e f = goes_on e (decides ms f)

-- ---- number k is given exactly when the line with number k holds and no earlier line does

given_there : (ls : List Line) (k : ℕ) → (k ≡ 0 → ⊥) → number_of (verdict ls) ≡ k → Given k ls
unfolding pick
given_there [] k some e = absurd (some (sym e))
given_there (l ∷ ls) k some e = go l.holds refl e (given_there ls k some)
  where
    before : (g : Given k ls) → l.holds ≡ false → (j : ℕ) → j < suc g.at → (line_at (l ∷ ls) j).holds ≡ false
    before g h zero m = h
    before g h (suc j) m = g.earlier j (omega arith)

    go : (t : Bool) → l.holds ≡ t → number_of (pick l (verdict ls) t) ≡ k → (number_of (verdict ls) ≡ k → Given k ls)
        → Given k (l ∷ ls)
    go true h q ih = record {
      at = 0;
      within = omega arith;
      number = q;
      holds = h;
      earlier = λ j m. absurd (not-suc-le-zero m);
    }
    go false h q ih = let g = ih q in record {
      at = suc g.at;
      within = omega (arith, g.within);
      number = g.number;
      holds = g.holds;
      earlier = before g h;
    }

there_given : (ls : List Line) (k : ℕ) → Given k ls → number_of (verdict ls) ≡ k
unfolding pick
there_given [] k g = absurd (not-suc-le-zero g.within)
there_given (l ∷ ls) k g = go g.at g.within g.number g.holds g.earlier (there_given ls k)
  where
    go : (i : ℕ) → i < suc (length ls) → (line_at (l ∷ ls) i).gives.number ≡ k → (line_at (l ∷ ls) i).holds ≡ true
        → ((j : ℕ) → j < i → (line_at (l ∷ ls) j).holds ≡ false) → (Given k ls → number_of (verdict ls) ≡ k)
        → number_of (pick l (verdict ls) l.holds) ≡ k
    go zero w n h e ih = ap (λ (t : Bool). number_of (pick l (verdict ls) t)) h ∙ n
    go (suc i) w n h e ih =
        ap (λ (t : Bool). number_of (pick l (verdict ls) t)) (e 0 (omega arith))
        ∙ ih (record { at = i; within = omega arith; number = n; holds = h; earlier = λ j m. e (suc j) (omega arith) })

pub given : (ls : List Line) (k : ℕ) → (k ≡ 0 → ⊥) → (number_of (verdict ls) ≡ k) ↔ Given k ls
given ls k some = (given_there ls k some, there_given ls k)

-- ---- and 0, done, exactly when no line holds

-- no line has the number k
abbrev pub others : ℕ → List Line → Bool
others k [] = true
others k (l ∷ ls) = not (eqb l.gives.number k) && others k ls

-- lines of other numbers don't give k: then they are in order, and those that follow give it
pub passed : (ls ms : List Line) (k : ℕ) → others k ls ≡ true → number_of (verdict (ls ++ ms)) ≡ k → InOrder ls
    × (number_of (verdict ms) ≡ k)
unfolding pick
passed [] ms k o e = (tt, e)
passed (l ∷ ls) ms k o e = go l.holds refl e
    (passed ls ms k (and_right (not (eqb l.gives.number k)) (others k ls) o))
  where
    go : (t : Bool) → l.holds ≡ t → number_of (pick l (verdict (ls ++ ms)) t) ≡ k
        → (number_of (verdict (ls ++ ms)) ≡ k → InOrder ls × (number_of (verdict ms) ≡ k))
        → InOrder (l ∷ ls) × (number_of (verdict ms) ≡ k)
    go true h q ih = absurd (eqb-false l.gives.number k
        (not-true (eqb l.gives.number k) (and_left (not (eqb l.gives.number k)) (others k ls) o)) q)
    go false h q ih = let r = ih q in ((h, r.0), r.1)

-- lines of other numbers don't refuse by k
pub another : (ls : List Line) (k : ℕ) (r : Refusal) → others k ls ≡ true → verdict ls ≡ Refused r → r.number ≡ k → ⊥
another ls k r o e q =
    let w = passed ls [] k o (ap (λ (l : List Line). number_of (verdict l)) (append-nil ls) ∙ ap number_of e ∙ q) in
    not_fine r (sym (passes ls [] w.0) ∙ ap verdict (append-nil ls) ∙ e)

-- the numbers of all lines pass the test, and so does that of a refusal by them
abbrev pub all_numbers : (ℕ → Bool) → List Line → Bool
all_numbers p [] = true
all_numbers p (l ∷ ls) = p l.gives.number && all_numbers p ls

pub a_number : (p : ℕ → Bool) (ls : List Line) (r : Refusal) → all_numbers p ls ≡ true → verdict ls ≡ Refused r
    → p r.number ≡ true
unfolding pick
a_number p [] r o e = absurd (not_fine r e)
a_number p (l ∷ ls) r o e = go l.holds e (a_number p ls r (and_right (p l.gives.number) (all_numbers p ls) o))
  where
    go : (t : Bool) → pick l (verdict ls) t ≡ Refused r → (verdict ls ≡ Refused r → p r.number ≡ true)
        → p r.number ≡ true
    go true q ih = ap (λ (v : Verdict). p (number_of v)) (sym q) ∙ and_left (p l.gives.number) (all_numbers p ls) o
    go false q ih = ih q

-- a number that one line alone has is given by that line, which holds
pub held : (ls : List Line) (l : Line) (ms : List Line) (k : ℕ) → others k ls ≡ true → others k ms ≡ true → (k ≡ 0 → ⊥)
    → number_of (verdict (ls ++ (l ∷ ms))) ≡ k
    → (l.holds ≡ true) × (verdict (ls ++ (l ∷ ms)) ≡ Refused l.gives)
unfolding pick
held ls l ms k o p some e = go l.holds refl w.1
  where
    w : InOrder ls × (number_of (verdict (l ∷ ms)) ≡ k)
    w = passed ls (l ∷ ms) k o e

    go : (t : Bool) → l.holds ≡ t → number_of (pick l (verdict ms) t) ≡ k → (l.holds ≡ true)
        × (verdict (ls ++ (l ∷ ms)) ≡ Refused l.gives)
    go true h q = (h, passes ls (l ∷ ms) w.0 ∙ ap (pick l (verdict ms)) h)
    go false h q = absurd (some (sym (passed ms [] k p
        (ap (λ (m : List Line). number_of (verdict m)) (append-nil ms) ∙ q)).1))

-- the lines whose number passes the test name something; the others name nothing
abbrev pub naming_only : (ℕ → Bool) → List Line → Bool
naming_only p [] = true
naming_only p (l ∷ ls) = (p l.gives.number || eqb l.gives.place 0) && naming_only p ls

pub names_nothing : (p : ℕ → Bool) (ls : List Line) → naming_only p ls ≡ true → p (number_of (verdict ls)) ≡ false
    → place_of (verdict ls) ≡ 0
unfolding pick
names_nothing p [] o h = refl
names_nothing p (l ∷ ls) o h = go l.holds h
    (names_nothing p ls (and_right (p l.gives.number || eqb l.gives.place 0) (naming_only p ls) o))
  where
    go : (t : Bool) → p (number_of (pick l (verdict ls) t)) ≡ false
        → (p (number_of (verdict ls)) ≡ false → place_of (verdict ls) ≡ 0) → place_of (pick l (verdict ls) t) ≡ 0
    go true q ih =
        eqb-true l.gives.place 0
        (sym (ap (λ (t : Bool). t || eqb l.gives.place 0) q)
        ∙ and_left (p l.gives.number || eqb l.gives.place 0) (naming_only p ls) o)
    go false q ih = ih q

-- no line has the number 0, so 0 is given exactly when no line holds
pub done : (ls : List Line) → others 0 ls ≡ true → (number_of (verdict ls) ≡ 0) ↔ InOrder ls
done ls o = (
  λ e. (passed ls [] 0 o (ap (λ (l : List Line). number_of (verdict l)) (append-nil ls) ∙ e)).0,
  λ s. ap (λ (l : List Line). number_of (verdict l)) (sym (append-nil ls)) ∙ ap number_of (passes ls [] s),
)
