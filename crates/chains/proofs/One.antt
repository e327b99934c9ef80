-- With one first cell at most, the chain is document 01's: the same cells, and stuck at the same tables. Assumes
-- nothing.
use mathlib.Core.Path.{◌≡◌, sym, ap, ◌∙◌, subst}
use mathlib.Core.Logic.{◌↔◌}
use mathlib.Core.Bool.{Bool}
use mathlib.Core.List.{List, ◌++◌}
use Prim.Native.Nat.{ℕ, suc, ◌+◌, ◌<◌, ◌≤◌}
use native.Mathlib.Nat.{add-zero}
use native.Mathlib.Numerals.{add-one}
use native.Mathlib.Omega.{arith}
use lib.ListN.{length}
use Rattle.bits.specs.Numbers.{bit}
use Rattle.bits.specs.Sets.{size}
use Rattle.bits.specs.Lists.{list_of}
use Rattle.splits.specs.Split.{reads_h, Possible}
use Rattle.best.specs.Best.{Candidate, Best}
use Rattle.best.proofs.Best.{best_answer}
use Rattle.choices.specs.Best.{Splits, BestUpTo}
use Rattle.choices.specs.Search.{nothing, better, first_over}
use Rattle.choices.proofs.Best.{upto_best, upto_own}
use Rattle.sheets.specs.Network.{Cell}
use Rattle.chains.specs.Chain.{pick, next_signals, next_table, new_cells, signals_after, table_after, stuck, made}
use Rattle.chains.specs.Chain.{chain, inputs, sheet_of}
use Rattle.chains.specs.Words.{Makes, InChain, Blocked}
use Rattle.chains.specs.Words as words
use Rattle.chains.specs.Over.{MakesOver, ends, goes, InChainOver, itself, later, BlockedOver}
use Rattle.chains.proofs.Lists.{AllBelow, snoc_below, pick_below, inputs-length}
use Rattle.chains.proofs.View.{after-inputs, after-length, over_made, over_stuck}

-- ---- the best with one first cell

pub one_best : {n K : ℕ} {F : ℕ → Bool} {A B : ℕ} → Best n K 1 F A B → BestUpTo n K 1 F 1 A B
unfolding first_over
one_best {n} {K} {F} {A} {B} b = (upto_best n K F 1 1 A B).0 (ap (better n 1 nothing) (best_answer n 1 F K A B b))

one_only : {n K : ℕ} {F : ℕ → Bool} {r A B : ℕ} → BestUpTo n K 1 F r A B → r ≡ 1
one_only b = omega (arith, b.works.some, b.works.most)

-- ---- a step with one first cell

one_signals : (l : List ℕ) (A B i : ℕ) → signals_after l 1 A B i ≡ next_signals l A B i
unfolding list_of
one_signals l A B i = rw add-zero

-- the list after a split has a place for each input of H
pub next-inputs : (l : List ℕ) (A B i : ℕ) → length (next_signals l A B i) ≡ size (length l) (reads_h (bit A) (bit B)) + 1
next-inputs l A B i = ap length (sym (one_signals l A B i)) ∙ after-inputs l 1 A B i

-- each of its signals is below the next one
pub next_below : (A B i : ℕ) (l : List ℕ) → AllBelow i l → AllBelow (suc i) (next_signals l A B i)
next_below A B i l low =
    let s = reads_h (bit A) (bit B) in
    snoc_below (pick (length l) s l) i (suc i) (λ j h. omega (arith, pick_below (length l) s l i low j h)) (omega arith)

-- A's signals go, one comes; so it is shorter
module _ {K A B : ℕ} {F : ℕ → Bool} (l : List ℕ) (i : ℕ) (b : Best (length l) K 1 F A B) where
  pub next-length : length (next_signals l A B i) + size (length l) (bit A) ≡ suc (length l)
  next-length = omega (arith, ap length (one_signals l A B i), after-length l i (one_best b))

  pub next-shorter : length (next_signals l A B i) < length l
  next-shorter = omega (arith, next-length, b.candidate.more)

-- ---- what is made
module _ (i : ℕ) (l : List ℕ) (T A B : ℕ) where
  -- what follows the step is the same
  follows : (P : ℕ → List ℕ → ℕ → Type 0) → P (i + 1) (signals_after l 1 A B i) (table_after l T 1 A B)
      → P (suc i) (next_signals l A B i) (next_table l T A B)
  follows P p =
      subst (λ (j : ℕ). P j (next_signals l A B i) (next_table l T A B)) (add-one i)
      (subst (λ (s : List ℕ). P (i + 1) s (next_table l T A B)) (one_signals l A B i) p)

  before : (P : ℕ → List ℕ → ℕ → Type 0) → P (suc i) (next_signals l A B i) (next_table l T A B)
      → P (i + 1) (signals_after l 1 A B i) (table_after l T 1 A B)
  before P p =
      subst (λ (s : List ℕ). P (i + 1) s (next_table l T A B)) (sym (one_signals l A B i))
      (subst (λ (j : ℕ). P j (next_signals l A B i) (next_table l T A B)) (sym (add-one i)) p)

pub makes_over : {K i : ℕ} {l : List ℕ} {T : ℕ} {cs : List Cell} → Makes K i l T cs → MakesOver 1 K i l T cs
unfolding list_of
makes_over (words.ends h) = ends h
makes_over {K} (words.goes {i = i} {l = l} {T = T} {A = A} {B = B} {cs = cs} h b c) =
    goes 1 A B h (one_best b) (before i l T A B (λ j s U. MakesOver 1 K j s U cs) (makes_over c))

pub over_one : {K i : ℕ} {l : List ℕ} {T : ℕ} {cs : List Cell} → MakesOver 1 K i l T cs → Makes K i l T cs
unfolding list_of
over_one (ends h) = words.ends h
over_one {K} (goes {i = i} {l = l} {T = T} r A B {cs = cs} h b c) = subst Step (sym (one_only b)) step b (over_one c)
  where
    Step : ℕ → Type 0
    Step r = BestUpTo (length l) K 1 (bit T) r A B → Makes K (i + r) (signals_after l r A B i) (table_after l T r A B) cs
        → Makes K i l T (new_cells l T r A B ++ cs)

    step : Step 1
    step b w = words.goes h (upto_own (length l) K (bit T) 1 1 A B b) (follows i l T A B (λ j s U. Makes K j s U cs) w)

-- with turns enough, the chain with one first cell makes the cells of document 01's chain in words
pub chain_made : (k K i : ℕ) (l : List ℕ) (T : ℕ) (cs : List Cell) → 1 ≤ k → length l < k + K
    → (chain 1 k K i l T ≡ made cs) ↔ Makes K i l T cs
chain_made k K i l T cs p h =
    let w = over_made 1 k K i l T cs p h in
    (λ e. over_one (w.0 e), λ c. w.1 (makes_over c))

-- so does the sheet of a gate
pub made_exactly : (n K T : ℕ) (cs : List Cell) → 1 ≤ n → 1 ≤ K → (sheet_of n K T ≡ made cs) ↔ Makes K n (inputs n) T cs
unfolding sheet_of
made_exactly n K T cs p q = chain_made n K n (inputs n) T cs p (omega (arith, inputs-length n))

-- ---- where it is stuck

in_over : {K : ℕ} {l' : List ℕ} {T' i : ℕ} {l : List ℕ} {T : ℕ} → InChain K l' T' i l T → InChainOver 1 K l' T' i l T
in_over words.itself = itself
in_over {K} {l' = l'} {T' = T'} (words.later {i = i} {l = l} {T = T} {A = A} {B = B} h b c) =
    later 1 A B h (one_best b) (before i l T A B (λ j s U. InChainOver 1 K l' T' j s U) (in_over c))

over_in : {K : ℕ} {l' : List ℕ} {T' i : ℕ} {l : List ℕ} {T : ℕ} → InChainOver 1 K l' T' i l T → InChain K l' T' i l T
over_in itself = words.itself
over_in {K} {l' = l'} {T' = T'} (later {i = i} {l = l} {T = T} r A B h b c) = subst Step (sym (one_only b)) step b
    (over_in c)
  where
    Step : ℕ → Type 0
    Step r = BestUpTo (length l) K 1 (bit T) r A B
        → InChain K l' T' (i + r) (signals_after l r A B i) (table_after l T r A B) → InChain K l' T' i l T

    step : Step 1
    step b w = words.later h (upto_own (length l) K (bit T) 1 1 A B b)
        (follows i l T A B (λ j s U. InChain K l' T' j s U) w)

-- with turns enough, it is stuck exactly where a table in it with more than K inputs has no possible split
pub chain_stuck_lem : (k K i : ℕ) (l : List ℕ) (T : ℕ) → 1 ≤ k → length l < k + K → (chain 1 k K i l T ≡ stuck)
    ↔ Blocked K i l T
chain_stuck_lem k K i l T p h = let s = over_stuck 1 k K i l T p h in (λ e. to (s.0 e), λ w. s.1 (from w))
  where
    to : BlockedOver 1 K i l T → Blocked K i l T
    to w = record {
      signals = w.signals;
      table = w.table;
      in_chain = over_in w.in_chain;
      more = w.more;
      never = λ A B k P. w.never 1 A B (record {
        some = omega arith;
        most = omega arith;
        candidate = k;
        possible = P;
      });
    }

    from : Blocked K i l T → BlockedOver 1 K i l T
    from w = record {
      signals = w.signals;
      table = w.table;
      in_chain = in_over w.in_chain;
      more = w.more;
      never = λ r A B k. never r A B k (omega (arith, k.some, k.most));
    }
      where
        never : (r A B : ℕ) → Splits (length w.signals) K 1 (bit w.table) r A B → r ≡ 1 → ⊥
        never r A B k e =
            w.never A B (subst (λ (r : ℕ). Candidate (length w.signals) K r A B) e k.candidate)
            (subst (λ (r : ℕ). Possible (length w.signals) (bit w.table) (bit A) (bit B) r) e k.possible)
