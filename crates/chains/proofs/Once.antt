-- Inputs are set aside before the first step only, since each later table depends on all its signals (`upto_counts`,
-- choices): the chain is the chain over what is kept. Assumes nothing.
use mathlib.Core.Path.{◌≡◌, refl, sym, ap₂, ◌∙◌, subst}
use mathlib.Core.Bool.{Bool, true, cond}
use mathlib.Core.List.{List, [], ◌∷◌, ◌++◌}
use Prim.Native.Nat.{ℕ, zero, suc, ◌+◌, ◌^◌, ◌<◌, ◌≤◌}
use native.Mathlib.Omega.{arith}
use lib.ListN.{length, get_or, take}
use lib.Seq.{take-suc, take-length}
use Rattle.bits.specs.Numbers.{bit}
use Rattle.bits.specs.Sets.{size}
use Rattle.bits.proofs.Numbers.{number_bit}
use Rattle.tables.specs.Counting.{Counting, AllCount, kept}
use Rattle.tables.proofs.Depending.{support_counting}
use Rattle.tables.proofs.Over.{over_full, over_counts}
use Rattle.tables.proofs.Keeping.{kept_sees, two-kept, all_kept}
use Rattle.choices.specs.Search.{choice, best_up_to}
use Rattle.choices.proofs.Best.{upto_best}
use Rattle.choices.proofs.Counts.{upto_counts}
use Rattle.chains.specs.Chain.{pick, signals_after, table_after, step, chain}
use Rattle.chains.specs.Aside.{kept_signals, kept_table, chain_aside}
use Rattle.chains.proofs.Lists.{pick-length}
use Rattle.chains.proofs.View.{after-inputs, after_small, step_same}

pick_all : (n : ℕ) (s : ℕ → Bool) (l : List ℕ) → n ≤ length l → ((j : ℕ) → j < n → s j ≡ true) → pick n s l ≡ take n l
unfolding pick
pick_all zero s l h f = refl
pick_all (suc n) s l h f =
    ap₂ (λ (t : Bool) (m : List ℕ). cond t (m ++ (get_or l n 0 ∷ [])) m) (f n (omega arith))
    (pick_all n s l (omega arith) (λ j b. f j (omega arith)))
    ∙ sym (take-suc l n 0 h)

-- ---- what is kept of the table T over the signals l
module _ (l : List ℕ) (T : ℕ) where
  abbrev n : ℕ
  n = length l

  abbrev m : ℕ
  m = kept (length l) (bit T)

  pub kept-length : length (kept_signals l T) ≡ size n (bit m)
  unfolding kept_signals
  kept-length = pick-length n (bit m) l

  -- where two are kept, all of them count
  pub kept_counting : 2 ≤ length (kept_signals l T) → Counting n (bit T) (bit m)
  kept_counting h = subst (λ (s : ℕ). Counting n (bit T) (bit s))
      (sym (two-kept n (bit T) (omega (arith, kept-length)))) (support_counting n (bit T))

  -- so the table over them depends on each of its inputs
  pub kept-counts : 2 ≤ length (kept_signals l T) → AllCount (length (kept_signals l T)) (bit (kept_table l T))
  unfolding kept_table
  kept-counts h = subst (λ (c : ℕ). AllCount c (bit (kept_table l T))) (sym kept-length)
      (over_counts n (bit T) (bit m) (kept_sees n (bit T)) (kept_counting h))

  -- where all count, all are kept
  module _ (all : AllCount (length l) (bit T)) where
    signals_all : kept_signals l T ≡ l
    unfolding kept_signals
    signals_all = pick_all n (bit m) l (omega arith) (all_kept n (bit T) all) ∙ take-length l

    table_all : T < 2 ^ (2 ^ length l) → kept_table l T ≡ T
    unfolding kept_table
    table_all h = over_full n (bit m) (bit T) (all_kept n (bit T) all) ∙ number_bit (2 ^ n) T h

next_all : (m K i : ℕ) (l : List ℕ) (T r A B : ℕ) → AllCount (length l) (bit T) → best_up_to (length l) (bit T) K m
    ≡ choice r A B
    → AllCount (length (signals_after l r A B i)) (bit (table_after l T r A B))
next_all m K i l T r A B all e =
    subst (λ (c : ℕ). AllCount c (bit (table_after l T r A B))) (sym (after-inputs l r A B i))
    (upto_counts (length l) K m (bit T) r A B ((upto_best (length l) K (bit T) m r A B).0 e) all)

-- where the table depends on each of its signals nothing is set aside
pub aside_plain : (m k K i : ℕ) (l : List ℕ) (T : ℕ) → T < 2 ^ (2 ^ length l) → AllCount (length l) (bit T)
    → chain_aside m k K i l T ≡ chain m k K i l T
unfolding chain_aside chain
aside_plain m zero K i l T small all = refl
aside_plain m (suc k) K i l T small all =
    ap₂ (step m K i (chain_aside m k K)) (signals_all l T all) (table_all l T all small)
    ∙ step_same m K i (chain_aside m k K) (chain m k K) l T (λ _ r A B e.
    aside_plain m k K (i + r) (signals_after l r A B i) (table_after l T r A B) (after_small l T r A B i)
    (next_all m K i l T r A B all e))

-- set aside once, then the chain that sets nothing aside
pub aside_once : (m k K i : ℕ) (l : List ℕ) (T : ℕ) → 1 ≤ K → chain_aside m (suc k) K i l T
    ≡ chain m (suc k) K i (kept_signals l T) (kept_table l T)
unfolding chain_aside chain
aside_once m k K i l T p =
    let s = kept_signals l T in
    let U = kept_table l T in
    step_same m K i (chain_aside m k K) (chain m k K) s U (λ h r A B e.
    aside_plain m k K (i + r) (signals_after s r A B i) (table_after s U r A B) (after_small s U r A B i)
    (next_all m K i s U r A B (kept-counts l T (omega arith)) e))
