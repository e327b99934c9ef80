-- A list stored place by place from a on, as a loop over i below `end` does: f k stands at a + k for each k below i,
-- and all else is as before, since a store changes its own place alone. Assumes nothing.
use mathlib.Core.Path.{◌≡◌, refl, sym, ap, ◌∙◌}
use mathlib.Core.Logic.{⊎_elim}
use mathlib.Core.List.{List, ◌++◌, append-nil}
use Prim.Native.Nat.{ℕ, ◌+◌, ◌-◌, ◌<◌, ◌≤◌}
use native.Mathlib.Nat.{not-suc-le-zero, zero-add}
use native.Mathlib.Decide.{dec_lt}
use native.Mathlib.Omega.{arith}
use lib.ListN.{length, get_or, take, drop, set, length-set, length-append, length-drop}
use lib.ListN.{get_or-append, drop_of_length-le}
use lib.Seq.{get_or-set_same, get_or-set_other, ext_get_or, get_or-take, get_or-drop, get_or-append-add, length-take-le}
use Rattle.bits.specs.Lists.{list_of}
use Rattle.bits.proofs.Below.{below_suc}
use Rattle.bits.proofs.Lists.{length-list, list_at}

pub record Filled (a end : ℕ) (f : ℕ → ℕ) (before after : List ℕ) (i : ℕ) : Type 0 where
  pub room : a + end ≤ length before
  pub upto : i ≤ end
  pub long : length after ≡ length before
  pub new : (k : ℕ) → k < i → get_or after (a + k) 0 ≡ f k
  pub low : (k : ℕ) → k < a → get_or after k 0 ≡ get_or before k 0
  pub high : (k : ℕ) → a + i ≤ k → get_or after k 0 ≡ get_or before k 0

pub filled_none : {a end : ℕ} {f : ℕ → ℕ} {before : List ℕ} → a + end ≤ length before → Filled a end f before before 0
filled_none h = record {
  room = h;
  upto = omega arith;
  long = refl;
  new = λ k l. absurd (not-suc-le-zero l);
  low = λ k l. refl;
  high = λ k l. refl;
}

-- one store more
pub filled_more : {a end : ℕ} {f : ℕ → ℕ} {before after : List ℕ} {i at v : ℕ}
    → Filled a end f before after i → i < end → at ≡ a + i → v ≡ f i → Filled a end f before (set after at v) (i + 1)
filled_more {a} {end} {f} {before} {after} {i} {at} {v} w l e q = record {
  room = w.room;
  upto = omega arith;
  long = length-set after at v ∙ w.long;
  new = λ k g. ⊎_elim (λ g. get_or-set_other after at (a + k) v 0 (λ r. omega (arith, r, e)) ∙ w.new k g) (here k)
      (below_suc {j = k} {n = i} (omega arith));
  low = λ k g. get_or-set_other after at k v 0 (λ r. omega (arith, r, e)) ∙ w.low k g;
  high = λ k g. get_or-set_other after at k v 0 (λ r. omega (arith, r, e)) ∙ w.high k (omega arith);
}
  where
    here : (k : ℕ) → k ≡ i → get_or (set after at v) (a + k) 0 ≡ f k
    here k r =
        ap (λ (m : ℕ). get_or (set after at v) m 0) (ap (λ (m : ℕ). a + m) r ∙ sym e)
        ∙ get_or-set_same after at v 0 (omega (arith, w.long, w.room)) ∙ q ∙ ap f (sym r)

-- what stands before a is as before
pub filled_front : {a end : ℕ} {f : ℕ → ℕ} {before after : List ℕ} {i : ℕ} → Filled a end f before after i
    → take a after ≡ take a before
filled_front {a} {end} {f} {before} {after} w =
    ext_get_or 0 (take a after) (take a before) (short ∙ sym (length-take-le a before (omega (arith, w.room))))
    (λ k l.
    let g : k < a = omega (arith, short) in
    get_or-take a after k 0 g ∙ w.low k g ∙ sym (get_or-take a before k 0 g))
  where
    short : length (take a after) ≡ a
    short = length-take-le a after (omega (arith, w.long, w.room))

-- to the end, from the front: the values, and behind them what was there
pub filled_list : {end : ℕ} {f : ℕ → ℕ} {before after : List ℕ} {i : ℕ} → Filled 0 end f before after i → end ≤ i
    → after ≡ list_of end f ++ drop end before
filled_list {end} {f} {before} {after} w h = ext_get_or 0 after (l ++ r) long (λ k g. at k)
  where
    l : List ℕ
    l = list_of end f

    r : List ℕ
    r = drop end before

    many : length l ≡ end
    many = length-list end f

    long : length after ≡ length (l ++ r)
    long = omega (arith, w.long, w.room, length-append l r, length-drop end before, many)

    at : (k : ℕ) → get_or after k 0 ≡ get_or (l ++ r) k 0
    at k = elim (dec_lt k end) [
      | yes g ↦
          ap (λ (m : ℕ). get_or after m 0) (sym (zero-add k)) ∙ w.new k (omega arith)
          ∙ sym (get_or-append l r 0 k (omega (arith, many)) ∙ list_at end f k 0 g)
      | no g ↦
          let e : k ≡ length l + (k - end) = omega (arith, many) in
          let q : end + (k - end) ≡ k = omega arith in
          w.high k (omega (arith, w.upto))
          ∙ sym (ap (λ (m : ℕ). get_or (l ++ r) m 0) e ∙ get_or-append-add l r (k - end) 0
          ∙ get_or-drop end before (k - end) 0 ∙ ap (λ (m : ℕ). get_or before m 0) q)
    ]

-- the whole list
pub filled_whole : {end : ℕ} {f : ℕ → ℕ} {before after : List ℕ} {i : ℕ} → Filled 0 end f before after i → end ≤ i
    → length before ≤ end → after ≡ list_of end f
filled_whole {end} {f} {before} w h l =
    filled_list w h ∙ ap (λ (r : List ℕ). list_of end f ++ r) (drop_of_length-le before {i = end} l)
    ∙ append-nil (list_of end f)
