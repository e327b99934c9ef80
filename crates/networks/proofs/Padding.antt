-- A network of fewer cells makes one of more that carries the same: a cell behind the last one that reads it and gives
-- it on. Assumes nothing.
use mathlib.Core.Path.{◌≡◌, refl, sym, ap, ◌∙◌, subst}
use mathlib.Core.Bool.{Bool, true, false}
use mathlib.Core.List.{List, [], ◌∷◌, ◌++◌}
use Prim.Native.Nat.{ℕ, zero, suc, ◌+◌, ◌-◌, ◌*◌, ◌^◌, ◌<◌, ◌≤◌}
use native.Mathlib.Nat.{add-zero, not-suc-le-zero}
use native.Mathlib.Omega.{arith}
use lib.ListN.{length, get_or, length-append}
use Rattle.bits.specs.Numbers.{bit, val, number}
use Rattle.sheets.specs.Network.{Cell, output, run, Wired, Gives, Carries}
use Rattle.networks.specs.Signals.{values}
use Rattle.networks.proofs.Values.{run_last, run-append}

-- a cell that gives signal s on
unfoldable pub passing : ℕ → Cell
passing s = record { signals = s ∷ []; table = 2 }

passing_gives : (s : ℕ) (v : ℕ → Bool) → output (passing s) v ≡ v s
unfolding passing output number
passing_gives s v = go (v s)
  where
    go : (t : Bool) → bit 2 (0 + val t * 2 ^ 0) ≡ t
    go true = refl
    go false = refl

-- the cells, and one that gives the last of them on
unfoldable pub padded : ℕ → List Cell → List Cell
padded n cs = cs ++ (passing (n + length cs - 1) ∷ [])

append_wired : (K i : ℕ) (cs ds : List Cell) → Wired K i cs → Wired K (i + length cs) ds → Wired K i (cs ++ ds)
append_wired K i [] ds w u = subst (λ (j : ℕ). Wired K j ds) (add-zero i) u
append_wired K i (c ∷ cs) ds w u =
    (w.0, w.1, append_wired K (suc i) cs ds w.2 (subst (λ (j : ℕ). Wired K j ds) (omega arith) u))

pub padded_length : (n : ℕ) (cs : List Cell) → length (padded n cs) ≡ suc (length cs)
unfolding padded
padded_length n cs = omega (arith, length-append cs (passing (n + length cs - 1) ∷ []))

pub padded_gives : (n K : ℕ) (F : ℕ → Bool) (cs : List Cell) → 1 ≤ K → Gives n K F cs → Gives n K F (padded n cs)
unfolding padded passing run
padded_gives n K F [] one N = absurd (not-suc-le-zero N.some)
padded_gives n K F (c ∷ cs) one N = record {
  some = omega arith;
  wired = append_wired K n (c ∷ cs) (passing last ∷ []) N.wired (one, below, tt);
  gives = λ x h.
      run-append false n (c ∷ cs) (passing last ∷ []) (bit x) ∙ passing_gives last (values n (c ∷ cs) (bit x))
      ∙ ap (values n (c ∷ cs) (bit x)) last_is ∙ sym (run_last false n c cs (bit x)) ∙ N.gives x h;
}
  where
    last : ℕ
    last = n + suc (length cs) - 1

    last_is : last ≡ n + length cs
    last_is = omega arith

    below : (j : ℕ) → j < 1 → get_or (last ∷ []) j 0 < n + suc (length cs)
    below zero h = omega arith
    below (suc j) h = absurd (omega arith)

-- so m cells carry what fewer carry
pub carries_more : (n K : ℕ) (F : ℕ → Bool) (d m : ℕ) → 1 ≤ K → Carries n K m F → Carries n K (d + m) F
carries_more n K F zero m one C = subst (λ (k : ℕ). Carries n K k F) (let e : m ≡ 0 + m = omega arith in e) C
carries_more n K F (suc d) m one C = from (carries_more n K F d m one C)
  where
    from : Carries n K (d + m) F → Carries n K (suc d + m) F
    from D = record {
      cells = padded n D.cells;
      count = omega (arith, padded_length n D.cells, D.count);
      network = padded_gives n K F D.cells one D.network;
    }
