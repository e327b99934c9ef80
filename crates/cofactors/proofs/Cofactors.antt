-- The sheet of cofactors: its network gives the table, its cells keep the record rules, each but the last is read, and
-- there are as many as is said. Assumes nothing.
use mathlib.Core.Path.{◌≡◌, refl, sym, ap, ap₂, ◌∙◌, subst}
use mathlib.Core.Bool.{Bool, true, false, cond}
use mathlib.Core.List.{List, [], ◌∷◌, ◌++◌}
use Prim.Native.Nat.{ℕ, zero, suc, ◌+◌, ◌-◌, ◌*◌, ◌^◌, ◌<◌, ◌≤◌}
use native.Mathlib.Decide.{dec_lt}
use native.Mathlib.Nat.{add_comm}
use native.Mathlib.Omega.{arith}
use lib.Dec.{leb}
use lib.ListN.{length, get_or, length-append}
use lib.Pow.{pow_pos}
use borrow.Author.Tests.{leb-true, leb-false, le-leb}
use Rattle.bits.specs.Numbers.{bit, number}
use Rattle.bits.specs.Lists.{list_of}
use Rattle.bits.proofs.Bools.{clash}
use Rattle.bits.proofs.Numbers.{number_lt, number_ext, bit-number}
use Rattle.bits.proofs.Lists.{length-list, list_at}
use Rattle.bits.proofs.Sums.{number_append}
use Rattle.sheets.specs.declared.kinds.Edition.{Edition}
use Rattle.sheets.specs.Network.{Cell, packed, output, run, Wired}
use Rattle.sheets.specs.Writing.{Fits, FitsFrom}
use Rattle.sheets.specs.Reading.{reads, AllRead}
use Rattle.networks.specs.Signals.{values}
use Rattle.chains.proofs.Lists.{AllBelow, Rising, packed-list}
use Rattle.chains.proofs.Each.{Each, each_append, each_list}
use Rattle.chains.proofs.Running.{values-append, after_old, after_new}
use Rattle.chains.proofs.Rules.{each_fits}
use Rattle.chains.proofs.Read.{reads-append, later_reads}
use Rattle.cofactors.specs.Cofactors.{cofactor, total, levels, by_ones, by_twos, widths, cofactor_cells}
use Rattle.cofactors.proofs.Groups.{run_last}
use Rattle.cofactors.proofs.Selecting.{Ordered}
use Rattle.cofactors.proofs.Levels.{AllSuit, final, some_final, levels_give, levels_fit, some_read, levels_own}

-- ---- the widths of the levels

ones-total : (s : ℕ) → total (by_ones s) ≡ s
ones-total zero = refl
ones-total (suc s) = omega (arith, ones-total s)

twos_total : (s : ℕ) → total (by_twos s) ≡ s
twos_total zero = refl
twos_total (suc zero) = refl
twos_total (suc (suc s)) = omega (arith, twos_total s)

pub widths-total : (K s : ℕ) → total (widths K s) ≡ s
widths-total K s = go (leb 6 K)
  where
    go : (t : Bool) → total (cond t (by_twos s) (by_ones s)) ≡ s
    go true = twos_total s
    go false = ones-total s

-- each suits cells of K inputs
widths_suit : (K s : ℕ) → 2 ≤ K → AllSuit (leb 3 K) K (widths K s)
widths_suit K s h = go (leb 6 K) (leb 3 K) refl refl
  where
    twos : (s : ℕ) → 6 ≤ K → AllSuit true K (by_twos s)
    twos zero l = tt
    twos (suc zero) l = (omega arith, tt)
    twos (suc (suc s)) l = (l, twos s l)

    ones : (b : Bool) (s : ℕ) → leb 3 K ≡ b → AllSuit b K (by_ones s)
    ones b zero q = tt
    ones true (suc s) q = (leb-true 3 K q, ones true s q)
    ones false (suc s) q = ((refl, h), ones false s q)

    go : (a b : Bool) → leb 6 K ≡ a → leb 3 K ≡ b → AllSuit b K (cond a (by_twos s) (by_ones s))
    go false b p q = ones b s q
    go true true p q = twos s (leb-true 6 K p)
    go true false p q = absurd (omega (arith, leb-true 6 K p, leb-false 3 K q))

-- ---- the table T over the signals l, the first cell giving signal i
module _ (K i : ℕ) (l : List ℕ) (T : ℕ) (two : 2 ≤ K) (more : K < length l) (low : AllBelow i l) (rises : Rising l)
  where
    abbrev s : ℕ
    s = length l - K

    abbrev ws : List ℕ
    ws = widths K s

    abbrev q : ℕ → ℕ
    q t = get_or l (K + t) 0

    abbrev f : ℕ → ℕ
    f v = i + v

    abbrev first : List Cell
    first = list_of (2 ^ s) (cofactor K l T)

    abbrev others : List Cell
    others = levels (leb 3 K) (i + 2 ^ s) ws q f

    ordered : Ordered (i + 2 ^ s) i (total ws) (2 ^ total ws) q f
    ordered = go (total ws) (widths-total K s)
      where
        go : (m : ℕ) → m ≡ s → Ordered (i + 2 ^ s) i m (2 ^ m) q f
        go m e = record {
          first = λ t h. low (K + t) (omega arith);
          rises = λ t h. rises (K + t) (K + (t + 1)) (omega arith) (omega arith);
          from = λ t h. omega arith;
          climbs = λ t h. omega arith;
          below = λ t h. omega (arith, ap (λ (x : ℕ). 2 ^ x) e);
        }

    selecting_some : 1 ≤ total ws
    selecting_some = omega (arith, widths-total K s)

    cells_below : (v : ℕ) → AllBelow i (cofactor K l T v).signals
    cells_below v j h =
        let g : j < K = omega (arith, length-list K (λ j. get_or l j 0)) in
        omega (arith, list_at K (λ j. get_or l j 0) j 0 g, low j (omega arith))

    -- ---- right at every assignment of the signals
    module _ (v : ℕ → Bool) where
      abbrev y : ℕ
      y = number K (λ j. v (get_or l j 0))

      abbrev w : ℕ → Bool
      w = values i first v

      -- cofactor u gives the table's bit where the selecting signals are the bits of u
      cofactor_gives : (u : ℕ) → output (cofactor K l T u) v ≡ bit T (u * 2 ^ K + y)
      unfolding output
      cofactor_gives u =
          ap (bit (number (2 ^ K) (λ y. bit T (u * 2 ^ K + y)))) (packed-list v K (λ j. get_or l j 0))
          ∙ bit-number (2 ^ K) (λ y. bit T (u * 2 ^ K + y)) y (number_lt K (λ j. v (get_or l j 0)))

      -- the number that the signals make
      together : number s (λ t. v (q t)) * 2 ^ K + y ≡ packed l v
      together =
          let e : K + s ≡ length l = omega arith in
          add_comm (number s (λ t. v (q t)) * 2 ^ K) y ∙ sym (number_append K s (λ j. v (get_or l j 0)))
          ∙ ap (λ (m : ℕ). number m (λ j. v (get_or l j 0))) e

      pub cofactors_give : (o : Bool) → run o i (cofactor_cells K i l T) v ≡ bit T (packed l v)
      unfolding cofactor_cells
      cofactors_give o =
          let e = final (leb 3 K) K (i + 2 ^ s) ws f in
          let n = length-list (2 ^ s) (cofactor K l T) in
          let u = number s (λ t. v (q t)) in
          let last = some_final (leb 3 K) K (i + 2 ^ s) ws q f selecting_some in
          run_last o i (first ++ others) v e (omega (arith, length-append first others))
          (omega (arith, pow_pos s, last))
          ∙ ap (λ (x : ℕ → Bool). x e) (values-append i first others v)
          ∙ ap (λ (m : ℕ). values (i + m) others w e) n
          ∙ levels_give (leb 3 K) K (i + 2 ^ s) i ws q f (widths_suit K s two) ordered w
          ∙ ap (λ (m : ℕ). w (i + number m (λ t. w (q t)))) (widths-total K s)
          ∙ ap (λ (m : ℕ). w (i + m)) (number_ext s (λ t. w (q t)) (λ t. v (q t))
          (λ t h. after_old i (cofactor K l T) v cells_below (2 ^ s) (q t) (low (K + t) (omega arith))))
          ∙ after_new i (cofactor K l T) v cells_below (2 ^ s) u (number_lt s (λ t. v (q t))) ∙ cofactor_gives u
          ∙ ap (bit T) together

    -- ---- the record rules

    module _ (e : Edition) (h : K ≤ e.most) where
      one_fits : (v t : ℕ) → Fits e (i + t) (cofactor K l T v)
      one_fits v t =
          let n = length-list K (λ j. get_or l j 0) in
          record {
            some = omega arith;
            most = omega arith;
            known = λ j g. omega (arith, cells_below v j g);
            rising = λ j g.
                omega (
                  arith,
                  list_at K (λ j. get_or l j 0) j 0 (omega arith),
                  list_at K (λ j. get_or l j 0) (j + 1) 0 (omega arith),
                  rises j (j + 1) (omega arith) (omega arith),
                );
            table = subst (λ (m : ℕ). number (2 ^ K) (λ y. bit T (v * 2 ^ K + y)) < 2 ^ (2 ^ m)) (sym n)
                (number_lt (2 ^ K) (λ y. bit T (v * 2 ^ K + y)));
          }

      pub cofactors_fit : FitsFrom e i (cofactor_cells K i l T)
      unfolding cofactor_cells
      cofactors_fit =
          each_fits e i (first ++ others) (each_append (Fits e) i first others
          (each_list (Fits e) i (2 ^ s) (cofactor K l T) (λ t. one_fits t t))
          (subst (λ (m : ℕ). Each (Fits e) (i + m) others) (sym (length-list (2 ^ s) (cofactor K l T)))
          (levels_fit (leb 3 K) K e (i + 2 ^ s) i ws q f h (widths_suit K s two) ordered)))

    -- a cell reads at most K signals, each given before it
    pub cofactors_wired : Wired K i (cofactor_cells K i l T)
    cofactors_wired = go i (cofactor_cells K i l T) (cofactors_fit e (omega arith))
      where
        e : Edition
        e = record { most = K; start = 0; size = 0 }

        go : (i : ℕ) (cs : List Cell) → FitsFrom (record { most = K; start = 0; size = 0 }) i cs → Wired K i cs
        go i [] p = tt
        go i (c ∷ cs) p = (p.0.most, p.0.known, go (suc i) cs p.1)

    -- ---- each but the last is read
    each_read : (x : ℕ) → i ≤ x → x + 1 < i + length (cofactor_cells K i l T) → 1 ≤ reads x (cofactor_cells K i l T)
    unfolding cofactor_cells
    each_read x h g =
        let sum = reads-append x first others in
        let n = length-list (2 ^ s) (cofactor K l T) in
        let all = length-append first others in
        let u = widths_suit K s two in
        elim (dec_lt x (i + 2 ^ s)) [
          | yes b ↦
              let e : i + (x - i) ≡ x = omega arith in
              let t : x - i < 2 ^ total ws = omega (arith, ap (λ (m : ℕ). 2 ^ m) (widths-total K s)) in
              let r : 1 ≤ reads x others = subst (λ (m : ℕ). 1 ≤ reads m others) e
              (some_read (leb 3 K) K (i + 2 ^ s) i ws q f selecting_some u ordered (x - i) t) in
              omega arith
          | no b ↦ let r : 1 ≤ reads x others = levels_own (leb 3 K) K (i + 2 ^ s) i ws q f u ordered x (omega arith)
              (omega arith) in
              omega arith
        ]

    pub cofactors_read : AllRead i (cofactor_cells K i l T)
    cofactors_read j h = omega (
      arith,
      each_read (i + j) (omega arith) (omega arith),
      later_reads K i (cofactor_cells K i l T) cofactors_wired (suc j) (i + j) (omega arith),
    )
