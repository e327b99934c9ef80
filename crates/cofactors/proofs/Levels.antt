-- Level by level: the last cell gives the signal that the selecting ones name, the cells keep the record rules, and
-- each but the last is read. Assumes nothing.
use mathlib.Core.Path.{◌≡◌, refl, sym, ap, ap₂, ◌∙◌, subst}
use mathlib.Core.Bool.{Bool, true, false}
use mathlib.Core.List.{List, [], ◌∷◌, ◌++◌}
use Prim.Native.Nat.{ℕ, zero, suc, ◌+◌, ◌-◌, ◌*◌, ◌/◌, ◌%◌, ◌^◌, ◌<◌, ◌≤◌}
use native.Mathlib.Decide.{dec_lt}
use native.Mathlib.Nat.{add_comm, mul_comm, mul-suc, mul-le-mul_left, mod-lt}
use native.Mathlib.Omega.{arith}
use lib.ListN.{length, length-append}
use lib.Pow.{pow-add, pow_pos, shr_lt, split}
use Rattle.bits.specs.Numbers.{number}
use Rattle.bits.proofs.Numbers.{number_lt, number_ext}
use Rattle.bits.proofs.Sums.{number_append}
use Rattle.sheets.specs.declared.kinds.Edition.{Edition}
use Rattle.sheets.specs.Network.{Cell}
use Rattle.sheets.specs.Writing.{Fits}
use Rattle.sheets.specs.Reading.{reads}
use Rattle.networks.specs.Signals.{values}
use Rattle.networks.proofs.Values.{values_below}
use Rattle.chains.proofs.Each.{Each, each_append}
use Rattle.chains.proofs.Read.{reads-append}
use Rattle.chains.proofs.Running.{values-append}
use Rattle.cofactors.specs.Cofactors.{selecting, cells_each, join_of, total, levels}
use Rattle.cofactors.proofs.Groups.{length-join, each_join, values_join, reads-join}
use Rattle.cofactors.proofs.Selecting.{Suits, Ordered, selecting-length, selects, selecting_fits}
use Rattle.cofactors.proofs.Selecting.{selecting-reads, selecting_own}

-- each level's width suits cells of K inputs
abbrev pub AllSuit : Bool → ℕ → List ℕ → Type 0
AllSuit one K [] = Unit {0}
AllSuit one K (w ∷ ws) = Suits one K w × AllSuit one K ws

some_cells : (one : Bool) → 1 ≤ cells_each one
some_cells true = omega arith
some_cells false = omega arith

-- signal t of group g, of 2 ^ w each
index-lt : (w k g t : ℕ) → g < 2 ^ k → t < 2 ^ w → 2 ^ w * g + t < 2 ^ (w + k)
index-lt w k g t h l = omega (arith, pow-add 2 w k, mul-suc (2 ^ w) g, mul-le-mul_left (2 ^ w) h)

-- ---- one level: its groups, and what stands on the next
module _ (one : Bool) (i w k : ℕ) (q f : ℕ → ℕ) where
  abbrev p : ℕ
  p = cells_each one

  abbrev pub group : ℕ → List Cell
  group g = selecting one w (i + p * g) q (λ t. f (2 ^ w * g + t))

  abbrev pub next : ℕ → ℕ
  next g = i + p * g + (p - 1)

  each_group : (g : ℕ) → length (group g) ≡ cells_each one
  each_group g = selecting-length one w (i + p * g) q (λ t. f (2 ^ w * g + t))

  abbrev level : List Cell
  level = join_of (2 ^ k) group

  pub level-length : length (join_of (2 ^ k) group) ≡ cells_each one * 2 ^ k
  level-length = length-join p group each_group (2 ^ k)

  place : (g : ℕ) → g < 2 ^ k → p * g + p ≤ p * 2 ^ k
  place g h = omega (arith, mul-suc p g, mul-le-mul_left p h)

  module _ (n : ℕ) (o : Ordered i n (w + k) (2 ^ (w + k)) q f) where
    group_ordered : (g : ℕ) → g < 2 ^ k → Ordered (i + p * g) n w (2 ^ w) q (λ t. f (2 ^ w * g + t))
    group_ordered g h = record {
      first = λ t l. o.first t (omega arith);
      rises = λ t l. o.rises t (omega arith);
      from = λ t l. o.from (2 ^ w * g + t) (index-lt w k g t h l);
      climbs = λ t l.
          let e : 2 ^ w * g + (t + 1) ≡ (2 ^ w * g + t) + 1 = omega arith in
          omega (
            arith,
            ap f e,
            o.climbs (2 ^ w * g + t) (subst (λ (j : ℕ). j < 2 ^ (w + k)) e (index-lt w k g (t + 1) h l)),
          );
      below = λ t l. omega (arith, o.below (2 ^ w * g + t) (index-lt w k g t h l));
    }

    pub next-ordered : Ordered (i + cells_each one * 2 ^ k) n k (2 ^ k) (λ t. q (w + t))
        (λ g. i + cells_each one * g + (cells_each one - 1))
    next-ordered = record {
      first = λ t l. o.first (w + t) (omega arith);
      rises = λ t l. let e : w + (t + 1) ≡ (w + t) + 1 = omega arith in
          omega (arith, ap q e, o.rises (w + t) (omega arith));
      from = λ g l. omega (arith, o.from 0 (pow_pos (w + k)), o.below 0 (pow_pos (w + k)));
      climbs = λ g l. let e : g + 1 ≡ suc g = omega arith in
          omega (arith, mul-suc p g, some_cells one, ap (λ (j : ℕ). p * j) e);
      below = λ g l. omega (arith, place g l, some_cells one);
    }

    module _ (K : ℕ) (u : Suits one K w) where
      -- group g gives the signal of its own that the first w selecting ones name
      pub level_gives : (v : ℕ → Bool) (g : ℕ) → g < 2 ^ k
          → values i (join_of (2 ^ k) group) v (next g) ≡ v (f (2 ^ w * g + number w (λ t. v (q t))))
      level_gives v = values_join p group each_group i v (λ g. v (f (2 ^ w * g + number w (λ t. v (q t))))) (2 ^ k)
          (some_cells one) gives
        where
          gives : (g : ℕ) → g < 2 ^ k → (x : ℕ → Bool) → ((s : ℕ) → s < i → x s ≡ v s)
              → values (i + p * g) (group g) x (next g) ≡ v (f (2 ^ w * g + number w (λ t. v (q t))))
          gives g h x same =
              let d = group_ordered g h in
              let at = number w (λ t. v (q t)) in
              let low : (t : ℕ) → t < w → q t < i = λ t l.
              omega (arith, o.first t (omega arith), o.from 0 (pow_pos (w + k)), o.below 0 (pow_pos (w + k))) in
              selects one K w (i + p * g) q (λ t. f (2 ^ w * g + t)) x u (λ t l. omega (arith, low t l)) d.below
              ∙ ap (λ (j : ℕ). x (f (2 ^ w * g + j))) (number_ext w (λ t. x (q t)) (λ t. v (q t))
              (λ t l. same (q t) (low t l)))
              ∙ same (f (2 ^ w * g + at)) (o.below (2 ^ w * g + at) (index-lt w k g at h (number_lt w (λ t. v (q t)))))

      pub level_fits : (e : Edition) → K ≤ e.most → Each (Fits e) i (join_of (2 ^ k) group)
      level_fits e h = each_join p group each_group (Fits e) i (2 ^ k)
          (λ g l. selecting_fits one e K w (i + p * g) n q (λ t. f (2 ^ w * g + t)) h u (group_ordered g l))

      -- each signal that is selected from is read
      pub level-reads : (t : ℕ) → t < 2 ^ (w + k) → 1 ≤ reads (f t) (join_of (2 ^ k) group)
      level-reads t h =
          let g = t / 2 ^ w in
          let r = t % 2 ^ w in
          let e : 2 ^ w * g + r ≡ t = omega (arith, split t w, mul_comm (2 ^ w) g) in
          let j : t < 2 ^ (k + w) = subst (λ (m : ℕ). t < 2 ^ m) (add_comm w k) h in
          let l : g < 2 ^ k = shr_lt k w j in
          let z = selecting-reads one K w (i + p * g) q (λ t. f (2 ^ w * g + t)) r u (mod-lt t (pow_pos w)) in
          let y : 1 ≤ reads (f t) (group g) = subst (λ (m : ℕ). 1 ≤ reads (f m) (group g)) e z in
          omega (arith, reads-join p group each_group (f t) g (2 ^ k) l)

-- each signal of the level is read within its group, or stands on the next level
own_signal : (one : Bool) (i w k : ℕ) (q f : ℕ → ℕ) (s : ℕ) → i ≤ s → s < i + cells_each one * 2 ^ k → (P : Type 0)
    → (1 ≤ reads s (join_of (2 ^ k) (group one i w k q f)) → P)
    → ((g : ℕ) → g < 2 ^ k → next one i w k q f g ≡ s → P) → P
own_signal true i w k q f s h l P own above = above (s - i) (omega arith) (omega arith)
own_signal false i w k q f s h l P own above =
    let g = (s - i) / 3 in
    let d : g < 2 ^ k = omega arith in
    elim (dec_lt (s + 1) (i + 3 * g + 3)) [
      | yes z ↦ own (omega (
        arith,
        selecting_own false w (i + 3 * g) q (λ t. f (2 ^ w * g + t)) s (omega arith) z,
        reads-join 3 (group false i w k q f) (each_group false i w k q f) s g (2 ^ k) d,
      ))
      | no z ↦ above g d (omega arith)
    ]

-- ---- all levels
module _ (one : Bool) (K : ℕ) where
  -- the signal of the last cell, or the one that there is
  unfoldable pub final : ℕ → List ℕ → (ℕ → ℕ) → ℕ
  final i [] f = f 0
  final i (w ∷ ws) f = final (i + cells_each one * 2 ^ total ws) ws (λ g. i + cells_each one * g + (cells_each one - 1))

  final_last : (i w : ℕ) (ws : List ℕ) (q f : ℕ → ℕ) → suc (final i (w ∷ ws) f)
      ≡ i + length (levels one i (w ∷ ws) q f)
  unfolding final levels
  final_last i w [] q f = omega (
    arith,
    some_cells one,
    length-append (join_of 1 (group one i w 0 q f)) [],
    level-length one i w 0 q f,
  )
  final_last i w (w' ∷ ws) q f =
      let k = total (w' ∷ ws) in
      omega (
        arith,
        final_last (i + cells_each one * 2 ^ k) w' ws (λ t. q (w + t)) (next one i w k q f),
        length-append (join_of (2 ^ k) (group one i w k q f)) (levels one (i + cells_each one * 2 ^ k) (w' ∷ ws)
            (λ t. q (w + t)) (next one i w k q f)),
        level-length one i w k q f,
      )

  -- it is the signal whose number the selecting ones make
  pub levels_give : (i n : ℕ) (ws : List ℕ) (q f : ℕ → ℕ) → AllSuit one K ws
      → Ordered i n (total ws) (2 ^ total ws) q f → (v : ℕ → Bool)
      → values i (levels one i ws q f) v (final i ws f) ≡ v (f (number (total ws) (λ t. v (q t))))
  unfolding final levels values number
  levels_give i n [] q f u o v = refl
  levels_give i n (w ∷ ws) q f u o v =
      let k = total ws in
      let j = i + cells_each one * 2 ^ k in
      let rest = levels one j ws (λ t. q (w + t)) (next one i w k q f) in
      let here = join_of (2 ^ k) (group one i w k q f) in
      let x = values i here v in
      let b = number k (λ t. v (q (w + t))) in
      let low : (t : ℕ) → t < k → q (w + t) < i = λ t l.
      omega (arith, o.first (w + t) (omega arith), o.from 0 (pow_pos (w + k)), o.below 0 (pow_pos (w + k))) in
      let e : 2 ^ w * b + number w (λ t. v (q t)) ≡ number (w + k) (λ t. v (q t)) =
      omega (arith, number_append w k (λ t. v (q t)), mul_comm (2 ^ w) b) in
      ap (λ (y : ℕ → Bool). y (final j ws (next one i w k q f))) (values-append i here rest v)
      ∙ ap (λ (m : ℕ). values (i + m) rest x (final j ws (next one i w k q f))) (level-length one i w k q f)
      ∙ levels_give j n ws (λ t. q (w + t)) (next one i w k q f) u.1 (next-ordered one i w k q f n o) x
      ∙ ap (λ (m : ℕ). x (next one i w k q f m)) (number_ext k (λ t. x (q (w + t))) (λ t. v (q (w + t)))
      (λ t l. values_below i here v (q (w + t)) (low t l)))
      ∙ level_gives one i w k q f n o K u.0 v b (number_lt k (λ t. v (q (w + t)))) ∙ ap (λ (m : ℕ). v (f m)) e

  pub levels_fit : (e : Edition) (i n : ℕ) (ws : List ℕ) (q f : ℕ → ℕ) → K ≤ e.most → AllSuit one K ws
      → Ordered i n (total ws) (2 ^ total ws) q f → Each (Fits e) i (levels one i ws q f)
  unfolding levels
  levels_fit e i n [] q f h u o = tt
  levels_fit e i n (w ∷ ws) q f h u o =
      let k = total ws in
      let j = cells_each one * 2 ^ k in
      let rest = levels one (i + j) ws (λ t. q (w + t)) (next one i w k q f) in
      each_append (Fits e) i (join_of (2 ^ k) (group one i w k q f)) rest (level_fits one i w k q f n o K u.0 e h)
      (subst (λ (m : ℕ). Each (Fits e) (i + m) rest) (sym (level-length one i w k q f))
      (levels_fit e (i + j) n ws (λ t. q (w + t)) (next one i w k q f) h u.1 (next-ordered one i w k q f n o)))

  -- each signal that is selected from is read
  levels_read : (i n w : ℕ) (ws : List ℕ) (q f : ℕ → ℕ) → AllSuit one K (w ∷ ws)
      → Ordered i n (total (w ∷ ws)) (2 ^ total (w ∷ ws)) q f → (t : ℕ) → t < 2 ^ total (w ∷ ws)
      → 1 ≤ reads (f t) (levels one i (w ∷ ws) q f)
  unfolding levels
  levels_read i n w ws q f u o t h =
      let k = total ws in
      let j = i + cells_each one * 2 ^ k in
      omega (
        arith,
        reads-append (f t) (join_of (2 ^ k) (group one i w k q f)) (levels one j ws (λ t. q (w + t))
            (next one i w k q f)),
        level-reads one i w k q f n o K u.0 t h,
      )

  -- the same where at least one signal selects
  pub some_final : (i : ℕ) (ws : List ℕ) (q f : ℕ → ℕ) → 1 ≤ total ws → suc (final i ws f)
      ≡ i + length (levels one i ws q f)
  some_final i [] q f h = absurd (omega arith)
  some_final i (w ∷ ws) q f h = final_last i w ws q f

  pub some_read : (i n : ℕ) (ws : List ℕ) (q f : ℕ → ℕ) → 1 ≤ total ws → AllSuit one K ws
      → Ordered i n (total ws) (2 ^ total ws) q f → (t : ℕ) → t < 2 ^ total ws → 1 ≤ reads (f t) (levels one i ws q f)
  some_read i n [] q f h u o t l = absurd (omega arith)
  some_read i n (w ∷ ws) q f h u o t l = levels_read i n w ws q f u o t l

  -- what stands on the next level is read there, but for the last signal of all
  standing : (i n w : ℕ) (ws : List ℕ) (q f : ℕ → ℕ) → AllSuit one K (w ∷ ws)
      → Ordered i n (total (w ∷ ws)) (2 ^ total (w ∷ ws)) q f → (g : ℕ) → g < 2 ^ total ws
      → next one i w (total ws) q f g + 1 < i + length (levels one i (w ∷ ws) q f)
      → 1 ≤ reads (next one i w (total ws) q f g) (levels one (i + cells_each one * 2 ^ total ws) ws (λ t. q (w + t))
      (next one i w (total ws) q f))
  unfolding levels
  standing i n w [] q f u o zero h l = absurd (omega (
    arith,
    some_cells one,
    length-append (join_of 1 (group one i w 0 q f)) [],
    level-length one i w 0 q f,
  ))
  standing i n w [] q f u o (suc g) h l = absurd (omega arith)
  standing i n w (w' ∷ ws) q f u o g h l =
      let k = total (w' ∷ ws) in
      levels_read (i + cells_each one * 2 ^ k) n w' ws (λ t. q (w + t)) (next one i w k q f) u.1
      (next-ordered one i w k q f n o) g h

  -- and each of the levels' own but the last
  pub levels_own : (i n : ℕ) (ws : List ℕ) (q f : ℕ → ℕ) → AllSuit one K ws
      → Ordered i n (total ws) (2 ^ total ws) q f → (s : ℕ) → i ≤ s → s + 1 < i + length (levels one i ws q f)
      → 1 ≤ reads s (levels one i ws q f)
  unfolding levels
  levels_own i n [] q f u o s h l = absurd (omega arith)
  levels_own i n (w ∷ ws) q f u o s h l =
      let k = total ws in
      let j = i + cells_each one * 2 ^ k in
      let here = join_of (2 ^ k) (group one i w k q f) in
      let rest = levels one j ws (λ t. q (w + t)) (next one i w k q f) in
      let both = reads-append s here rest in
      let sum = length-append here rest in
      let long = level-length one i w k q f in
      elim (dec_lt s j) [
        | yes g ↦ own_signal one i w k q f s h g (1 ≤ reads s (here ++ rest)) (λ r. omega arith)
            (λ m d e.
            let z : next one i w k q f m + 1 < i + length (levels one i (w ∷ ws) q f) =
            subst (λ (x : ℕ). x + 1 < i + length (here ++ rest)) (sym e) l in
            let y : 1 ≤ reads s rest = subst (λ (x : ℕ). 1 ≤ reads x rest) e (standing i n w ws q f u o m d z) in
            omega arith)
        | no g ↦ let z : 1 ≤ reads s rest = levels_own j n ws (λ t. q (w + t)) (next one i w k q f) u.1
            (next-ordered one i w k q f n o) s (omega arith) (omega arith)
            in omega arith
      ]
