-- What the bound says: no network has fewer cells, and there is one such number only. Where it is 1 or 2 the chain
-- makes so many cells; it reaches the inputs that count; and every sheet of at most three cells, and every one of cells
-- of two inputs, has so many. Assumes nothing.
use mathlib.Core.Path.{◌≡◌, refl, sym, ◌∙◌, subst}
use mathlib.Core.Bool.{Bool}
use mathlib.Core.List.{List, [], ◌∷◌}
use Prim.Native.Nat.{ℕ, ◌+◌, ◌-◌, ◌*◌, ◌^◌, ◌<◌, ◌≤◌, max}
use native.Mathlib.Nat.{mul-le-mul_right}
use native.Mathlib.Decide.{dec_lt}
use native.Mathlib.Omega.{arith}
use lib.ListN.{length}
use Rattle.bits.specs.Numbers.{number}
use Rattle.sheets.specs.Network.{Cell, Gives, Carries}
use Rattle.chains.specs.Chain.{stuck, made}
use Rattle.chains.specs.Aside.{sheet_aside}
use Rattle.fewest.specs.Fewest.{Fewest}
use Rattle.chains.proofs.Aside.{table_most}
use Rattle.fewest.proofs.Fewest.{table_three}
use Rattle.trees.proofs.Trees.{made_tree, stuck_treeless}
use Rattle.trees.specs.Tree.{IsTree}
use Rattle.bounds.specs.Bound.{counted, NoFewer, Bound, one, two, treeless, more}
use Rattle.bounds.proofs.Once.{network_tree}
use Rattle.bounds.proofs.Two.{made_carries, few_made, two_fits, fits_made}
use Rattle.bounds.proofs.Reaching.{reached, reaching-once, reaching_most}

-- ---- networks
module _ (n K : ℕ) (F : ℕ → Bool) where
  abbrev c : ℕ
  c = counted n F

  not-one : K < c → (m : ℕ) → Carries n K m F → 1 ≤ K → 2 ≤ m
  not-one h m C q = elim (dec_lt m 2) [
    | yes l ↦ let e : m ≤ 1 = omega arith in absurd (omega (arith, reached n K m F C, mul-le-mul_right (K - 1) e))
    | no l ↦ omega arith
  ]

  -- cells of two inputs that are fewer than the inputs that count are a tree
  few_tree : K ≡ 2 → (m : ℕ) → Carries n K m F → m < c → IsTree n F
  few_tree k m C l = network_tree n m F (subst (λ (j : ℕ). Carries n j m F) k C) l

  -- no network has fewer cells
  pub bound_sound : {L : ℕ} → 1 ≤ K → Bound n K F L → NoFewer n K F L
  bound_sound q (one h) m C = omega (arith, C.count, C.network.some)
  bound_sound q (two h D) m C = not-one h m C q
  bound_sound q (treeless k h f) m C = elim (dec_lt m c) [ yes l ↦ absurd (f (few_tree k m C l)) | no l ↦ omega arith ]
  bound_sound q (more h f g r) m C = elim (dec_lt m 3) [
    | yes l ↦ let e : m ≡ 2 = omega (arith, not-one h m C q) in absurd (f (subst (λ (j : ℕ). Carries n K j F) e C))
    | no l ↦ omega (arith, r.least m (reached n K m F C))
  ]

  -- there is one such number
  pub bound_once : {L M : ℕ} → Bound n K F L → Bound n K F M → L ≡ M
  bound_once (one h) (one g) = refl
  bound_once (one h) (two g D) = absurd (omega arith)
  bound_once (one h) (treeless k g f) = absurd (omega arith)
  bound_once (one h) (more g f t r) = absurd (omega arith)
  bound_once (two h C) (one g) = absurd (omega arith)
  bound_once (two h C) (two g D) = refl
  bound_once (two h C) (treeless k g f) = absurd (f (few_tree k 2 C (omega arith)))
  bound_once (two h C) (more g f t r) = absurd (f C)
  bound_once (treeless k h f) (one g) = absurd (omega arith)
  bound_once (treeless k h f) (two g D) = absurd (f (few_tree k 2 D (omega arith)))
  bound_once (treeless k h f) (treeless j g e) = refl
  bound_once (treeless k h f) (more g e t r) = absurd (f (t k))
  bound_once (more h f t r) (one g) = absurd (omega arith)
  bound_once (more h f t r) (two g D) = absurd (f D)
  bound_once (more h f t r) (treeless k g e) = absurd (e (t k))
  bound_once (more h f t r) (more g e u s) = omega (arith, reaching-once r s)

  -- so many cells reach the inputs that count; so it is no less than what they ask for
  pub bound_reaches : {L : ℕ} → 1 ≤ K → Bound n K F L → c ≤ L * (K - 1) + 1
  bound_reaches q (one h) = omega arith
  bound_reaches q (two h C) = reached n K 2 F C
  bound_reaches q (treeless k h f) = subst (λ (j : ℕ). c ≤ c * (j - 1) + 1) (sym k) (omega arith)
  bound_reaches q (more {m = m} h f t r) =
      let e : m ≤ max 3 m = omega arith in
      omega (arith, r.enough, mul-le-mul_right (K - 1) e)

  pub bound_asks : {L : ℕ} → 1 ≤ K → Bound n K F L → (m : ℕ) → (m - 1) * (K - 1) + 1 < c → m ≤ L
  bound_asks {L} q b m h = reaching_most c K L m (bound_reaches q b) h

  -- a network of no more cells has the fewest
  pub bound_fewest : {L : ℕ} → 1 ≤ K → Bound n K F L → (cs : List Cell) → Gives n K F cs → length cs ≤ L
      → Fewest n K F cs
  bound_fewest q b cs N h = record { network = N; least = λ m C. omega (arith, bound_sound q b m C) }

-- ---- sheets
module _ (n K : ℕ) (F : ℕ → Bool) (p : 1 ≤ n) (q : 2 ≤ K) {L : ℕ} (b : Bound n K F L) where
  some : 1 ≤ K
  some = omega arith

  -- 1 or 2: the chain makes so many cells
  pub bound_made : L ≤ 2 → (cs : List Cell) × (sheet_aside n K (number (2 ^ n) F) ≡ made cs) × (length cs ≡ L)
  bound_made = go b
    where
      go : {M : ℕ} → Bound n K F M → M ≤ 2 → (cs : List Cell) × (sheet_aside n K (number (2 ^ n) F) ≡ made cs)
          × (length cs ≡ M)
      go (one h) l = let w = few_made n K F p some h in (w.0 ∷ [], w.1, refl)
      go (two h C) l = let w = fits_made n K F p some h (two_fits n K F p some h C) in (w.0 ∷ w.1 ∷ [], w.2, refl)
      go (treeless k h f) l = absurd (omega arith)
      go (more h f t r) l = absurd (omega arith)

  -- so many carry the table
  pub bound_carried : L ≤ 2 → Carries n K L F
  bound_carried h = let w = bound_made h in subst (λ (m : ℕ). Carries n K m F) w.2
      (made_carries n K F p some w.0 w.1)

  -- where neither one nor two cells carry the table it is 3 or more
  pub bound_three : (Carries n K 1 F → ⊥) → (Carries n K 2 F → ⊥) → 3 ≤ L
  bound_three f g = elim (dec_lt L 3) [
    | no h ↦ omega arith
    | yes h ↦ elim (dec_lt L 2) [
      | yes l ↦ absurd (f (subst (λ (m : ℕ). Carries n K m F)
          (let e : L ≡ 1 = omega
          (arith, (bound_carried (omega arith)).count, (bound_carried (omega arith)).network.some)
          in e) (bound_carried (omega arith))))
      | no l ↦ let e : L ≡ 2 = omega arith in absurd
          (g (subst (λ (m : ℕ). Carries n K m F) e (bound_carried (omega arith))))
    ]
  ]

  -- a network of the fewest cells that has at most three has so many
  pub fewest_bound : (cs : List Cell) → Fewest n K F cs → length cs ≤ 3 → length cs ≡ L
  fewest_bound cs f h =
      let no_more = bound_sound n K F some b (length cs) (record { cells = cs; count = refl; network = f.network }) in
      elim (dec_lt 2 L) [ yes l ↦ omega arith | no l ↦ omega (arith, f.least L (bound_carried (omega arith))) ]

  module _ (cs : List Cell) (is : sheet_aside n K (number (2 ^ n) F) ≡ made cs) where
    no_more : L ≤ length cs
    no_more = bound_sound n K F some b (length cs) (made_carries n K F p some cs is)

    -- a sheet of at most three cells has so many
    pub three_bound : length cs ≤ 3 → length cs ≡ L
    three_bound h = fewest_bound cs (table_three n K F p some cs is h) h

    -- so has one with no more cells than the inputs that count ask for
    pub enough_bound : (length cs - 1) * (K - 1) + 1 < counted n F → length cs ≡ L
    enough_bound h = omega (arith, no_more, bound_asks n K F some b (length cs) h)

    -- and one of cells of two inputs
    pub pairs_bound : K ≡ 2 → length cs ≡ L
    pairs_bound k = omega (arith, no_more, go b)
      where
        go : {M : ℕ} → Bound n K F M → length cs ≤ M
        go (one h) = omega (arith, table_most n K F p some cs is)
        go (two h C) = omega (arith, table_most n K F p some cs is, reached n K 2 F C)
        go (treeless k h f) = absurd (f (made_tree n F p cs
            (subst (λ (j : ℕ). sheet_aside n j (number (2 ^ n) F) ≡ made cs) k is)))
        go (more {m = m} h f t r) =
            omega (arith, table_most n K F p some cs is, subst (λ (j : ℕ). counted n F ≤ m * (j - 1) + 1) k r.enough)

  -- with cells of two inputs and a chain that is stuck, it is as many as inputs count
  pub stuck_bound : K ≡ 2 → sheet_aside n K (number (2 ^ n) F) ≡ stuck → L ≡ counted n F
  stuck_bound k is = go b
    where
      none : IsTree n F → ⊥
      none w = (stuck_treeless n F p).0 (subst (λ (j : ℕ). sheet_aside n j (number (2 ^ n) F) ≡ stuck) k is) w.0 w.1

      go : {M : ℕ} → Bound n K F M → M ≡ counted n F
      go (one h) = let w = few_made n K F p some h in let z : made (w.0 ∷ []) ≡ stuck = sym w.1 ∙ is
          in let e : ◌≡◌ {A = ℕ} 0 1 = cc in absurd (omega arith)
      go (two h C) = absurd (none (few_tree n K F k 2 C (omega arith)))
      go (treeless j h f) = refl
      go (more h f t r) = absurd (none (t k))
