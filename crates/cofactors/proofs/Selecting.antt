-- The cells that select one of several signals: what they give, that they keep the record rules, and what they read.
-- Assumes nothing.
use mathlib.Core.Path.{◌≡◌, refl, sym, ap, ap₂, ◌∙◌, subst, subst₂}
use mathlib.Core.Bool.{Bool, true, false, cond}
use mathlib.Core.List.{List, [], ◌∷◌, ◌++◌}
use Prim.Native.Nat.{ℕ, zero, suc, ◌+◌, ◌-◌, ◌*◌, ◌/◌, ◌%◌, ◌^◌, ◌<◌, ◌≤◌}
use native.Mathlib.Decide.{dec_lt}
use native.Mathlib.Nat.{add_comm, mul_comm, suc-mul, mul-le-mul_right}
use native.Mathlib.Omega.{arith}
use lib.Dec.{eqb, lit<}
use lib.ListN.{length, get_or, length-append, get_or-append}
use lib.Pow.{pow-add, pow_pos, high, low}
use lib.Seq.{get_or-append-add}
use borrow.Author.Tests.{eq-eqb, ne_eqb}
use Rattle.bits.specs.Numbers.{bit, val, number}
use Rattle.bits.specs.Lists.{list_of}
use Rattle.bits.proofs.Numbers.{number_lt, bit-number}
use Rattle.bits.proofs.Lists.{length-list, list_at}
use Rattle.sheets.specs.declared.kinds.Edition.{Edition}
use Rattle.sheets.specs.Network.{Cell, packed, output}
use Rattle.sheets.specs.Writing.{Fits}
use Rattle.sheets.specs.Reading.{times, reads}
use Rattle.sheets.proofs.Unread.{times_at}
use Rattle.chains.proofs.Each.{Each}
use Rattle.chains.proofs.Lists.{packed-append, packed-list}
use Rattle.networks.specs.Signals.{values}
use Rattle.cofactors.specs.Cofactors.{selector, selecting, cells_each}

-- cells of K inputs have room for w selecting signals and those that they select from; or they have two inputs, and
-- three of them select by one signal
abbrev pub Suits : Bool → ℕ → ℕ → Type 0
Suits true K w = w + 2 ^ w ≤ K
Suits false K w = (w ≡ 1) × (2 ≤ K)

pub selecting-length : (one : Bool) (w i : ℕ) (q f : ℕ → ℕ) → length (selecting one w i q f) ≡ cells_each one
selecting-length true w i q f = refl
selecting-length false w i q f = refl

-- ---- one cell
module _ (w : ℕ) (q f : ℕ → ℕ) where
  abbrev signals : List ℕ
  signals = list_of w q ++ list_of (2 ^ w) f

  long : length signals ≡ w + 2 ^ w
  long = length-append (list_of w q) (list_of (2 ^ w) f) ∙ ap₂ (λ (a b : ℕ). a + b) (length-list w q)
      (length-list (2 ^ w) f)

  at_first : (j : ℕ) → j < w → get_or signals j 0 ≡ q j
  at_first j h = get_or-append (list_of w q) (list_of (2 ^ w) f) 0 j (omega (arith, length-list w q))
      ∙ list_at w q j 0 h

  at_then : (t : ℕ) → t < 2 ^ w → get_or signals (w + t) 0 ≡ f t
  at_then t h =
      ap (λ (k : ℕ). get_or signals (k + t) 0) (sym (length-list w q))
      ∙ get_or-append-add (list_of w q) (list_of (2 ^ w) f) t 0 ∙ list_at (2 ^ w) f t 0 h

  module _ (v : ℕ → Bool) where
    abbrev a : ℕ
    a = number w (λ t. v (q t))

    abbrev b : ℕ
    b = number (2 ^ w) (λ t. v (f t))

    together : packed signals v ≡ b * 2 ^ w + a
    together =
        packed-append v (list_of w q) (list_of (2 ^ w) f)
        ∙ ap₂ (λ (x k : ℕ). x + packed (list_of (2 ^ w) f) v * 2 ^ k) (packed-list v w q) (length-list w q)
        ∙ ap (λ (y : ℕ). a + y * 2 ^ w) (packed-list v (2 ^ w) f) ∙ add_comm a (b * 2 ^ w)

    within : b * 2 ^ w + a < 2 ^ (w + 2 ^ w)
    within = omega (
      arith,
      pow-add 2 w (2 ^ w),
      mul_comm (2 ^ w) (2 ^ (2 ^ w)),
      suc-mul b (2 ^ w),
      mul-le-mul_right (2 ^ w) (number_lt (2 ^ w) (λ t. v (f t))),
      number_lt w (λ t. v (q t)),
    )

    one_gives : bit (selector w) (packed signals v) ≡ v (f a)
    one_gives =
        let la = number_lt w (λ t. v (q t)) in
        ap (bit (selector w)) together
        ∙ bit-number (2 ^ (w + 2 ^ w)) (λ x. bit (x / 2 ^ w) (x % 2 ^ w)) (b * 2 ^ w + a) within
        ∙ ap₂ bit (high b w la) (low b w la) ∙ bit-number (2 ^ w) (λ t. v (f t)) a la

-- ---- cells of two inputs
two_give : (v : ℕ → Bool) (x y T : ℕ) → output (record { signals = x ∷ y ∷ []; table = T }) v
    ≡ bit T (val (v x) + val (v y) * 2)
unfolding output number
two_give v x y T = let e : 0 + val (v x) * 1 + val (v y) * 2 ≡ val (v x) + val (v y) * 2 = omega arith in ap (bit T) e

gates : (s a b : Bool) → bit 14 (val (bit 4 (val s + val a * 2)) + val (bit 8 (val s + val b * 2)) * 2)
    ≡ cond s b a
gates true true true = refl
gates true true false = refl
gates true false true = refl
gates true false false = refl
gates false true true = refl
gates false true false = refl
gates false false true = refl
gates false false false = refl

three_give : (i : ℕ) (q f : ℕ → ℕ) (v : ℕ → Bool) → q 0 < i → f 0 < i → f 1 < i
    → values i (selecting false 1 i q f) v (i + 2) ≡ cond (v (q 0)) (v (f 1)) (v (f 0))
unfolding values
three_give i q f v lq la lb =
    ap (λ (t : Bool). cond t (output (record { signals = i ∷ suc i ∷ []; table = 14 }) v2) (v2 (i + 2)))
    (eq-eqb (i + 2) (suc (suc i)) (omega arith))
    ∙ two_give v2 i (suc i) 14
    ∙ ap₂ (λ (a b : Bool). bit 14 (val a + val b * 2))
    (ap (λ (t : Bool). cond t o2 (v1 i)) (ne_eqb i (suc i) (omega arith)) ∙ ap (λ (t : Bool). cond t o1 (v i))
    (eq-eqb i i refl) ∙ two_give v (q 0) (f 0) 4)
    (ap (λ (t : Bool). cond t o2 (v1 (suc i))) (eq-eqb (suc i) (suc i) refl) ∙ two_give v1 (q 0) (f 1) 8
    ∙ ap₂ (λ (a b : Bool). bit 8 (val a + val b * 2)) (old (q 0) lq) (old (f 1) lb))
    ∙ gates (v (q 0)) (v (f 0)) (v (f 1))
  where
    o1 : Bool
    o1 = output (record { signals = q 0 ∷ f 0 ∷ []; table = 4 }) v

    v1 : ℕ → Bool
    v1 s = cond (eqb s i) o1 (v s)

    o2 : Bool
    o2 = output (record { signals = q 0 ∷ f 1 ∷ []; table = 8 }) v1

    v2 : ℕ → Bool
    v2 s = cond (eqb s (suc i)) o2 (v1 s)

    old : (s : ℕ) → s < i → v1 s ≡ v s
    old s h = ap (λ (t : Bool). cond t o1 (v s)) (ne_eqb s i (omega arith))

picked : (q f : ℕ → ℕ) (v : ℕ → Bool) → cond (v (q 0)) (v (f 1)) (v (f 0)) ≡ v (f (number 1 (λ t. v (q t))))
unfolding number
picked q f v = go (v (q 0))
  where
    go : (b : Bool) → cond b (v (f 1)) (v (f 0)) ≡ v (f (0 + val b * 1))
    go true = refl
    go false = refl

-- ---- the signal that they give
pub selects : (one : Bool) (K w i : ℕ) (q f : ℕ → ℕ) (v : ℕ → Bool) → Suits one K w → ((t : ℕ) → t < w → q t < i)
    → ((t : ℕ) → t < 2 ^ w → f t < i)
    → values i (selecting one w i q f) v (i + (cells_each one - 1)) ≡ v (f (number w (λ t. v (q t))))
unfolding values output
selects true K w i q f v u lq lf =
    let e : i + 0 ≡ i = omega arith in
    ap (λ (b : Bool). cond b (bit (selector w) (packed (list_of w q ++ list_of (2 ^ w) f) v)) (v (i + 0)))
    (eq-eqb (i + 0) i e)
    ∙ one_gives w q f v
selects false K w i q f v u lq lf =
    three_give i q f v (lq 0 (omega (arith, u.0))) (lf 0 (pow_pos w)) (lf 1 (subst (λ (k : ℕ). 1 < 2 ^ k) (sym u.0)
    (lit< tt)))
    ∙ picked q f v ∙ ap (λ (k : ℕ). v (f (number k (λ t. v (q t))))) (sym u.0)

-- ---- the record rules: the selecting signals and then those that are selected from, all rising
pub record Ordered (i n a b : ℕ) (q f : ℕ → ℕ) : Type 0 where
  pub first : (t : ℕ) → t < a → q t < n
  pub rises : (t : ℕ) → t + 1 < a → q t < q (t + 1)
  pub from : (t : ℕ) → t < b → n ≤ f t
  pub climbs : (t : ℕ) → t + 1 < b → f t < f (t + 1)
  pub below : (t : ℕ) → t < b → f t < i

one_fits : (e : Edition) (K w i n : ℕ) (q f : ℕ → ℕ) → K ≤ e.most → w + 2 ^ w ≤ K → Ordered i n w (2 ^ w) q f
    → Fits e i (record { signals = list_of w q ++ list_of (2 ^ w) f; table = selector w })
one_fits e K w i n q f k u o = record {
  some = omega (arith, long w q f, pow_pos w);
  most = omega (arith, long w q f);
  known = known;
  rising = rising;
  table = subst (λ (m : ℕ). selector w < 2 ^ (2 ^ m)) (sym (long w q f))
      (number_lt (2 ^ (w + 2 ^ w)) (λ x. bit (x / 2 ^ w) (x % 2 ^ w)));
}
  where
    -- place j from w on
    then : (j : ℕ) → w ≤ j → j < w + 2 ^ w → get_or (list_of w q ++ list_of (2 ^ w) f) j 0 ≡ f (j - w)
    then j h g = ap (λ (m : ℕ). get_or (list_of w q ++ list_of (2 ^ w) f) m 0) (let e : j ≡ w + (j - w) = omega arith in e)
        ∙ at_then w q f (j - w) (omega arith)

    known : (j : ℕ) → j < length (list_of w q ++ list_of (2 ^ w) f) → get_or (list_of w q ++ list_of (2 ^ w) f) j 0 < i
    known j h = elim (dec_lt j w) [
      | yes g ↦ omega (arith, at_first w q f j g, o.first j g, o.from 0 (pow_pos w), o.below 0 (pow_pos w))
      | no g ↦ let b : j - w < 2 ^ w = omega (arith, long w q f) in
          omega (arith, then j (omega arith) (omega (arith, long w q f)), o.below (j - w) b)
    ]

    rising : (j : ℕ) → j + 1 < length (list_of w q ++ list_of (2 ^ w) f)
        → get_or (list_of w q ++ list_of (2 ^ w) f) j 0 < get_or (list_of w q ++ list_of (2 ^ w) f) (j + 1) 0
    rising j h = elim (dec_lt j w) [
      | yes g ↦ elim (dec_lt (j + 1) w) [
        | yes m ↦ omega (arith, at_first w q f j g, at_first w q f (j + 1) m, o.rises j m)
        | no m ↦ let z : (j + 1) - w ≡ 0 = omega arith in
            omega (
              arith,
              at_first w q f j g,
              o.first j g,
              then (j + 1) (omega arith) (omega (arith, pow_pos w)),
              ap f z,
              o.from 0 (pow_pos w),
            )
      ]
      | no g ↦
          let z : (j + 1) - w ≡ (j - w) + 1 = omega arith in
          let b : (j - w) + 1 < 2 ^ w = omega (arith, long w q f) in
          omega (
            arith,
            then j (omega arith) (omega (arith, long w q f)),
            then (j + 1) (omega arith) (omega (arith, long w q f)),
            ap f z,
            o.climbs (j - w) b,
          )
    ]

two_fits : (e : Edition) (i x y T : ℕ) → 2 ≤ e.most → x < y → y < i → T < 16
    → Fits e i (record { signals = x ∷ y ∷ []; table = T })
two_fits e i x y T k a b c = record { some = omega arith; most = k; known = known; rising = rising; table = c }
  where
    known : (j : ℕ) → j < 2 → get_or (x ∷ y ∷ []) j 0 < i
    known zero h = omega arith
    known (suc zero) h = b
    known (suc (suc j)) h = absurd (omega arith)

    rising : (j : ℕ) → j + 1 < 2 → get_or (x ∷ y ∷ []) j 0 < get_or (x ∷ y ∷ []) (j + 1) 0
    rising zero h = a
    rising (suc j) h = absurd (omega arith)

pub selecting_fits : (one : Bool) (e : Edition) (K w i n : ℕ) (q f : ℕ → ℕ) → K ≤ e.most → Suits one K w
    → Ordered i n w (2 ^ w) q f → Each (Fits e) i (selecting one w i q f)
selecting_fits true e K w i n q f k u o = (one_fits e K w i n q f k u o, tt)
selecting_fits false e K w i n q f k u o =
    let h : 1 < 2 ^ w = subst (λ (k : ℕ). 1 < 2 ^ k) (sym u.0) (lit< tt) in
    let a = o.first 0 (omega (arith, u.0)) in
    let b = o.from 0 (pow_pos w) in
    let c = o.below 0 (pow_pos w) in
    let d = o.climbs 0 (omega arith) in
    let g = o.below 1 h in
    let m = u.1 in
    let first = two_fits e i (q 0) (f 0) 4 (omega arith) (omega arith) c (lit< tt) in
    let second = two_fits e (suc i) (q 0) (f 1) 8 (omega arith) (omega arith) (omega arith) (lit< tt) in
    let third = two_fits e (suc (suc i)) i (suc i) 14 (omega arith) (omega arith) (omega arith) (lit< tt) in
    (first, (second, (third, tt)))

-- ---- what they read

-- each signal that is selected from
pub selecting-reads : (one : Bool) (K w i : ℕ) (q f : ℕ → ℕ) (t : ℕ) → Suits one K w → t < 2 ^ w
    → 1 ≤ reads (f t) (selecting one w i q f)
selecting-reads true K w i q f t u h =
    let e = times_at (list_of w q ++ list_of (2 ^ w) f) (w + t) (omega (arith, long w q f)) in
    let g : 1 ≤ times (f t) (list_of w q ++ list_of (2 ^ w) f) =
    subst (λ (s : ℕ). 1 ≤ times s (list_of w q ++ list_of (2 ^ w) f)) (at_then w q f t h) e in
    omega arith
selecting-reads false K w i q f zero u h = omega (arith, times_at (q 0 ∷ f 0 ∷ []) 1 (lit< tt))
selecting-reads false K w i q f (suc zero) u h = omega (arith, times_at (q 0 ∷ f 1 ∷ []) 1 (lit< tt))
selecting-reads false K w i q f (suc (suc t)) u h =
    let g : suc (suc t) < 2 = subst (λ (k : ℕ). suc (suc t) < 2 ^ k) u.0 h in absurd (omega arith)

-- and each of their own signals but the last
pub selecting_own : (one : Bool) (w i : ℕ) (q f : ℕ → ℕ) (s : ℕ) → i ≤ s → s + 1 < i + cells_each one
    → 1 ≤ reads s (selecting one w i q f)
selecting_own true w i q f s h g = absurd (omega arith)
selecting_own false w i q f s h g = elim (dec_lt i s) [
  | yes l ↦
      let e : suc i ≡ s = omega arith in
      let r : 1 ≤ times s (i ∷ suc i ∷ []) = subst (λ (x : ℕ). 1 ≤ times x (i ∷ suc i ∷ [])) e
      (times_at (i ∷ suc i ∷ []) 1 (lit< tt)) in
      omega arith
  | no l ↦
      let e : i ≡ s = omega arith in
      let r : 1 ≤ times s (i ∷ suc i ∷ []) = subst (λ (x : ℕ). 1 ≤ times x (i ∷ suc i ∷ [])) e
      (times_at (i ∷ suc i ∷ []) 0 (lit< tt)) in
      omega arith
]
