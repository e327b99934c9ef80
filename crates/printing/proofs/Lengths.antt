-- What is measured of cells that are each read once: what each cell adds, and what the inputs that are read weigh. So
-- the text is short: five bytes a cell, and a letter for each input that is read. Assumes nothing.
use mathlib.Core.Path.{◌≡◌, refl, sym, ap, ◌∙◌}
use mathlib.Core.Bool.{Bool, true, false, cond}
use mathlib.Core.List.{List, [], ◌∷◌, ◌++◌}
use Prim.Native.Nat.{ℕ, suc, ◌+◌, ◌-◌, ◌*◌, ◌<◌, ◌≤◌}
use native.Mathlib.Nat.{mul-suc}
use native.Mathlib.Omega.{arith}
use lib.Dec.{eqb, ltb}
use lib.ListN.{length, get_or, length-append}
use borrow.Author.Tests.{eq-eqb, ne_eqb, eqb-true, eqb-false, le-ltb}
use Rattle.bits.specs.Numbers.{val}
use Rattle.sheets.specs.Network.{Cell, Wired}
use Rattle.sheets.specs.Reading.{times, reads}
use Rattle.printing.specs.Forms.{mark_of, flips_low, flips_high}
use Rattle.printing.specs.Print.{in_turn, by_sides, flipped_text, one_text, two_text, cell_text, letter_text, printed}
use Rattle.printing.specs.Printable.{AllPlain, Printable}

-- the weight of what is read, each as often as it is
abbrev pub weighed : (ℕ → ℕ) → List ℕ → ℕ
weighed m [] = 0
weighed m (s ∷ l) = m s + weighed m l

abbrev pub weighed_in : (ℕ → ℕ) → List Cell → ℕ
weighed_in m [] = 0
weighed_in m (c ∷ cs) = weighed m c.signals + weighed_in m cs

mul-sum : (a b c : ℕ) → (a + b) * c ≡ a * c + b * c
mul-sum a b c = omega arith

-- m' is m, with w at signal i, which weighed nothing
module _ (m m' : ℕ → ℕ) (i w : ℕ) (same : (s : ℕ) → m' s ≡ m s + val (eqb i s) * w) where
  list_more : (l : List ℕ) → weighed m' l ≡ weighed m l + times i l * w
  list_more [] = omega arith
  list_more (s ∷ l) = omega (arith, same s, list_more l, mul-sum (val (eqb i s)) (times i l) w)

  cells_more : (cs : List Cell) → weighed_in m' cs ≡ weighed_in m cs + reads i cs * w
  cells_more [] = omega arith
  cells_more (c ∷ cs) = omega (
    arith,
    list_more c.signals,
    cells_more cs,
    mul-sum (times i c.signals) (reads i cs)
        w,
  )

-- ---- the cells in turn

pub times_none : (l : List ℕ) (i x : ℕ) → ((j : ℕ) → j < length l → get_or l j 0 < i) → i ≤ x → times x l ≡ 0
times_none [] i x h g = refl
times_none (s ∷ l) i x h g =
    let k : s < i = h 0 (omega arith) in
    omega (arith, ap val (ne_eqb x s (λ e. omega arith)), times_none l i x (λ j q. h (suc j) (omega arith)) g)

-- each cell but the last is read once
abbrev pub Once : ℕ → List Cell → Type 0
Once i cs = (j : ℕ) → j + 1 < length cs → reads (i + j) cs ≡ 1

module _ (K : ℕ) where
  later_once : (c : Cell) (cs : List Cell) (i : ℕ) → Wired K i (c ∷ cs) → Once i (c ∷ cs) → Once (suc i) cs
  later_once c cs i w o j h =
      let q : suc i + j ≡ i + suc j = omega arith in
      omega (
        arith,
        ap (λ (x : ℕ). reads x cs) q,
        times_none c.signals i (i + suc j) w.1 (omega arith),
        o (suc j)
            (omega arith),
      )

  first-once : (c d : Cell) (cs : List Cell) (i : ℕ) → Wired K i (c ∷ d ∷ cs) → Once i (c ∷ d ∷ cs) → reads i (d ∷ cs)
      ≡ 1
  first-once c d cs i w o =
      let q : i ≡ i + 0 = omega arith in
      omega (
        arith,
        ap (λ (x : ℕ). reads x (c ∷ d ∷ cs)) q,
        times_none c.signals i i w.1 (omega arith),
        o 0
            (omega arith),
      )

  -- a measure to which a cell adds at most k
  module _ {A : Type 0} (makes : Cell → (ℕ → A) → A) (measure : A → ℕ) (k : ℕ)
      (adds : (c : Cell) (v : ℕ → A) → measure (makes c v) ≤ k + weighed (λ s. measure (v s)) c.signals) where
    pub measured : (cs : List Cell) (c : Cell) (i : ℕ) (v : ℕ → A) → Wired K i (c ∷ cs) → Once i (c ∷ cs)
        → ((s : ℕ) → i ≤ s → measure (v s) ≡ 0)
        → measure (in_turn makes i (c ∷ cs) v (i + length cs)) ≤ k * (1 + length cs)
        + weighed_in (λ s. measure (v s)) (c ∷ cs)
    unfolding in_turn
    measured [] c i v w o none =
        let q : i + 0 ≡ i = omega arith in
        let e = ap (λ (x : ℕ). cond (eqb x i) (makes c v) (v x)) q
        ∙ ap (λ (b : Bool). cond b (makes c v) (v i)) (eq-eqb i i refl) in
        omega (arith, ap measure e, adds c v)
    measured (d ∷ cs) c i v w o none =
        let t = makes c v in
        let u : ℕ → A = λ x. cond (eqb x i) (makes c v) (v x) in
        let q : suc i + length cs ≡ i + suc (length cs) = omega arith in
        let rest = measured cs d (suc i) u w.2 (later_once c (d ∷ cs) i w o)
        (λ s h. ap (λ (b : Bool). measure (cond b t (v s))) (ne_eqb s i (λ e. omega arith)) ∙ none s (omega arith))
        in
        omega (
          arith,
          rest,
          ap (λ (x : ℕ). measure (in_turn makes (suc i) (d ∷ cs) u x)) q,
          cells_more (λ s. measure (v s)) (λ s. measure (u s)) i (measure t) (λ s. one s (eqb s i) refl) (d ∷ cs),
          ap (λ (r : ℕ). r * measure t) (first-once c d cs i w o),
          adds c v,
          mul-suc k (1 + length cs),
        )
      where
        one : (s : ℕ) (b : Bool) → eqb s i ≡ b → measure (cond b (makes c v) (v s)) ≡ measure (v s)
            + val (eqb i s) * measure (makes c v)
        one s true q =
            let e = eqb-true s i q in
            omega (arith, none s (omega arith), ap (λ (b : Bool). val b * measure (makes c v)) (eq-eqb i s (sym e)))
        one s false q = omega (
          arith,
          ap (λ (b : Bool). val b * measure (makes c v))
              (ne_eqb i s (λ e. eqb-false s i q (sym e))),
        )

-- ---- the text of one cell

flip_short : (f : Bool) (w : List ℕ) → length (flipped_text f w) ≤ 1 + length w
flip_short true w = omega arith
flip_short false w = omega arith

one_short : (a b f : Bool) (w : List ℕ) → length (cond a (48 ∷ []) (cond b (49 ∷ []) (flipped_text f w))) ≤ 1 + length w
one_short true b f w = omega arith
one_short false true f w = omega arith
one_short false false f w = flip_short f w

two_short : (t : ℕ) (l r : List ℕ) → length (two_text t l r) ≤ 5 + (length l + length r)
two_short t l r =
    let a = flipped_text (flips_low t) l in
    let b = flipped_text (flips_high t) r in
    omega (
      arith,
      length-append a (mark_of t ∷ (b ++ (41 ∷ []))),
      length-append b (41 ∷ []),
      flip_short (flips_low t) l,
      flip_short (flips_high t) r,
    )

sides_short : (l : List ℕ) (t : ℕ) (v : ℕ → List ℕ) → length (by_sides [] one_text two_text l t v) ≤ 5
    + weighed (λ s. length (v s)) l
sides_short [] t v = omega arith
sides_short (a ∷ []) t v = omega (arith, one_short (eqb t 0) (eqb t 3) (eqb t 1) (v a))
sides_short (a ∷ b ∷ l) t v = omega (arith, two_short t (v a) (v b))

-- ---- the whole text

letter_short : (b : Bool) (j : ℕ) → length (cond b ((97 + j) ∷ []) []) ≤ 1
letter_short true j = omega arith
letter_short false j = omega arith

letters_short : (n : ℕ) (l : List ℕ) → weighed (λ s. length (letter_text n s)) l ≤ length l
letters_short n [] = omega arith
letters_short n (s ∷ l) = omega (arith, letter_short (ltb s n) s, letters_short n l)

read_short : (n : ℕ) (cs : List Cell) → AllPlain cs → weighed_in (λ s. length (letter_text n s)) cs ≤ 2 * length cs
read_short n [] p = omega arith
read_short n (c ∷ cs) p = omega (arith, letters_short n c.signals, p.0.few, read_short n cs p.1)

-- seven bytes a cell
pub text_short : (n K : ℕ) (cs : List Cell) → 1 ≤ length cs → Wired K n cs → Printable n cs
    → length (printed n cs (n + (length cs - 1))) ≤ 7 * length cs
unfolding printed
text_short n K [] some w p = absurd (omega arith)
text_short n K (c ∷ cs) some w p =
    let q : n + length cs ≡ n + (suc (length cs) - 1) = omega arith in
    omega (
      arith,
      measured K cell_text length 5 (λ c v. sides_short c.signals c.table v) cs c n (letter_text n) w p.once
          (λ s h. ap (λ (b : Bool). length (cond b ((97 + s) ∷ []) [])) (le-ltb s n h)),
      read_short n (c ∷ cs) p.plain,
      ap (λ (x : ℕ). length (in_turn cell_text n (c ∷ cs) (letter_text n) x)) q,
    )
