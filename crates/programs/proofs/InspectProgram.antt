-- The inspecting program writes the answer number, a space and the place over the beginning of its room. Assumes
-- nothing.
use mathlib.Core.Path.{◌≡◌, refl, sym, ap, ap₂, ◌∙◌, subst}
use mathlib.Core.Bool.{Bool, false, cond}
use mathlib.Core.List.{List, [], ◌∷◌, ◌++◌, append-nil, append_assoc}
use Prim.Native.Nat.{ℕ, zero, suc, ◌+◌, ◌-◌, ◌/◌, ◌%◌, ◌^◌, ◌<◌, ◌≤◌}
use native.Mathlib.Nat.{not-suc-le-zero, pow-suc}
use native.Mathlib.Decide.{dec_lt}
use native.Mathlib.Omega.{arith}
use lib.Dec.{ltb}
use lib.ListN.{length, get_or, take, drop, set, replicate, length-append, length-drop, length-set, drop_of_length-le}
use lib.Seq.{drop-append_seam, take-append_seam}
use borrow.Author.Tests.{lt-ltb, le-ltb}
use borrow.Rule.Slice.PartMut.{put_mid, mid_of}
use Rattle.tables.specs.Table.{most_inputs, table_length}
use Rattle.sheets.specs.Edition.{first_edition}
use Rattle.sheets.specs.Desk.{desk_of}
use Rattle.refusals.specs.Verdicts.{Verdict, Refused}
use Rattle.refusals.specs.Lent.{into}
use Rattle.refusals.specs.Lines.{refusal, number_of, place_of}
use Rattle.refusals.proofs.Lines.{here, decides}
use Rattle.refusals.proofs.Tests.{over}
use Rattle.programs.proofs.BenchProgram.{rest, long_enough}
use Rattle.inspection.specs.CheckSheet.{check_lines, check_outcome, check_own}
use Rattle.programs.specs.InspectProgram.{digits, decimal, inspected, shown, written, most_written}
use Rattle.programs.specs.InspectProgram.{ProgramOutcome, program_outcome}

-- ---- a number's digits

step : Bool → ℕ → List ℕ → List ℕ
step t x d = cond t [] d ++ ((48 + x % 10) ∷ [])

-- any number of steps that is enough gives the same
same_digits : (k j x : ℕ) → x < k → x < j → digits k x ≡ digits j x
unfolding step
same_digits zero j x h g = absurd (not-suc-le-zero h)
same_digits (suc k) zero x h g = absurd (not-suc-le-zero g)
same_digits (suc k) (suc j) x h g = elim (dec_lt x 10) [
  | yes l ↦ ap (λ (t : Bool). step t x (digits k (x / 10))) (lt-ltb x 10 l)
      ∙ sym (ap (λ (t : Bool). step t x (digits j (x / 10))) (lt-ltb x 10 l))
  | no l ↦ ap (step (ltb x 10) x) (same_digits k j (x / 10) (omega arith) (omega arith))
]

pub one-digit : (x : ℕ) → x < 10 → decimal x ≡ (48 + x) ∷ []
unfolding decimal step
one-digit x h =
    let m : x % 10 ≡ x = omega arith in
    ap (λ (t : Bool). step t x (digits x (x / 10))) (lt-ltb x 10 h) ∙ ap (λ (a : ℕ). (48 + a) ∷ []) m

pub more_digits : (x : ℕ) → 10 ≤ x → decimal x ≡ decimal (x / 10) ++ ((48 + x % 10) ∷ [])
unfolding decimal step
more_digits x h =
    ap (λ (t : Bool). step t x (digits x (x / 10))) (le-ltb x 10 h)
    ∙ ap (step false x) (same_digits x (suc (x / 10)) (x / 10) (omega arith) (omega arith))

-- a number below 10 ^ (b + 1) has at most b + 1 digits
few_digits : (b k x : ℕ) → x < 10 ^ suc b → length (digits k x) ≤ suc b
unfolding step
few_digits b zero x h = omega arith
few_digits b (suc k) x h = elim (dec_lt x 10) [
  | yes l ↦ subst (λ (t : Bool). length (step t x (digits k (x / 10))) ≤ suc b) (sym (lt-ltb x 10 l)) (omega arith)
  | no l ↦ subst (λ (t : Bool). length (step t x (digits k (x / 10))) ≤ suc b) (sym (le-ltb x 10 (omega arith)))
      (more b h (λ a. few_digits a k (x / 10)) l)
]
  where
    more : (b : ℕ) → x < 10 ^ suc b → ((a : ℕ) → x / 10 < 10 ^ suc a → length (digits k (x / 10)) ≤ suc a)
        → (x < 10 → ⊥)
        → length (digits k (x / 10) ++ ((48 + x % 10) ∷ [])) ≤ suc b
    more zero h ih l = absurd (l h)
    more (suc b) h ih l =
        omega (arith, length-append (digits k (x / 10)) ((48 + x % 10) ∷ []), ih b (omega (arith, pow-suc 10 (suc b))))

pub at_most : (b x : ℕ) → x < 10 ^ suc b → length (decimal x) ≤ suc b
unfolding decimal
at_most b x h = few_digits b (suc x) x h

-- ---- bytes written over the beginning of a room

-- one byte more
one_more : (d o : List ℕ) (a : ℕ) → length d < length o → set (into d o) (length d) a ≡ into (d ++ (a ∷ [])) o
one_more [] [] a h = absurd (not-suc-le-zero h)
one_more [] (x ∷ o) a h = refl
one_more (y ∷ d) [] a h = absurd (not-suc-le-zero h)
one_more (y ∷ d) (x ∷ o) a h = ap (λ (l : List ℕ). y ∷ l) (one_more d o a (omega arith))

-- the room keeps its length
same-room : (d o : List ℕ) → length d ≤ length o → length (into d o) ≡ length o
same-room d o h = omega (arith, length-append d (drop (length d) o), length-drop (length d) o)

-- what a call that writes the digits of x over o leaves and returns
abbrev pub Written : ℕ → List ℕ → List ℕ → ℕ → Type 0
Written x o left r = (r ≡ length (decimal x)) × (left ≡ into (decimal x) o)

pub last_digit : (x : ℕ) (o : List ℕ) → x < 10 → length (decimal x) ≤ length o → (0 < length o)
    × Written x o (set o 0 (48 + x)) 1
last_digit x o h f = go (decimal x) (one-digit x h) f
  where
    go : (d : List ℕ) → d ≡ (48 + x) ∷ [] → length d ≤ length o → (0 < length o)
        × ((1 ≡ length d) × (set o 0 (48 + x) ≡ into d o))
    go d q f =
        let l : length d ≡ 1 = ap length q in
        (omega arith, (sym l, one_more [] o (48 + x) (omega arith) ∙ ap (λ (d : List ℕ). into d o) (sym q)))

-- x has one digit more than x / 10
pub one_longer : (x : ℕ) → 10 ≤ x → length (decimal x) ≡ length (decimal (x / 10)) + 1
one_longer x h = ap length (more_digits x h) ∙ length-append (decimal (x / 10)) ((48 + x % 10) ∷ [])

module _ (x : ℕ) (o left : List ℕ) (r : ℕ) (many : 10 ≤ x) (fit : length (decimal x) ≤ length o)
    (w : Written (x / 10) o left r) where
  kept : length left ≡ length o
  kept = ap length w.1 ∙ same-room (decimal (x / 10)) o (omega (arith, one_longer x many))

  pub same_length : (a : ℕ) → length (set left r a) ≡ length o
  same_length a = length-set left r a ∙ kept

  pub inside : r < length left
  inside = omega (arith, kept, w.0, one_longer x many)

  pub next-digit : Written x o (set left r (48 + x % 10)) (r + 1)
  next-digit = (
    omega (arith, w.0, one_longer x many),
    ap₂ (λ (l : List ℕ) (k : ℕ). set l k (48 + x % 10)) w.1 w.0
        ∙ one_more (decimal (x / 10)) o (48 + x % 10) (omega (arith, one_longer x many))
        ∙ ap (λ (d : List ℕ). into d o) (sym (more_digits x many)),
  )

-- ---- the parts of the input

-- where n is too large, that alone decides
too_many : (n : ℕ) (t s : List ℕ) → most_inputs < n → Refused (refusal 1 0) ≡ check_own first_edition n t s
unfolding check_outcome
too_many n t s h = decides (check_lines first_edition (desk_of first_edition s) n t s)
    (here (over 1 n most_inputs (omega arith) ∙ lt-ltb most_inputs n h))

module _ (input : List ℕ) (n start bytes end : ℕ) where
  abbrev behind : List ℕ
  behind = mid_of start (length input - start) input

  pub parted : n ≡ get_or input 0 0 → drop start input ≡ drop 1 input → (n ≤ most_inputs → bytes ≡ table_length n)
      → take end behind ≡ take bytes behind → drop end behind ≡ drop bytes behind
      → check_own first_edition n (take end behind) (mid_of end (length behind - end) behind) ≡ inspected input
  unfolding inspected
  parted p q b t s = elim (dec_lt most_inputs n) [
    | yes l ↦ sym (too_many n _ _ l) ∙ too_many n _ _ l ∙ ap whole p
    | no l ↦ ap₂ (check_own first_edition n) (t ∙ ap₂ take (b (omega arith)) from)
        (rest end behind ∙ s ∙ ap₂ drop (b (omega arith)) from) ∙ ap whole p
  ]
    where
      whole : ℕ → Verdict
      whole m = check_own first_edition m (take (table_length m) (drop 1 input)) (drop (table_length m) (drop 1 input))

      from : behind ≡ drop 1 input
      from = rest start input ∙ q

-- ---- the answer: a number, a space and a place, each over the beginning of what is left of the room

into_twice : (d p o : List ℕ) → length d ≤ length o → d ++ into p (drop (length d) o) ≡ into (d ++ p) o
into_twice [] p o h = refl
into_twice (y ∷ d) p [] h = absurd (not-suc-le-zero h)
into_twice (y ∷ d) p (x ∷ o) h = ap (λ (l : List ℕ). y ∷ l) (into_twice d p o (omega arith))

-- p over the beginning of a part lent from behind d on
lent : (a : ℕ) (left d p o ys : List ℕ) → a ≡ length d → left ≡ into d o → length d ≤ length o
    → ys ≡ into p (mid_of a (length left - a) left) → put_mid a (length left - a) left ys ≡ into (d ++ p) o
lent a left d p o ys q r h w =
    let tail : drop a left ≡ drop (length d) o = ap₂ drop q r ∙ drop-append_seam d (drop (length d) o) in
    ap₂ (λ (f b : List ℕ). f ++ b) (ap₂ take q r ∙ take-append_seam d (drop (length d) o))
    (ap (λ (b : List ℕ). ys ++ b) (drop_of_length-le (drop a left) {i = length left - a}
    (omega (arith, length-drop a left)))
    ∙ append-nil ys ∙ w ∙ ap (into p) (rest a left ∙ tail))
    ∙ into_twice d p o h

module _ (room : List ℕ) (x : ℕ) (long : length room ≡ most_written) (small : x < 256) where
  pub number_fits : length (decimal x) ≤ length room
  number_fits = omega (arith, at_most 2 x (omega arith), long)

  module _ (left : List ℕ) (r : ℕ) (w : Written x room left r) where
    pub behind-number : (r ≤ 3) × (length left ≡ most_written)
    behind-number = (
      omega (arith, at_most 2 x (omega arith), w.0),
      ap length w.1 ∙ same-room (decimal x) room number_fits ∙ long,
    )

    abbrev spaced : List ℕ
    spaced = set left r 32

    pub place_fits : (y : ℕ) → y < 2 ^ 64 → length (decimal y) ≤ length (mid_of (r + 1) (length spaced - (r + 1)) spaced)
    place_fits y wide =
        omega (
          arith,
          at_most 19 y (omega arith),
          ap length (rest (r + 1) spaced),
          length-drop (r + 1) spaced,
          length-set left r 32,
          behind-number.0,
          behind-number.1,
        )

    pub answered : (input : List ℕ) (v : Verdict) (y place : ℕ) (ys : List ℕ) → room ≡ replicate most_written 0
        → v ≡ inspected input → x ≡ number_of v → y ≡ place_of v
        → Written y (mid_of (r + 1) (length spaced - (r + 1)) spaced) ys place
        → record { count = r + 1 + place; out = put_mid (r + 1) (length spaced - (r + 1)) spaced ys }
        ≡ program_outcome input
    answered input v y place ys zeros asked number named second =
        let d = decimal x ++ (32 ∷ []) in
        let l : length d ≡ length (decimal x) + 1 = length-append (decimal x) (32 ∷ []) in
        let whole : length (d ++ decimal y) ≡ length d + length (decimal y) = length-append d (decimal y) in
        let here : spaced ≡ into d room = ap₂ (λ (o : List ℕ) (k : ℕ). set o k 32) w.1 w.0
        ∙ one_more (decimal x) room 32 (omega (arith, w.0, at_most 2 x (omega arith), long)) in
        let count : r + 1 + place ≡ length (d ++ decimal y) = omega (arith, l, whole, w.0, second.0) in
        let out = lent (r + 1) spaced d (decimal y) room ys (omega (arith, l, w.0)) here
        (omega (arith, l, at_most 2 x (omega arith), long)) second.1 in
        ap₂ (λ (k : ℕ) (o : List ℕ). record { count = k; out = o }) count out
        ∙ ap (λ (o : List ℕ). record { count = length (d ++ decimal y); out = into (d ++ decimal y) o }) zeros
        ∙ ap (λ (t : List ℕ). record { count = length t; out = into t (replicate most_written 0) })
        (append_assoc (decimal x) (32 ∷ []) (decimal y) ∙ ap₂ (λ (i j : ℕ). decimal i ++ (32 ∷ decimal j)) number named
        ∙ ap shown asked)

-- what is to be written stands in the room handed over
pub within : {count : ℕ} {out : List ℕ} (input : List ℕ) → record { count = count; out = out } ≡ program_outcome input
    → count ≤ length out
within input q = subst (λ (o : ProgramOutcome). o.count ≤ length o.out) (sym q)
    (long_enough (written input) (replicate most_written 0))
