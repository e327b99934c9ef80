-- Sheets made with cells of two inputs: a cell of two signals depends on both, and each signal is read at most once.
-- Assumes nothing.
use mathlib.Core.Path.{◌≡◌, refl, sym, ap, ap₂, ◌∙◌, subst}
use mathlib.Core.Logic.{⊎_elim}
use mathlib.Core.Bool.{Bool, true, false, cond}
use mathlib.Core.List.{List, [], ◌∷◌, ◌++◌}
use Prim.Native.Nat.{ℕ, zero, suc, ◌+◌, ◌*◌, ◌/◌, ◌%◌, ◌^◌, ◌<◌, ◌≤◌}
use native.Mathlib.Omega.{arith}
use native.Mathlib.Decide.{dec_lt}
use lib.Dec.{eqb}
use lib.ListN.{length, get_or, take}
use lib.Seq.{take-suc, take-length}
use borrow.Author.Tests.{eq-eqb, ne_eqb}
use Rattle.bits.specs.Numbers.{bit, val}
use Rattle.bits.specs.Sets.{Agree, size, gather}
use Rattle.bits.proofs.Numbers.{val-bit, bit-number}
use Rattle.bits.proofs.Spreading.{gather-lt, gather_ext}
use Rattle.bits.proofs.Members.{Place, place, gather-place}
use Rattle.tables.specs.Depends.{DependsOn}
use Rattle.tables.specs.Counting.{AllCount}
use Rattle.splits.specs.Split.{reads_d, reads_h, Possible}
use Rattle.splits.specs.Pair.{code_at, table_d, bit_h}
use Rattle.splits.proofs.Few.{column_there, code_at_gather, pair_gives}
use Rattle.splits.proofs.Possible.{possible_few}
use Rattle.best.specs.Best.{Candidate}
use Rattle.best.proofs.Next.{next-counts}
use Rattle.sheets.specs.Network.{Cell}
use Rattle.sheets.specs.Reading.{times, reads}
use Rattle.chains.specs.Chain.{pick, first_cell, next_signals, next_table}
use Rattle.chains.specs.Words.{Makes, ends, goes}
use Rattle.chains.proofs.Lists.{AllBelow, pick-length}
use Rattle.chains.proofs.Right.{first_count}
use Rattle.chains.proofs.One.{next-inputs, next_below}
use Rattle.trees.proofs.Pairs.{pair_of, not_a, not_b}
use Rattle.printing.proofs.Lengths.{times_none}

-- ---- the first cell depends on both of its inputs

module _ (n : ℕ) (F : ℕ → Bool) (A B : ℕ) (c : Candidate n 2 1 A B) (Q : Possible n F (bit A) (bit B) 1) where
  abbrev s_d : ℕ → Bool
  s_d = reads_d (bit A) (bit B)

  abbrev D : ℕ
  D = table_d n F (bit A) (bit B) 0

  abbrev code : ℕ → ℕ
  code x = code_at n F (bit A) (bit B) (gather n (reads_d (bit A) (bit B)) x)

  -- one bit, which is D's
  code_is : (x : ℕ) → code x ≡ val (bit D (gather n s_d x))
  unfolding table_d
  code_is x =
      let small : code x < 2 = omega (
        arith,
        code_at_gather n F (bit A) (bit B) x,
        column_there n F (bit A) (bit B) (gather n (bit B) x) (gather n (bit A) x) (gather-lt n (bit A) x),
        possible_few n F (bit A) (bit B) c.apart 1 Q (gather n (bit B) x),
      ) in
      let whole : code x ≡ code x / 2 ^ 0 % 2 = omega (arith, small) in
      whole ∙ sym (val-bit (code x) 0)
      ∙ ap val (sym (bit-number (2 ^ size n s_d) (λ v. bit (code_at n F (bit A) (bit B) v) 0) (gather n s_d x)
      (gather-lt n s_d x)))

  own_counts : AllCount n F → (j : ℕ) → j < size n s_d → DependsOn (size n s_d) (bit D) j
  own_counts all j h = go (place n s_d j h)
    where
      go : Place n s_d j → DependsOn (size n s_d) (bit D) j
      go w = from (all w.at w.below)
        where
          from : DependsOn n F w.at → DependsOn (size n s_d) (bit D) j
          from d = record {
            x = gather n s_d d.x;
            y = gather n s_d d.y;
            below_x = gather-lt n s_d d.x;
            below_y = gather-lt n s_d d.y;
            alike = λ i l ne. let v = place n s_d i l in
                gather-place n s_d d.x i v
                ∙ d.alike v.at v.below (λ e. ne (sym v.rank ∙ ap (λ (q : ℕ). size q s_d) e ∙ w.rank))
                ∙ sym (gather-place n s_d d.y i v);
            differ = λ e. d.differ (same (code_is d.x ∙ ap val e ∙ sym (code_is d.y)));
          }
            where
              agree : Agree n (reads_h (bit A) (bit B)) d.x d.y
              agree p l e = d.alike p l (λ q. ⊎_elim (λ r. not_a n F A B c Q p e (q ∙ r))
                  (λ r. not_b n F A B c Q p e (q ∙ r)) ((pair_of n A B c).only w.at w.below w.member))

              same : code d.x ≡ code d.y → F d.x ≡ F d.y
              same e =
                  let k = size n (reads_h (bit A) (bit B)) in
                  pair_gives n F (bit A) (bit B) d.x d.below_x
                  ∙ ap₂ (λ (g i : ℕ). bit_h n F (bit A) (bit B) (g + i * 2 ^ k))
                  (gather_ext n (reads_h (bit A) (bit B)) d.x d.y agree) e
                  ∙ sym (pair_gives n F (bit A) (bit B) d.y d.below_y)

-- ---- each cell of two signals does

abbrev pub Both : Cell → Type 0
Both c = length c.signals ≡ 2 → (j : ℕ) → j < 2 → DependsOn 2 (bit c.table) j

abbrev pub AllBoth : List Cell → Type 0
AllBoth [] = Unit {0}
AllBoth (c ∷ cs) = Both c × AllBoth cs

pub makes_both : {i : ℕ} {l : List ℕ} {T : ℕ} {cs : List Cell} → Makes 2 i l T cs
    → (2 ≤ length l → AllCount (length l) (bit T)) → AllBoth cs
makes_both (ends {l = l} {T = T} h) all =
    (λ q j g. subst (λ (m : ℕ). DependsOn m (bit T) j) q (all (omega arith) j (omega arith)), tt)
makes_both (goes {i = i} {l = l} {T = T} {A = A} {B = B} h b m) all =
    let every = all (omega arith) in
    let two : size (length l) (reads_d (bit A) (bit B)) ≡ 2 =
    omega (
      arith,
      first_count l b.candidate,
      pick-length (length l) (reads_d (bit A) (bit B)) l,
      b.candidate.more,
      b.candidate.most,
    ) in (
      λ q j g. subst (λ (k : ℕ). DependsOn k (bit (table_d (length l) (bit T) (bit A) (bit B) 0)) j) two
          (own_counts (length l) (bit T) A B b.candidate b.possible every j (omega arith)),
      makes_both m (λ _. subst (λ (k : ℕ). AllCount k (bit (next_table l T A B))) (sym (next-inputs l A B i))
          (next-counts (length l) 2 (bit T) A B b every)),
    )

-- ---- each signal is read at most once

pub times_snoc : (x : ℕ) (l : List ℕ) (a : ℕ) → times x (l ++ (a ∷ [])) ≡ times x l + val (eqb x a)
times_snoc x [] a = omega arith
times_snoc x (b ∷ l) a = omega (arith, times_snoc x l a)

module _ (s t : ℕ → Bool) (l : List ℕ) (x : ℕ) where
  -- what two sets without a common member pick is among the whole
  picked : (n : ℕ) → n ≤ length l → ((j : ℕ) → j < n → s j ≡ true → t j ≡ true → ⊥) → times x (pick n s l)
      + times x (pick n t l) ≤ times x (take n l)
  unfolding pick
  picked zero h apart = omega arith
  picked (suc n) h apart =
      let a = get_or l n 0 in
      omega (
        arith,
        go (s n) (t n) (apart n (omega arith)),
        picked n (omega arith) (λ j g. apart j (omega arith)),
        ap (times x) (take-suc l n 0 (omega arith)),
        times_snoc x (take n l) a,
      )
    where
      go : (p q : Bool) → (p ≡ true → q ≡ true → ⊥) → times x (cond p (pick n s l ++ (get_or l n 0 ∷ [])) (pick n s l))
          + times x (cond q (pick n t l ++ (get_or l n 0 ∷ [])) (pick n t l))
          ≤ times x (pick n s l) + times x (pick n t l) + val (eqb x (get_or l n 0))
      go true true f = absurd (f refl refl)
      go true false f = omega (arith, times_snoc x (pick n s l) (get_or l n 0))
      go false true f = omega (arith, times_snoc x (pick n t l) (get_or l n 0))
      go false false f = omega arith

pub record ReadOnce (i : ℕ) (l : List ℕ) (cs : List Cell) (x : ℕ) : Type 0 where
  -- a signal of the list as often as it stands there, a cell at most once
  pub listed : x < i → reads x cs ≤ times x l
  pub given : i ≤ x → reads x cs ≤ 1

pub makes_once : {i : ℕ} {l : List ℕ} {T : ℕ} {cs : List Cell} → Makes 2 i l T cs → AllBelow i l → (x : ℕ)
    → ReadOnce i l cs x
makes_once (ends {i = i} {l = l} {T = T} h) low x = record
    { listed = λ g. omega arith; given = λ g. omega (arith, times_none l i x low g) }
makes_once (goes {i = i} {l = l} {T = T} {A = A} {B = B} {cs = cs} h b m) low x =
    step (makes_once m (next_below A B i l low) x)
  where
    apart : (j : ℕ) → j < length l → reads_d (bit A) (bit B) j ≡ true → reads_h (bit A) (bit B) j ≡ true → ⊥
    apart j g d e =
        ⊎_elim (λ r. not_a (length l) (bit T) A B b.candidate b.possible j e r)
        (λ r. not_b (length l) (bit T) A B b.candidate b.possible j e r)
        ((pair_of (length l) A B b.candidate).only j g d)

    among : times x (pick (length l) (reads_d (bit A) (bit B)) l) + times x (pick (length l) (reads_h (bit A) (bit B)) l)
        ≤ times x l
    among = omega (
      arith,
      picked (reads_d (bit A) (bit B)) (reads_h (bit A) (bit B)) l x (length l) (omega arith) apart,
      ap (times x) (take-length l),
    )

    next : times x (next_signals l A B i) ≡ times x (pick (length l) (reads_h (bit A) (bit B)) l) + val (eqb x i)
    next = times_snoc x (pick (length l) (reads_h (bit A) (bit B)) l) i

    step : ReadOnce (suc i) (next_signals l A B i) cs x → ReadOnce i l (first_cell l T A B ∷ cs) x
    step r = record {
      listed = λ g. omega (arith, r.listed (omega arith), next, among, ap val (ne_eqb x i (λ q. omega arith)));
      given = λ g. elim (dec_lt i x) [
        | yes k ↦ omega (arith, r.given k, among, times_none l i x low g)
        | no k ↦ let q : x ≡ i = omega arith in omega
            (arith, r.listed (omega arith), next, among, times_none l i x low g, ap val (eq-eqb x i q))
      ];
    }
