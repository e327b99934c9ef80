-- Find's masks are what make's first cell reads; and a constant's one cell reads signal 0. Assumes nothing.
use mathlib.Core.Path.{◌≡◌, refl, sym, ap, ap₂, ◌∙◌, subst, subst₂}
use mathlib.Core.Bool.{Bool, true, false, cond, ◌||◌}
use mathlib.Core.List.{List, [], ◌∷◌}
use Prim.Native.Nat.{ℕ, ◌^◌, ◌<◌, ◌≤◌}
use native.Mathlib.Omega.{arith}
use lib.ListN.{length, get_or}
use lib.Pow.{pow_pos}
use Rattle.bits.specs.Numbers.{bit, number}
use Rattle.bits.specs.Sets.{size, spread}
use Rattle.bits.proofs.Numbers.{number_ext}
use Rattle.bits.proofs.Sizes.{size-lt}
use Rattle.bits.proofs.Spreading.{spread-lt, bit-spread_in}
use Rattle.bits.proofs.Members.{spread_inside}
use Rattle.tables.specs.Counting.{support, kept, table_over}
use Rattle.tables.proofs.Depending.{support_sees}
use Rattle.tables.proofs.Keeping.{some_kept, none_kept, kept_some, kept_most}
use Rattle.splits.specs.Split.{reads_d}
use Rattle.best.specs.Search.{Answer, none, split, best}
use Rattle.best.specs.Counting.{spread_answer, best_counting}
use Rattle.best.proofs.Best.{best_answer}
use Rattle.sheets.specs.Network.{Cell}
use Rattle.chains.specs.Chain.{pick, last_cell, made, inputs}
use Rattle.chains.specs.Aside.{sheet_aside}
use Rattle.chains.specs.Words.{Makes, ends, goes}
use Rattle.chains.proofs.Lists.{pick-length, inputs_at}
use Rattle.chains.proofs.Picked.{pick_at, pick-pick}
use Rattle.chains.proofs.Aside.{sheet_made}

-- ---- find and make

-- the first cell of a chain over more than K signals reads what the best split of its table names
chain_first : {K i : ℕ} {l : List ℕ} {T : ℕ} {c : Cell} {cs : List Cell} → Makes K i l T (c ∷ cs) → K < length l
    → (A B : ℕ)
    → best (length l) 1 (bit T) K ≡ split A B
    → c.signals ≡ pick (length l) (reads_d (bit A) (bit B)) l
chain_first (ends h) g A B e = absurd (omega arith)
chain_first {K} (goes {l = l} {T = T} {A = A'} {B = B'} h b rest) g A B e =
    let q = best_answer (length l) 1 (bit T) K A' B' b in
    let a : A' ≡ A = cc in
    let d : B' ≡ B = cc in
    ap₂ (λ (x y : ℕ). pick (length l) (reads_d (bit x) (bit y)) l) a d

-- where more than K inputs count and both answer, find's masks are the inputs that make's first cell reads
pub first_reads_lem : (n K : ℕ) (F : ℕ → Bool) (A B : ℕ) (c : Cell) (cs : List Cell) → 1 ≤ n → 1 ≤ K → K
    < size n (bit (support n F))
    → sheet_aside n K (number (2 ^ n) F) ≡ made (c ∷ cs) → best_counting n 1 F K ≡ split A B → c.signals
    ≡ pick n (reads_d (bit A) (bit B)) (inputs n)
unfolding best_counting
first_reads_lem n K F A B c cs p q h e f = go (best (size n S) 1 (bit U) K) refl
  where
    S : ℕ → Bool
    S = bit (support n F)

    U : ℕ
    U = table_over n (bit (support n F)) F

    l : List ℕ
    l = pick n (bit (support n F)) (inputs n)

    makes : Makes K n (pick n (bit (support n F)) (inputs n)) (table_over n (bit (support n F)) F) (c ∷ cs)
    makes = subst (λ (m : ℕ). Makes K n (pick n (bit m) (inputs n)) (table_over n (bit m) F) (c ∷ cs))
        (some_kept n F (omega arith))
        ((sheet_made n K F p q (c ∷ cs)).0 e)

    size_is : length (pick n (bit (support n F)) (inputs n)) ≡ size n (bit (support n F))
    size_is = pick-length n S (inputs n)

    once : (A B : ℕ) → pick (length l) (reads_d (bit A) (bit B)) l
        ≡ pick n (reads_d (bit (spread n S A)) (bit (spread n S B))) (inputs n)
    once A B =
        ap (λ (m : ℕ). pick m (reads_d (bit A) (bit B)) l) size_is
        ∙ pick-pick n S (reads_d (bit (spread n S A)) (bit (spread n S B))) (reads_d (bit A) (bit B)) (inputs n)
        (λ j h e. ap₂ (λ (a b : Bool). a || b) (bit-spread_in n S A j h e) (bit-spread_in n S B j h e))
        (λ j h e. inside j h (bit (spread n S A) j) refl e)
      where
        inside : (j : ℕ) → j < n → (t : Bool) → bit (spread n S A) j ≡ t → (t || bit (spread n S B) j) ≡ true → S j
            ≡ true
        inside j h true p e = spread_inside n S A j h p
        inside j h false p e = spread_inside n S B j h e

    go : (a : Answer) → best (size n S) 1 (bit U) K ≡ a → c.signals ≡ pick n (reads_d (bit A) (bit B)) (inputs n)
    go none r = let z : ◌≡◌ {A = ℕ} 0 1 = cc in absurd (omega arith)
    go (split A' B') r =
        let o : split (spread n S A') (spread n S B') ≡ split A B = sym (ap (spread_answer n S) r) ∙ f in
        let a : spread n S A' ≡ A = cc in
        let b : spread n S B' ≡ B = cc in
        let more : K < length l = omega (arith, size_is) in
        chain_first makes more A' B' (ap (λ (m : ℕ). best m 1 (bit U) K) size_is ∙ r) ∙ once A' B'
        ∙ ap₂ (λ (x y : ℕ). pick n (reads_d (bit x) (bit y)) (inputs n)) a b

-- ---- a constant: one cell that reads signal 0, with table 0 or 3
pub sheet_constant : (n K : ℕ) (F : ℕ → Bool) → 1 ≤ n → 1 ≤ K → size n (bit (support n F)) ≡ 0
    → sheet_aside n K (number (2 ^ n) F) ≡ made (last_cell (0 ∷ []) (cond (F 0) 3 0) ∷ [])
unfolding size table_over number
sheet_constant n K F p q flatly =
    (sheet_made n K F p q (last_cell (0 ∷ []) (cond (F 0) 3 0) ∷ [])).1
    (subst₂ (λ (l : List ℕ) (U : ℕ). Makes K n (pick n S (inputs n)) (table_over n S F) (last_cell l U ∷ [])) signals
    table (ends few))
  where
    S : ℕ → Bool
    S = bit (kept n F)

    size_is : length (pick n (bit (kept n F)) (inputs n)) ≡ size n (bit (kept n F))
    size_is = pick-length n S (inputs n)

    one : size n (bit (kept n F)) ≡ 1
    one = omega (arith, kept_some n F p, kept_most n F)

    few : length (pick n (bit (kept n F)) (inputs n)) ≤ K
    few = omega (arith, size_is, one)

    single : (l : List ℕ) → length l ≡ 1 → get_or l 0 0 ≡ 0 → l ≡ 0 ∷ []
    single [] e f = absurd (omega arith)
    single (x ∷ []) e f = ap (λ (y : ℕ). y ∷ []) f
    single (x ∷ y ∷ l) e f = absurd (omega arith)

    signals : pick n (bit (kept n F)) (inputs n) ≡ 0 ∷ []
    signals = single (pick n (bit (kept n F)) (inputs n)) (size_is ∙ one)
        (pick_at n S (inputs n) 0 p (ap (λ (m : ℕ). bit m 0) (none_kept n F flatly)) ∙ inputs_at n 0 p)

    -- the table is the same everywhere
    flat : (v : ℕ) → F (spread n (bit (kept n F)) v) ≡ F 0
    flat v = support_sees n F (spread n S v) 0 (spread-lt n S v) (pow_pos n)
        (λ j l e. absurd (omega (arith, size-lt n (bit (support n F)) j l e)))

    both : (t : Bool) → number 2 (λ v. t) ≡ cond t 3 0
    both true = refl
    both false = refl

    table : table_over n (bit (kept n F)) F ≡ cond (F 0) 3 0
    table = ap (λ (c : ℕ). number (2 ^ c) (λ v. F (spread n S v))) one
        ∙ number_ext 2 (λ v. F (spread n S v)) (λ v. F 0) (λ v _. flat v) ∙ both (F 0)
