-- What is kept in mind stays true: an empty store, one more entry, and what an entry says of a pair of masks. Assumes
-- nothing.
use mathlib.Core.Path.{◌≡◌, refl, sym, ap, ◌∙◌, subst}
use mathlib.Core.Bool.{Bool, true, false, not, ◌&&◌, ◌||◌}
use mathlib.Core.List.{List, [], ◌∷◌}
use Prim.Native.Nat.{ℕ, ◌-◌, ◌^◌, ◌<◌}
use native.Mathlib.Decide.{ℕ_discrete, dec_lt}
use native.Mathlib.Omega.{arith}
use lib.Dec.{eqb}
use lib.Bits.{bit_and, bit_or}
use lib.ListN.{length, get_or, set, replicate, length-set, length-replicate, get_or-replicate}
use lib.Seq.{get_or-set_same, get_or-set_other}
use borrow.Author.Tests.{eqb-true, not-false}
use Rattle.bits.specs.Numbers.{bit}
use Rattle.bits.specs.Sets.{Apart}
use Rattle.bits.proofs.Bools.{clash, and_left}
use Rattle.bits.proofs.Numbers.{bit-zero, bit_high}
use Rattle.bits.proofs.Sums.{bit_not}
use Rattle.bits.proofs.Machine.{bit-and, bit-or}
use Rattle.splits.specs.Columns.{few_columns}
use Rattle.best.specs.Moves.{both}
use Rattle.witness.specs.Witness.{Inside, single, RulesOut}
use Rattle.std.specs.List.{All, swap}
use Rattle.std.proofs.lemmas.List.Elements.{All-contains, All-set, All-get_or}
use Rattle.known.specs.declared.notes.Note.{Note}
use Rattle.known.specs.declared.notes.Notes.{Notes}
use Rattle.known.specs.Notes.{Rules, Learned, Meets, Skips, Needs, of_pair, BadPairs, Adds}
use Rattle.witness.proofs.Members.{power_bit, rules_more}

-- two elements change places
pub all_swap : {X : Type 0} (P : X → Type 0) (xs : List X) (i j : ℕ) → i < length xs → j < length xs → All P xs
    → All P (swap xs i j)
all_swap P [] i j li lj h = h
all_swap P (d ∷ ys) i j li lj h =
    let xs = d ∷ ys in
    All-set P (set xs i (get_or xs j d)) j (get_or xs i d) (All-get_or P xs i d li h)
    (All-set P xs i (get_or xs j d) (All-get_or P xs j d lj h) h)

-- ---- masks
pub and-off : (p q j : ℕ) → bit_and p q ≡ 0 → bit p j ≡ true → bit q j ≡ false
and-off p q j e h = sym (ap (λ (t : Bool). t && bit q j) h) ∙ sym (bit-and p q j) ∙ ap (λ (m : ℕ). bit m j) e
    ∙ bit-zero j

pub and-meets : (p q own both : ℕ) → p < 4294967296 → own < 4294967296 → bit_and p (4294967295 - own) ≡ 0 → bit_and q both
    ≡ 0 → Meets p q own both
and-meets p q own both fits_p fits_own e f = record { inside = inside; outside = λ j. and-off q both j f }
  where
    inside : Inside (bit p) (bit own)
    inside j h = elim (dec_lt j 32) [
      | yes l ↦ not-false (bit own j) (sym (bit_not 32 own j fits_own l) ∙ and-off p (4294967295 - own) j e h)
      | no l ↦ absurd (clash h (bit_high p 32 j fits_p (omega arith)))
    ]

module _ {n : ℕ} {F : ℕ → Bool} {m : ℕ} where
  -- a witness that meets a pair of masks rules it out
  pub meets_fails : (p q own shared : ℕ) → RulesOut n F m (bit p) (bit q) → Meets p q own (bit_or own shared)
      → Apart n (bit own) (bit shared)
      → few_columns n F (bit own) (bit shared) m ≡ false
  meets_fails p q own shared w x apart =
      w.fails (bit own) (bit shared) apart x.inside (λ j e. ap not (sym (bit-or own shared j) ∙ x.outside j e))

  pub skips_fails : (l : Notes) (own shared : ℕ) → Learned n F m l → Skips l own (bit_or own shared)
      → Apart n (bit own) (bit shared)
      → few_columns n F (bit own) (bit shared) m ≡ false
  skips_fails l own shared w s apart = meets_fails s.note.own s.note.free own shared
      (All-contains (Rules n F m) l.list s.note w.each s.kept) s.meets apart

  -- ---- the pairs learned
  pub rules_nothing : RulesOut n F m (bit 1) (bit 1)
  rules_nothing = record {
    fails = λ A B apart own free. absurd
        (clash (free 0 refl) (ap (λ (t : Bool). not (t || B 0)) (own 0 refl)));
  }

  -- a pair that rules out takes the place of one that did
  pub learned_put : (l : Notes) (at kept : ℕ) (note : Note) → Learned n F m l → Rules n F m note
      → Learned n F m (record { list = set l.list at note; kept = kept })
  learned_put l at kept note w r = record { each = All-set (Rules n F m) l.list at note r w.each }

  -- two pairs change places
  pub learned_swap : (l : Notes) (i k : ℕ) → i < length l.list → k < length l.list → Learned n F m l
      → Learned n F m (record { list = swap l.list i k; kept = l.kept })
  learned_swap l i k li lk w = record { each = all_swap (Rules n F m) l.list i k li lk w.each }

  -- ---- the inputs that cannot be free
  pub needs_none : (P : ℕ → Bool) → Needs n F m P 0
  needs_none P c e = absurd (clash e (bit-zero c))

  pub needs_or : (P : ℕ → Bool) (u v : ℕ) → Needs n F m P u → Needs n F m P v → Needs n F m P (bit_or u v)
  needs_or P u v x y c e = go (bit u c) refl (sym (bit-or u v c) ∙ e)
    where
      go : (t : Bool) → bit u c ≡ t → (t || bit v c) ≡ true → RulesOut n F m P (single c)
      go true q f = x c q
      go false q f = y c f

  pub needs_power : (P : ℕ → Bool) (c d : ℕ) → d ≡ 2 ^ c → RulesOut n F m P (single c) → Needs n F m P d
  needs_power P c d q w x e = subst (λ (y : ℕ). RulesOut n F m P (single y))
      (sym (eqb-true x c (sym (ap (λ (m : ℕ). bit m x) q ∙ power_bit c x) ∙ e))) w

  pub pairs-blank : BadPairs n F m (replicate 16 (replicate 16 0))
  pairs-blank = record {
    rows = length-replicate {A = List ℕ} 16 (replicate {A = ℕ} 16 0);
    row = λ i l. ap length (blank i l) ∙ length-replicate {A = ℕ} 16 0;
    each = λ i j li lj. subst (Needs n F m (both i j))
        (sym (ap (λ (row : List ℕ). get_or row j 0) (blank i li) ∙ get_or-replicate 16 j 0 0 lj))
        (needs_none (both i j));
  }
    where
      blank : (i : ℕ) → i < 16 → get_or (replicate 16 (replicate {A = ℕ} 16 0)) i [] ≡ replicate {A = ℕ} 16 0
      blank i l = get_or-replicate 16 i (replicate {A = ℕ} 16 0) [] l

  -- one true mask is put into the table
  pub pairs_more : (l : List (List ℕ)) (i j u : ℕ) → i < 16 → j < 16 → BadPairs n F m l → Needs n F m (both i j) u
      → BadPairs n F m (set l i (set (get_or l i []) j u))
  pairs_more l i j u li lj w x = record {
    rows = length-set l i row ∙ w.rows;
    row = λ k h. elim (ℕ_discrete k i) [
      | yes e ↦ ap (λ (k : ℕ). length (get_or (set l i row) k [])) e ∙ ap length at-row
          ∙ length-set (get_or l i []) j u ∙ w.row i li
      | no e ↦ ap length (get_or-set_other l i k row [] e) ∙ w.row k h
    ];
    each = each;
  }
    where
      row : List ℕ
      row = set (get_or l i []) j u

      at-row : get_or (set l i row) i [] ≡ row
      at-row = get_or-set_same l i row [] (omega (arith, w.rows))

      here : (h : ℕ) → h < 16 → Needs n F m (both i h) (get_or row h 0)
      here h lh = elim (ℕ_discrete h j) [
        | yes e ↦ subst (λ (h : ℕ). Needs n F m (both i h) (get_or row h 0)) (sym e)
            (subst (Needs n F m (both i j)) (sym (get_or-set_same (get_or l i []) j u 0 (omega (arith, w.row i li)))) x)
        | no e ↦ subst (Needs n F m (both i h)) (sym (get_or-set_other (get_or l i []) j h u 0 e)) (w.each i h li lh)
      ]

      each : (k h : ℕ) → k < 16 → h < 16 → Needs n F m (both k h) (of_pair (set l i row) k h)
      each k h lk lh = elim (ℕ_discrete k i) [
        | yes e ↦ subst (λ (k : ℕ). Needs n F m (both k h) (of_pair (set l i row) k h)) (sym e)
            (subst (λ (r : List ℕ). Needs n F m (both i h) (get_or r h 0)) (sym at-row) (here h lh))
        | no e ↦ subst (λ (r : List ℕ). Needs n F m (both k h) (get_or r h 0))
            (sym (get_or-set_other l i k row [] e)) (w.each k h lk lh)
      ]

-- ---- the needed inputs, as an own mask grows
module _ (l : List (List ℕ)) (acc j : ℕ) where
  pub adds_none : (need : ℕ) → Adds l acc j need need
  adds_none need = record { needs = λ n m F P w in-acc has x. x }

  pub adds_both : {need more most : ℕ} → Adds l acc j need more → Adds l acc j more most → Adds l acc j need most
  adds_both x y = record {
    needs = λ n m F P w in-acc has z. y.needs n m F P w in-acc has
        (x.needs n m F P w in-acc has z);
  }

  pub adds_pair : (i need : ℕ) → i < 16 → j < 16 → bit acc i ≡ true
      → Adds l acc j need (bit_or need (of_pair l i j))
  adds_pair i need p q e = record {
    needs = λ n m F P w in-acc has x. needs_or P need (of_pair l i j) x
        (at n m F P w in-acc has);
  }
    where
      at : (n m : ℕ) (F P : ℕ → Bool) → BadPairs n F m l → Inside (bit acc) P → P j ≡ true
          → Needs n F m P (of_pair l i j)
      at n m F P w in-acc has c f = rules_more (w.each i j p q c f) inside (λ x h. h)
        where
          inside : Inside (both i j) P
          inside x h = go (eqb x i) refl h
            where
              go : (t : Bool) → eqb x i ≡ t → (t || eqb x j) ≡ true → P x ≡ true
              go true u v = ap P (eqb-true x i u) ∙ in-acc i e
              go false u v = ap P (eqb-true x j v) ∙ has

-- a part of the needed inputs
pub needs_part : {n : ℕ} {F : ℕ → Bool} {m : ℕ} (P : ℕ → Bool) (need other : ℕ) → Needs n F m P need
    → Needs n F m P (bit_and need other)
needs_part P need other x c e = x c (and_left (bit need c) (bit other c) (sym (bit-and need other c) ∙ e))
