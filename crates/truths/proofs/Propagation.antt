-- What follows from true clauses is true: were a step's literals all false, each variable that is set on the way would
-- be set as it is, and there would be no conflict. Assumes nothing.
use mathlib.Core.Path.{◌≡◌, refl, sym, ap, ap₂, ◌∙◌, subst}
use mathlib.Core.Bool.{Bool, true, false, cond, not, ◌||◌, or-false, or_assoc}
use mathlib.Core.List.{List, [], ◌∷◌, ◌++◌}
use Prim.Native.Nat.{ℕ, zero, suc, ◌+◌, ◌-◌, ◌/◌, ◌%◌, ◌<◌}
use native.Mathlib.Decide.{dec_lt}
use native.Mathlib.Omega.{arith}
use lib.Dec.{eqb}
use borrow.Author.Tests.{eqb-true}
use Rattle.bits.specs.Numbers.{flipped}
use Rattle.bits.specs.Lists.{list_of}
use Rattle.bits.proofs.Bools.{clash, or-none}
use Rattle.clauses.specs.Clause.{Question}
use Rattle.clauses.specs.Step.{literals_at, literal_at, hints_at, hint_at, clause_at}
use Rattle.following.specs.declared.open.Open.{Open}
use Rattle.following.specs.declared.open.Open.TheVariants.{Nothing, One, Several}
use Rattle.following.specs.Values.{is_true, is_false, is_open, opposite, made, one_more, seen, open_after, open_in}
use Rattle.following.specs.Following.{Following, conflict, going, denying, by_open, hinting, denied, used, is_conflict}
use Rattle.following.specs.Following.{follows}
use Rattle.truths.specs.Meaning.{says, some_true}

-- the opposite literal
opposite-half : (l : ℕ) → opposite l / 2 ≡ l / 2
opposite-half l = omega arith

opposite-rest : (l : ℕ) → opposite l % 2 ≡ 1 - l % 2
opposite-rest l = omega arith

-- ---- lists of literals
module _ (τ : ℕ → Bool) where
  some_append : (ls ks : List ℕ) → some_true τ (ls ++ ks) ≡ (some_true τ ls || some_true τ ks)
  some_append [] ks = refl
  some_append (l ∷ ls) ks = ap (λ (t : Bool). says τ l || t) (some_append ls ks)
      ∙ sym (or_assoc (says τ l) (some_true τ ls) (some_true τ ks))

  -- where none of them is true, each is false
  none_true : (n : ℕ) (f : ℕ → ℕ) → some_true τ (list_of n f) ≡ false → (j : ℕ) → j < n → says τ (f j) ≡ false
  unfolding list_of
  none_true zero f e j l = absurd (omega arith)
  none_true (suc n) f e j l =
      let (a, b) = or-none (some_true τ (list_of n f)) (says τ (f n) || false)
      (sym (some_append (list_of n f) (f n ∷ [])) ∙ e) in
      elim (dec_lt j n) [
        | yes g ↦ none_true n f a j g
        | no g ↦ let k : j ≡ n = omega arith in ap (λ (i : ℕ). says τ (f i)) k ∙ sym (or-false (says τ (f n))) ∙ b
      ]

module _ (τ : ℕ → Bool) where
  says-opposite : (l : ℕ) → says τ (opposite l) ≡ not (says τ l)
  says-opposite l =
      ap₂ (λ (r d : ℕ). flipped (eqb r 1) (τ d)) (opposite-rest l) (opposite-half l)
      ∙ go (l % 2) (omega arith) (τ (l / 2))
    where
      go : (r : ℕ) → r < 2 → (t : Bool) → flipped (eqb (1 - r) 1) t ≡ not (flipped (eqb r 1) t)
      go zero h t = refl
      go (suc zero) h true = refl
      go (suc zero) h false = refl
      go (suc (suc r)) h t = absurd (omega arith)

  -- what is set is true
  abbrev Agrees : (ℕ → ℕ) → Type 0
  Agrees σ = (l : ℕ) → is_true σ l ≡ true → says τ l ≡ true

  false_says : (σ : ℕ → ℕ) → Agrees σ → (l : ℕ) → is_false σ l ≡ true → says τ l ≡ false
  false_says σ ok l e = flip (says τ l) (sym (says-opposite l) ∙ ok (opposite l) (turned (l % 2) (omega arith) ∙ e))
    where
      flip : (t : Bool) → not t ≡ true → t ≡ false
      flip true e = sym e
      flip false e = refl

      turned : (r : ℕ) → r < 2 → is_true σ (opposite l) ≡ is_false σ l
      turned r h =
          let q : 1 + (1 - l % 2) ≡ 2 - l % 2 = omega arith in
          ap₂ (λ (d r : ℕ). eqb (σ d) (1 + r)) (opposite-half l) (opposite-rest l) ∙ ap (eqb (σ (l / 2))) q

  made-agrees : (σ : ℕ → ℕ) (l : ℕ) → says τ l ≡ true → Agrees σ → Agrees (made σ l)
  made-agrees σ l t ok k = go (eqb (k / 2) (l / 2)) refl
    where
      go : (b : Bool) → eqb (k / 2) (l / 2) ≡ b → eqb (cond b (1 + l % 2) (σ (k / 2))) (1 + k % 2) ≡ true
          → says τ k ≡ true
      go true e q =
          let r : k % 2 ≡ l % 2 = omega (arith, eqb-true (1 + l % 2) (1 + k % 2) q) in
          ap₂ (λ (r d : ℕ). flipped (eqb r 1) (τ d)) r (eqb-true (k / 2) (l / 2) e) ∙ t
      go false e q = ok k q

  -- ---- a clause that is looked through

  -- of literals one of which is true just if b: what is open of them tells it
  abbrev Tells : Open → Bool → Type 0
  Tells Nothing b = b ≡ false
  Tells (One l) b = b ≡ says τ l
  Tells Several b = Unit {0}

  module _ (σ : ℕ → ℕ) (ok : Agrees σ) where
    tells_seen : (l : ℕ) (o : Open) (b : Bool) → Tells o b → Tells (seen σ l o) (b || says τ l)
    tells_seen l o b t = go (is_false σ l) refl o t
      where
        more : (o : Open) → Tells o b → Tells (one_more l o) (b || says τ l)
        more Nothing t = ap (λ (b : Bool). b || says τ l) t
        more (One k) t = tt
        more Several t = tt

        go : (f : Bool) → is_false σ l ≡ f → (o : Open) → Tells o b → Tells (cond f o (one_more l o)) (b || says τ l)
        go true e o t = subst (Tells o) (sym (ap (λ (c : Bool). b || c) (false_says σ ok l e) ∙ or-false b)) t
        go false e o t = more o t

    tells_after : (ls : List ℕ) (o : Open) (b : Bool) → Tells o b → Tells (open_after σ o ls) (b || some_true τ ls)
    unfolding open_after
    tells_after [] o b t = subst (Tells o) (sym (or-false b)) t
    tells_after (l ∷ ls) o b t =
        subst (Tells (open_after σ (seen σ l o) ls)) (or_assoc b (says τ l) (some_true τ ls))
        (tells_after ls (seen σ l o) (b || says τ l) (tells_seen l o b t))

  -- ---- how far it has come: no conflict, and what is set is true
  abbrev Sound : Following → Type 0
  Sound conflict = ⊥
  Sound (going σ) = Agrees σ

  denying_sound : (l : ℕ) (f : Following) → says τ l ≡ false → Sound f → Sound (denying l f)
  denying_sound l conflict e s = s
  denying_sound l (going σ) e s = go (is_true σ l) (is_false σ l) refl
    where
      go : (t u : Bool) → is_true σ l ≡ t → Sound (cond t conflict (cond u (going σ) (going (made σ (opposite l)))))
      go true u q = clash (s l q) e
      go false true q = s
      go false false q = made-agrees σ (opposite l) (says-opposite l ∙ ap not e) s

  hinting_sound : (ls : List ℕ) (f : Following) → some_true τ ls ≡ true → Sound f → Sound (hinting ls f)
  hinting_sound ls conflict e s = s
  hinting_sound ls (going σ) e s = go (open_in σ ls) (tells_after σ s ls Nothing false refl)
    where
      go : (o : Open) → Tells o (some_true τ ls) → Sound (by_open σ o)
      go Nothing t = clash e t
      go (One l) t = set (is_open σ l)
        where
          set : (b : Bool) → Sound (cond b (going (made σ l)) (going σ))
          set true = made-agrees σ l (sym t ∙ e) s
          set false = s
      go Several t = s

  denied_sound : (literal : ℕ → ℕ) (k : ℕ) → ((j : ℕ) → j < k → says τ (literal j) ≡ false) → Sound (denied literal k)
  unfolding denied
  denied_sound literal zero h = λ l e. absurd (omega (arith, eqb-true 0 (1 + l % 2) e))
  denied_sound literal (suc k) h =
      denying_sound (literal k) (denied literal k) (h k (omega arith))
      (denied_sound literal k (λ j l. h j (omega arith)))

  used_sound : (hinted : ℕ → List ℕ) (f : Following) (k : ℕ) → ((j : ℕ) → j < k → some_true τ (hinted j) ≡ true)
      → Sound f → Sound (used hinted f k)
  unfolding used
  used_sound hinted f zero h s = s
  used_sound hinted f (suc k) h s =
      hinting_sound (hinted k) (used hinted f k) (h k (omega arith))
      (used_sound hinted f k (λ j l. h j (omega arith)) s)

  no_conflict : (f : Following) → Sound f → is_conflict f ≡ true → ⊥
  no_conflict conflict s e = s
  no_conflict (going σ) s e = clash e refl

  -- ---- so a step that follows is true
  pub follows_true : (q : Question) (c : List ℕ) (at : ℕ)
      → ((k : ℕ) → k < hints_at c at → some_true τ (clause_at q c (hint_at c at k)) ≡ true) → follows q c at ≡ true
      → some_true τ (list_of (literals_at c at) (literal_at c at)) ≡ true
  unfolding follows
  follows_true q c at hints e = go (some_true τ (list_of (literals_at c at) (literal_at c at))) refl
    where
      go : (t : Bool) → some_true τ (list_of (literals_at c at) (literal_at c at)) ≡ t → t ≡ true
      go true r = refl
      go false r =
          let hinted : ℕ → List ℕ = λ k. clause_at q c (hint_at c at k) in
          let start = denied (literal_at c at) (literals_at c at) in
          absurd (no_conflict (used hinted start (hints_at c at)) (used_sound hinted start (hints_at c at) hints
          (denied_sound (literal_at c at) (literals_at c at) (none_true τ (literals_at c at) (literal_at c at) r))) e)
