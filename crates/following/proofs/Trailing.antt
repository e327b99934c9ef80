-- Variables that are set, noted, and forgotten. Assumes nothing.
use mathlib.Core.Path.{◌≡◌, refl, sym, ap, ◌∙◌}
use mathlib.Core.Logic.{◌⊎◌, inl, inr, ⊎_elim}
use mathlib.Core.Bool.{Bool, cond}
use mathlib.Core.List.{List}
use Prim.Native.Nat.{ℕ, ◌+◌, ◌*◌, ◌/◌, ◌%◌, ◌<◌, ◌≤◌}
use native.Mathlib.Decide.{ℕ_discrete, dec_lt}
use native.Mathlib.Omega.{arith}
use lib.ListN.{length, set, length-set}
use lib.Seq.{get_or-set_same, get_or-set_other}
use native.Mathlib.Nat.{add-zero}
use borrow.Author.Tests.{eq-eqb, ne_eqb}
use borrow.Rule.Slice.PartMut.{mid_of, put_mid, same_len_mid}
use Rattle.std.specs.Int.{w32, to_le_bytes}
use Rattle.tables.proofs.Placed.{placed-before, placed_in, placed-after}
use Rattle.bits.specs.Lists.{byte_at}
use Rattle.clauses.specs.Step.{four}
use Rattle.following.specs.Values.{made}
use Rattle.following.specs.Standing.{Wrote, InFront, Trailed, Kept}

-- four bytes are those of another list
pub four_same : (l m : List ℕ) (p : ℕ) → ((j : ℕ) → p ≤ j → j < p + 4 → byte_at l j ≡ byte_at m j) → four l p ≡ four m p
unfolding four
four_same l m p h =
    let a = h p (omega arith) (omega arith) in let b = h (p + 1) (omega arith) (omega arith) in
    let d = h (p + 2) (omega arith) (omega arith) in let e = h (p + 3) (omega arith) (omega arith) in
    omega (arith, a, b, d, e)

-- what was written in four bytes
pub wrote : (l m : List ℕ) (p k x : ℕ) → p + k ≤ length l → k ≡ 4 → length m ≡ length (mid_of p k l)
    → x < 4294967296 → m ≡ to_le_bytes w32 x → Wrote l p x (put_mid p k l m)
unfolding four
wrote l m p k x h q n w e =
    let f : length m ≡ k = ap length e ∙ sym q in
    let r = put_mid p k l m in
    let at : (j : ℕ) → j < k → byte_at r (p + j) ≡ byte_at (to_le_bytes w32 x) j
    = λ j d. placed_in p k l m h f j d ∙ ap (λ (i : List ℕ). byte_at i j) e in
    let b0 : byte_at r p ≡ byte_at (to_le_bytes w32 x) 0 = ap (byte_at r) (sym (add-zero p)) ∙ at 0 (omega arith) in
    let b1 = at 1 (omega arith) in let b2 = at 2 (omega arith) in let b3 = at 3 (omega arith) in
    record {
      long = same_len_mid p k l m n;
      is = omega (arith, b0, b1, b2, b3);
      under = placed-before p k l m h f;
      over = λ j d. placed-after p k l m h f j (omega arith);
    }

-- a literal made true and noted
module _ (all from n l : ℕ) (σ : ℕ → ℕ) (before mid : List ℕ) (af : all ≤ from) (la : l / 2 < all)
    (room : from + 4 * n + 4 ≤ length before) (w : Wrote before (from + 4 * n) (l / 2) mid)
    (t : Trailed all from σ n before) where
  abbrev after : List ℕ
  after = set mid (l / 2) (1 + l % 2)

  here : byte_at after (l / 2) ≡ 1 + l % 2
  here = get_or-set_same mid (l / 2) (1 + l % 2) 0 (omega (arith, w.long))

  there : (j : ℕ) → (j ≡ l / 2 → ⊥) → byte_at after j ≡ byte_at mid j
  there j h = get_or-set_other mid (l / 2) j (1 + l % 2) 0 h

  noted : four after (from + 4 * n) ≡ l / 2
  noted = four_same after mid (from + 4 * n) (λ j a b. there j (λ e. omega arith)) ∙ w.is

  earlier : (e : ℕ) → e < n → four after (from + 4 * e) ≡ four before (from + 4 * e)
  earlier e k = four_same after before (from + 4 * e) (λ j a b. there j (λ d. omega arith) ∙ w.under j (omega arith))

  made_here : made σ l (l / 2) ≡ 1 + l % 2
  made_here = ap (λ (b : Bool). cond b (1 + l % 2) (σ (l / 2))) (eq-eqb (l / 2) (l / 2) refl)

  made_there : (v : ℕ) → (v ≡ l / 2 → ⊥) → made σ l v ≡ σ v
  made_there v h = ap (λ (b : Bool). cond b (1 + l % 2) (σ v)) (ne_eqb v (l / 2) h)

  pub making : Trailed all from (made σ l) (n + 1) after × Kept all from before after
  making = (
    record {
      values = λ v k. elim (ℕ_discrete v (l / 2)) [
        | yes e ↦ ap (byte_at after) e ∙ here ∙ sym (ap (made σ l) e ∙ made_here)
        | no e ↦ there v e ∙ w.under v (omega arith) ∙ t.values v k ∙ sym (made_there v e)
      ];
      trail = λ v k. elim (ℕ_discrete v (l / 2)) [
        | yes e ↦ inr (record { at = n; within = omega arith; is = noted ∙ sym e })
        | no e ↦ ⊎_elim (λ z. inl (made_there v e ∙ z)) (λ z. inr (record {
          at = z.at;
          within = omega (arith, z.within);
          is = earlier z.at z.within ∙ z.is;
        })) (t.trail v k)
      ];
      below = λ e k. elim (dec_lt e n) [
        | yes d ↦ omega (arith, earlier e d, t.below e d)
        | no d ↦ (let z : e ≡ n = omega arith in omega (arith, noted, ap (λ (i : ℕ). four after (from + 4 * i)) z))
      ];
    },
    record {
      long = length-set mid (l / 2) (1 + l % 2) ∙ w.long;
      marks = λ j a b. there j (λ e. omega arith) ∙ w.under j (omega arith);
    },
  )

-- what was forgotten of the first e that were noted
pub record Forgotten (from e : ℕ) (before work : List ℕ) : Type 0 where
  pub long : length work ≡ length before
  pub gone : (k : ℕ) → k < e → byte_at work (four before (from + 4 * k)) ≡ 0
  pub other : (j : ℕ) → ((k : ℕ) → k < e → j ≡ four before (from + 4 * k) → ⊥) → byte_at work j ≡ byte_at before j
  pub less : (j : ℕ) → (byte_at work j ≡ byte_at before j) ⊎ (byte_at work j ≡ 0)

module _ (from n e : ℕ) (before work : List ℕ) (room : from + 4 * n ≤ length before) (en : e < n)
    (front : InFront from n before) (f : Forgotten from e before work) where
  -- what is noted still stands there
  pub stands : four work (from + 4 * e) ≡ four before (from + 4 * e)
  stands = four_same work before (from + 4 * e) (λ j a b. f.other j (λ k l d. omega (arith, front k (omega arith))))

  pub in_room : four work (from + 4 * e) < length work
  in_room = omega (arith, stands, front e en, f.long)

  pub forgot_more : {v : ℕ} → v ≡ four work (from + 4 * e) → Forgotten from (e + 1) before (set work v 0)
  forgot_more {v} p =
      let q : v ≡ four before (from + 4 * e) = p ∙ stands in
      let r : v < length work = omega (arith, p, in_room) in record {
        long = length-set work v 0 ∙ f.long;
        gone = λ k h. elim (ℕ_discrete (four before (from + 4 * k)) v) [
          | yes d ↦ ap (byte_at (set work v 0)) d ∙ get_or-set_same work v 0 0 r
          | no d ↦ get_or-set_other work v (four before (from + 4 * k)) 0 0 d
              ∙ f.gone k (elim (ℕ_discrete k e) [
                | yes z ↦ absurd (d (ap (λ (i : ℕ). four before (from + 4 * i)) z ∙ sym q))
                | no z ↦ omega arith
              ])
        ];
        other = λ j h. get_or-set_other work v j 0 0 (λ d. h e (omega arith) (d ∙ q))
            ∙ f.other j (λ k l. h k (omega arith));
        less = λ j. elim (ℕ_discrete j v) [
          | yes d ↦ inr (ap (byte_at (set work v 0)) d ∙ get_or-set_same work v 0 0 r)
          | no d ↦ ⊎_elim (λ z. inl (get_or-set_other work v j 0 0 d ∙ z)) (λ z. inr (get_or-set_other work v j 0 0 d ∙ z))
              (f.less j)
        ];
      }
