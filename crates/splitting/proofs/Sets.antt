-- Line 5 as the code asks it, and what it lets through; what the lines before 8 refuse. Assumes nothing.
use Rattle.std.proofs.Common.{Result, Err}
use mathlib.Core.Path.{◌≡◌, refl, sym, ap, ◌∙◌, subst}
use mathlib.Core.Bool.{Bool, true, false, not, cond, ◌&&◌}
use mathlib.Core.List.{List, ◌++◌}
use Prim.Native.Nat.{ℕ, ◌+◌, ◌-◌, ◌^◌, ◌<◌, ◌≤◌}
use native.Mathlib.Nat.{le_trans}
use native.Mathlib.Omega.{arith}
use lib.Dec.{leb, ltb}
use lib.ListN.{length}
use borrow.Author.Tests.{le-leb, lt-leb, leb-false, ltb-false, not-false, ne_eqb}
use Rattle.bits.specs.Numbers.{bit}
use Rattle.bits.specs.Sets.{disjoint, size}
use Rattle.bits.proofs.Bools.{or-none}
use Rattle.bits.proofs.Disjoint.{disjoint-apart}
use Rattle.tables.specs.Table.{table_length, table_bit}
use Rattle.splits.specs.Columns.{most_first, columns}
use Rattle.splits.specs.Pair.{inputs_h}
use Rattle.splits.proofs.Respect.{inputs-H}
use Rattle.charts.specs.Cells.{no_cells}
use Rattle.best.specs.Best.{Candidate}
use Rattle.refusals.specs.Verdicts.{Refused}
use Rattle.refusals.specs.declared.verdicts.Refusal.{Refusal as Why}
use Rattle.refusals.specs.declared.verdicts.Refusal.TheVariants.{Broken}
use Rattle.refusals.specs.Results.{refusal_of, verdict_of, columns_of}
use Rattle.refusals.specs.Lines.{Line, verdict, reply}
use Rattle.refusals.specs.Refusals.{bad_sets}
use Rattle.refusals.proofs.Lines.{others, another, refused_by}
use Rattle.refusals.proofs.Tests.{inside}
use Rattle.refusals.proofs.Results.{said_err}
use Rattle.splitting.specs.TrySplit.{TryOutcome, try_not, try_answer}

module _ (n K r A B : ℕ) where
  pub bad-first : not (leb 1 r && leb r most_first) ≡ true → (bad_sets n K r A B).holds ≡ true
  bad-first h = rw h

  module _ (f : not (leb 1 r && leb r most_first) ≡ false) where
    pub high_own : 2 ^ n ≤ A → (bad_sets n K r A B).holds ≡ true
    high_own h = rw (f, le-leb (2 ^ n) A h)

    module _ (a : A < 2 ^ n) where
      pub high_shared : 2 ^ n ≤ B → (bad_sets n K r A B).holds ≡ true
      high_shared h = rw (f, lt-leb (2 ^ n) A a, le-leb (2 ^ n) B h)

      module _ (b : B < 2 ^ n) where
        pub overlap : disjoint n (bit A) (bit B) ≡ false → (bad_sets n K r A B).holds ≡ true
        overlap h = rw (f, lt-leb (2 ^ n) A a, lt-leb (2 ^ n) B b, h)

        pub few_own : disjoint n (bit A) (bit B) ≡ true → size n (bit A) ≤ r → (bad_sets n K r A B).holds ≡ true
        few_own d h = rw (f, lt-leb (2 ^ n) A a, lt-leb (2 ^ n) B b, d, le-leb (size n (bit A)) r h)

        pub by_sizes : disjoint n (bit A) (bit B) ≡ true → r < size n (bit A)
            → (bad_sets n K r A B).holds ≡ ltb K (size n (bit A) + size n (bit B))
        by_sizes d h = rw (f, lt-leb (2 ^ n) A a, lt-leb (2 ^ n) B b, d, lt-leb (size n (bit A)) r h)

  -- line 5 lets candidates through, for any larger cell too, with at most 3 first cells
  module _ (h : (bad_sets n K r A B).holds ≡ false) where
    pub most_first_lem : r ≤ most_first
    most_first_lem = (inside 1 r most_first (or-none (not (leb 1 r && leb r most_first)) _ h).0).1

    pub candidate : (L : ℕ) → K ≤ L → Candidate n L r A B
    candidate L k =
        let o = or-none (not (leb 1 r && leb r most_first)) _ h in
        let p = or-none (leb (2 ^ n) A) _ o.1 in
        let q = or-none (leb (2 ^ n) B) _ p.1 in
        let d = or-none (not (disjoint n (bit A) (bit B))) _ q.1 in
        let s = or-none (leb (size n (bit A)) r) _ d.1 in
        record {
          below_a = leb-false (2 ^ n) A p.0;
          below_b = leb-false (2 ^ n) B q.0;
          apart = (disjoint-apart n (bit A) (bit B)).0 (not-false (disjoint n (bit A) (bit B)) d.0);
          more = leb-false (size n (bit A)) r s.0;
          most = le_trans (ltb-false K (size n (bit A) + size n (bit B)) s.1) k;
        }

-- the bytes of H's table: it reads all inputs but the own ones, and the first cells' outputs
pub bytes_H : {n K r A B : ℕ} → Candidate n K r A B → (F : ℕ → Bool) → table_length (n + r - size n (bit A))
    ≡ table_length (inputs_h n F (bit A) (bit B) r)
bytes_H {n} {K} {r} {A} {B} c F =
    let e : n + r - size n (bit A) ≡ inputs_h n F (bit A) (bit B) r = omega
    (arith, inputs-H n (bit A) (bit B) c.apart F r) in ap table_length e

-- a refusal whose number isn't 8 counts no columns
uncounted : (why : Why) → ((refusal_of why).number ≡ 8 → ⊥) → columns_of why ≡ 0
uncounted (Broken b columns) other = absurd (other refl)
uncounted _ other = refl

-- lines of which none is 8 refuse without counting columns, whatever comes after them
pub refused_before : {R : Type 0} (ls ms : List Line) → others 8 ls ≡ true → (n A B : ℕ) (t room : List ℕ)
    (done : TryOutcome) (r : Result R Why) (why : Why) → verdict_of r ≡ verdict ls → r ≡ Err why
    → record { answer = try_answer (Err why); room = room } ≡ reply (verdict (ls ++ ms)) done (try_not n A B t room)
refused_before ls ms o n A B t room done r why looked e =
    let said = said_err r why e in
    let other = another ls 8 (refusal_of why) o (sym looked ∙ said) in
    ap (λ (k : ℕ). record {
      answer = record { verdict = Refused (refusal_of why); d = no_cells; columns = k };
      room = room;
    })
    (uncounted why other
    ∙ sym (ap (λ (b : Bool). cond b (length (columns n (table_bit t) (bit A) (bit B) (refusal_of why).place)) 0)
    (ne_eqb (refusal_of why).number 8 other)))
    ∙ refused_by ls ms done (try_not n A B t room) (verdict_of r) (refusal_of why) looked said

-- what is said of a split's numbers is said of those it was made of
pub carried : {n n' a a' b b' : ℕ} (P : ℕ → ℕ → ℕ → Type 0) → n ≡ n' → a ≡ a' → b ≡ b' → P n a b → P n' a' b'
carried {n} {n'} {a} {a'} {b} {b'} P p q r h = subst (λ (i : ℕ). P i a' b') p
    (subst (λ (i : ℕ). P n i b') q (subst (λ (i : ℕ). P n a i) r h))
