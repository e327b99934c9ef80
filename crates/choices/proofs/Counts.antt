-- Nothing is written in vain: where the table depends on each of its inputs, H of the best split with up to m first
-- cells does. On a shared or free input by what holds of each r (`next-reads`, best); on an output, else one first cell
-- less would do, with a larger |A| - r. Assumes nothing.
use mathlib.Core.Path.{◌≡◌, sym, subst}
use mathlib.Core.Logic.{⊎_elim}
use mathlib.Core.Bool.{Bool}
use Prim.Native.Nat.{ℕ, zero, suc, ◌+◌, ◌-◌, ◌^◌, ◌<◌}
use native.Mathlib.Decide.{dec_lt}
use native.Mathlib.Nat.{not-suc-le-zero}
use native.Mathlib.Omega.{arith}
use Rattle.bits.specs.Numbers.{bit}
use Rattle.bits.specs.Sets.{size}
use Rattle.bits.proofs.Numbers.{bit-number}
use Rattle.bits.proofs.Members.{Place, place}
use Rattle.tables.specs.Depends.{DependsOn}
use Rattle.tables.specs.Counting.{AllCount, Ignores}
use Rattle.tables.proofs.Depending.{depends_or, count_ext}
use Rattle.splits.specs.Split.{reads_h}
use Rattle.splits.specs.Pair.{bit_h, inputs_h, table_h}
use Rattle.splits.proofs.Asked.{output-counts}
use Rattle.best.proofs.Next.{next-reads}
use Rattle.choices.specs.Best.{BestUpTo}
use Rattle.choices.proofs.Best.{upto_own}
use Rattle.choices.proofs.Fewer.{one_less}

module _ (n K m A B : ℕ) (F : ℕ → Bool) (all : AllCount n F) where
  abbrev k : ℕ
  k = size n (reads_h (bit A) (bit B))

  abbrev H : ℕ → Bool
  H = bit_h n F (bit A) (bit B)

  -- the output of a first cell, one or several
  reads-output : (r : ℕ) → BestUpTo n K m F r A B → (t : ℕ) → t < r → DependsOn (k + r) H (k + t)
  reads-output zero b t h = absurd (not-suc-le-zero h)
  reads-output (suc zero) b t h =
      let e : k ≡ k + t = omega arith in
      subst (DependsOn (k + 1) H) e (own (place n (bit A) 0 (omega (arith, b.works.candidate.more))))
    where
      own : Place n (bit A) 0 → DependsOn (k + 1) H k
      own w = output-counts n F (bit A) (bit B) b.works.candidate.apart b.works.possible w.at w.below
          w.member (all w.at w.below)
  reads-output (suc (suc u)) b t h = ⊎_elim (λ d. d) (λ idle. absurd (never idle))
      (depends_or (k + suc (suc u)) H (k + t) (omega arith))
    where
      never : Ignores (k + suc (suc u)) H (k + t) → ⊥
      never idle =
          let c = b.works.candidate in
          omega (
            arith,
            (b.ahead (suc u) A B (record {
              some = omega arith;
              most = omega (arith, b.works.most);
              candidate = record {
                below_a = c.below_a;
                below_b = c.below_b;
                apart = c.apart;
                more = omega (arith, c.more);
                most = c.most;
              };
              possible = one_less n F (bit A) (bit B) c.apart (suc u) b.works.possible t h idle;
            })).largest,
          )

-- H depends on each of its inputs
pub upto_counts : (n K m : ℕ) (F : ℕ → Bool) (r A B : ℕ) → BestUpTo n K m F r A B → AllCount n F
    → AllCount (inputs_h n F (bit A) (bit B) r) (bit (table_h n F (bit A) (bit B) r))
unfolding table_h
upto_counts n K m F r A B b all =
    count_ext (k + r) H (bit (table_h n F (bit A) (bit B) r)) (λ x h. sym (bit-number (2 ^ (k + r)) H x h)) each
  where
    k : ℕ
    k = size n (reads_h (bit A) (bit B))

    H : ℕ → Bool
    H = bit_h n F (bit A) (bit B)

    each : AllCount (size n (reads_h (bit A) (bit B)) + r) (bit_h n F (bit A) (bit B))
    each q h = elim (dec_lt q k) [
      | yes l ↦ next-reads F (upto_own n K F m r A B b) all q l
      | no l ↦ let e : k + (q - k) ≡ q = omega arith
          in subst (DependsOn (k + r) H) e (reads-output n K m A B F all r b (q - k) (omega arith))
    ]
