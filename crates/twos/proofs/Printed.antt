-- Every sheet made with cells of two inputs is one that is printed. Assumes nothing.
use mathlib.Core.Path.{◌≡◌, sym, subst}
use mathlib.Core.Bool.{Bool}
use mathlib.Core.List.{List, [], ◌∷◌}
use Prim.Native.Nat.{ℕ, zero, suc, ◌+◌, ◌^◌, ◌≤◌}
use native.Mathlib.Omega.{arith}
use lib.ListN.{length, drop}
use Rattle.bits.specs.Numbers.{bit, number}
use Rattle.bits.specs.Sets.{size}
use Rattle.tables.specs.Counting.{Counting, AllCount, kept, table_over}
use Rattle.tables.proofs.Depending.{support_counting}
use Rattle.tables.proofs.Keeping.{kept_sees, two-kept}
use Rattle.tables.proofs.Over.{over_counts}
use Rattle.sheets.specs.declared.kinds.Edition.{Edition}
use Rattle.sheets.specs.Edition.{first_edition}
use Rattle.sheets.specs.Network.{Cell}
use Rattle.sheets.specs.Reading.{reads}
use Rattle.sheets.specs.Writing.{FitsFrom, AtMost}
use Rattle.chains.specs.Chain.{pick, inputs, made}
use Rattle.chains.specs.Aside.{sheet_aside}
use Rattle.chains.specs.Words.{Makes}
use Rattle.chains.proofs.Lists.{AllBelow, pick-length, pick_below, inputs-length, inputs_below}
use Rattle.chains.proofs.Aside.{sheet_made, table_few, table_fits}
use Rattle.chains.proofs.Aside.{table_read}
use Rattle.printing.specs.Printable.{AllPlain, Printable}
use Rattle.twos.proofs.Cells.{AllBoth, makes_both, ReadOnce, makes_once}

-- cells that fit records, read at most two signals, and depend on both of two, are plain
all_plain_lem : (e : Edition) (i : ℕ) (cs : List Cell) → FitsFrom e i cs → AtMost 2 cs → AllBoth cs → AllPlain cs
all_plain_lem e i [] f a b = tt
all_plain_lem e i (c ∷ cs) f a b = (
  record { some = f.0.some; few = a.0; both = b.0 },
  all_plain_lem e (suc i) cs f.1
      a.1 b.1,
)

reads_later : (x k : ℕ) (cs : List Cell) → reads x (drop k cs) ≤ reads x cs
reads_later x zero cs = omega arith
reads_later x (suc k) [] = omega arith
reads_later x (suc k) (c ∷ cs) = omega (arith, reads_later x k cs)

module _ (n : ℕ) (F : ℕ → Bool) (p : 1 ≤ n) (cs : List Cell) (is : sheet_aside n 2 (number (2 ^ n) F) ≡ made cs) where
  abbrev S : ℕ → Bool
  S = bit (kept n F)

  -- the inputs that are kept, as signals, and the table over them
  abbrev l : List ℕ
  l = pick n (bit (kept n F)) (inputs n)

  abbrev U : ℕ
  U = table_over n (bit (kept n F)) F

  size_is : length l ≡ size n S
  size_is = pick-length n S (inputs n)

  makes : Makes 2 n l U cs
  makes = (sheet_made n 2 F p (omega arith) cs).0 is

  all : 2 ≤ length l → AllCount (length l) (bit U)
  all g =
      subst (λ (m : ℕ). AllCount m (bit U)) (sym size_is)
      (over_counts n F S (kept_sees n F) (subst (λ (m : ℕ). Counting n F (bit m))
      (sym (two-kept n F (omega (arith, size_is)))) (support_counting n F)))

  low : AllBelow n l
  low = pick_below n S (inputs n) n (λ j h. inputs_below n j (omega (arith, inputs-length n)))

  pub read_once : (x : ℕ) → ReadOnce n l cs x
  read_once = makes_once makes low

  pub made_printable : Printable n cs
  made_printable = record {
    plain =
        all_plain_lem first_edition n cs (table_fits n 2 F p (omega arith) cs is first_edition (omega arith))
        (table_few n 2 F p (omega arith) cs is 2 (omega arith))
        (makes_both makes all);
    once = λ i h.
        omega (
          arith,
          (read_once (n + i)).given (omega arith),
          table_read n 2 F p (omega arith) cs is i h,
          reads_later
              (n + i) (suc i) cs,
        );
  }
