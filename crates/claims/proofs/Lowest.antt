-- Where several lines of the table of refusals hold, the lowest number is given: each call's lines stand in the order
-- of their numbers. Told calls and the bound, which ask a call's lines after two of their own, look at n twice; a card's
-- order is its own. Assumes nothing.
use mathlib.Core.Path.{◌≡◌, refl, ap}
use mathlib.Core.Logic.{⊎_elim}
use mathlib.Core.Bool.{true}
use mathlib.Core.List.{List, [], ◌∷◌}
use Prim.Native.Nat.{ℕ, zero, suc, ◌≤◌, ◌<◌}
use native.Mathlib.Decide.{dec_lt}
use native.Mathlib.Omega.{arith}
use lib.IntN.{ℤ}
use lib.Ieee.{Float}
use lib.Dec.{leb}
use lib.ListN.{length}
use borrow.Author.Tests.{leb-true}
use Rattle.bits.proofs.Bools.{clash, and_left, and_right}
use Rattle.sheets.specs.declared.kinds.Edition.{Edition}
use Rattle.times.specs.declared.input_time.InputTime.{InputTime}
use Rattle.refusals.specs.Verdicts.{Verdict}
use Rattle.refusals.specs.Lines.{Line, number_of, line_at, Given}
use Rattle.splitting.specs.TrySplit.{try_lines}
use Rattle.finding.specs.FindBest.{find_lines}
use Rattle.several.specs.FindSeveral.{several_lines}
use Rattle.bench.specs.MakeSheet.{make_lines}
use Rattle.any_gate.specs.MakeAny.{any_lines}
use Rattle.running.specs.RunSheet.{run_lines}
use Rattle.rebuilding.specs.RebuildTable.{rebuild_lines}
use Rattle.rewriting.specs.Rewrite.{rewrite_lines}
use Rattle.inspection.specs.CheckSheet.{check_lines}
use Rattle.settling.specs.Settle.{settle_lines}
use Rattle.settling.specs.Slack.{slack_lines}
use Rattle.formulas.specs.ReadFormula.{read_lines}
use Rattle.printing.specs.WriteFormula.{write_lines}
use Rattle.turning.specs.Turn.{turn_lines}
use Rattle.claims.specs.Words.{ByLines, rising}

-- from k on
rise_from : (k : ℕ) (ls : List Line) → rising k ls ≡ true → (i : ℕ) → i < length ls → k ≤ (line_at ls i).gives.number
rise_from k [] h i l = omega arith
rise_from k (x ∷ ls) h zero l =
    leb-true k x.gives.number (and_left (leb k x.gives.number) (rising x.gives.number ls) h)
rise_from k (x ∷ ls) h (suc i) l =
    let there = and_right (leb k x.gives.number) (rising x.gives.number ls) h in
    omega (
      arith,
      leb-true k x.gives.number (and_left (leb k x.gives.number) (rising x.gives.number ls) h),
      rise_from x.gives.number ls there i (omega arith),
    )

-- of two lines the later has no lower number
rise_on : (k : ℕ) (ls : List Line) → rising k ls ≡ true → (a i : ℕ) → a ≤ i → i < length ls
    → (line_at ls a).gives.number ≤ (line_at ls i).gives.number
rise_on k [] h a i o l = absurd (omega arith)
rise_on k (x ∷ ls) h zero zero o l = omega arith
rise_on k (x ∷ ls) h zero (suc i) o l =
    rise_from x.gives.number ls (and_right (leb k x.gives.number) (rising x.gives.number ls) h) i
    (omega arith)
rise_on k (x ∷ ls) h (suc a) zero o l = absurd (omega arith)
rise_on k (x ∷ ls) h (suc a) (suc i) o l =
    rise_on x.gives.number ls (and_right (leb k x.gives.number) (rising x.gives.number ls) h) a i
    (omega arith) (omega arith)

-- no line that holds has a lower number than the one that is given
pub lowest : {v : Verdict} {ls : List Line} → ByLines v ls → rising 1 ls ≡ true → (i : ℕ) → i < length ls
    → (line_at ls i).holds ≡ true → number_of v ≤ (line_at ls i).gives.number
lowest {v} {ls} by h i l t = ⊎_elim (λ q. omega (arith, ap number_of q)) first by.listed
  where
    first : Given (number_of v) ls → number_of v ≤ (line_at ls i).gives.number
    first g = elim (dec_lt i g.at) [
      | yes b ↦ absurd (clash t (g.earlier i b))
      | no b ↦ omega (arith, g.number, rise_on 1 ls h g.at i (omega arith) l)
    ]

-- ---- each call's numbers rise

module _ (e : Edition) (n K : ℕ) (t work : List ℕ) where
  pub try_rises : (r A B : ℕ) (h : List ℕ) → rising 1 (try_lines e n K r A B t h) ≡ true
  try_rises r A B h = refl

  pub find_rises : rising 1 (find_lines e n K t work) ≡ true
  find_rises = refl

  pub several_rises : rising 1 (several_lines e n K t work) ≡ true
  several_rises = refl

  pub make_rises : (d : ℕ) (s : List ℕ) → rising 1 (make_lines e d n K t s work) ≡ true
  make_rises d s = refl

  pub any_rises : (d : ℕ) (s : List ℕ) → rising 1 (any_lines e d n K t s work) ≡ true
  any_rises d s = refl

module _ (e : Edition) (d n : ℕ) (s : List ℕ) where
  pub run_rises : (x : ℕ) → rising 1 (run_lines e d n s x) ≡ true
  run_rises x = refl

  pub rebuild_rises : (table : List ℕ) → rising 1 (rebuild_lines e d n s table) ≡ true
  rebuild_rises table = refl

  pub check_rises : (t : List ℕ) → rising 1 (check_lines e d n t s) ≡ true
  check_rises t = refl

  pub settle_rises : (delay : Float) (times : List InputTime) → rising 1 (settle_lines e d n s delay times) ≡ true
  settle_rises delay times = refl

  pub slack_rises : (delay : Float) (times : List InputTime) (limit : ℤ)
      → rising 1 (slack_lines e d n s delay times limit) ≡ true
  slack_rises delay times limit = refl

  pub rewrite_rises : (f : Edition) (room : List ℕ) → rising 1 (rewrite_lines e f d n s room) ≡ true
  rewrite_rises f room = refl

  pub write_rises : (text : List ℕ) → rising 1 (write_lines e d n s text) ≡ true
  write_rises text = refl

  pub read_rises : (table : List ℕ) → rising 1 (read_lines n s table) ≡ true
  read_rises table = refl

pub turn_rises : (f g : ℕ) → rising 1 (turn_lines f g) ≡ true
turn_rises f g = refl
