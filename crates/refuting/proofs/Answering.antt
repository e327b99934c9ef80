-- The lines of the call, and the work area afterwards. Assumes nothing.
use Rattle.std.proofs.Common.{Result, Err}
use mathlib.Core.Path.{◌≡◌, sym, ap, ap₂, ◌∙◌}
use mathlib.Core.Bool.{Bool, true, false, ◌&&◌}
use mathlib.Core.List.{List, [], ◌∷◌, ◌++◌}
use Prim.Native.Nat.{ℕ, ◌+◌, ◌*◌, ◌≤◌}
use native.Mathlib.Decide.{dec_lt}
use native.Mathlib.Omega.{arith}
use lib.Dec.{leb, ltb}
use lib.ListN.{length, replicate, get_or-replicate, length-replicate, get_or-eq_default}
use borrow.Author.Tests.{ltb-false}
use Rattle.bits.specs.Lists.{byte_at}
use Rattle.bits.proofs.Bools.{clash}
use Rattle.tables.specs.Table.{most_inputs, table_length}
use Rattle.sheets.specs.declared.kinds.Edition.{Edition}
use Rattle.sheets.specs.Edition.{IsEdition, most_records}
use Rattle.refusals.specs.Verdicts.{Verdict, Fine, Refused}
use Rattle.refusals.specs.declared.verdicts.Refusal.{Refusal as Why}
use Rattle.refusals.specs.Results.{refusal_of, verdict_of}
use Rattle.refusals.specs.Lines.{Line, verdict}
use Rattle.refusals.specs.Lent.{work_after}
use Rattle.refusals.proofs.Lines.{stops, in_order_lem, all_numbers}
use Rattle.refusals.proofs.Results.{said_err}
use Rattle.refusals.proofs.Lent.{form_leaves}
use Rattle.refusals.proofs.Tests.{inside, sound_before}
use Rattle.clauses.specs.declared.variables.Size.{Size}
use Rattle.clauses.specs.declared.task.Task.{Task}
use Rattle.clauses.specs.Variables.{IsSize, variables}
use Rattle.clauses.specs.Step.{rows_in}
use Rattle.clauses.specs.Shapes.{HasRows}
use Rattle.following.specs.Standing.{begun_in, IsReady}
use Rattle.refuting.specs.Steps.{header_in_order}
use Rattle.refuting.specs.TooFew.{bad_cells, few_form, few_after}
use Rattle.refuting.proofs.Rows.{few_rows, rows_there, rows_below}
use Rattle.refuting.proofs.Marking.{none_marked}

-- a work area of zeros
pub zeros : (n j : ℕ) → byte_at (replicate n 0) j ≡ 0
zeros n j = elim (dec_lt j n) [
  | yes l ↦ get_or-replicate n j 0 0 l
  | no l ↦ get_or-eq_default (replicate n 0) 0 {n = j} (omega (arith, length-replicate {A = ℕ} n 0))
]

-- 1 to 5 refuse: the work area is as it was
pub form_stops : {A : Type 0} (ls ms : List Line) (work : List ℕ) → all_numbers (λ k. leb 1 k && leb k 7) ls ≡ true
    → (r : Result A Why) → verdict_of r ≡ verdict ls → (why : Why) → r ≡ Err why
    → record { verdict = Refused (refusal_of why); work = work } ≡ few_after work (verdict (ls ++ ms))
form_stops ls ms work o r looked why e =
    let refused = sym looked ∙ said_err r why e in
    let whole = stops ls ms (refusal_of why) refused in
    ap₂ (λ (v : Verdict) (w : List ℕ). record { verdict = v; work = w }) (sym whole)
    (sym (form_leaves ls (refusal_of why) o refused work) ∙ ap (λ (u : Verdict). work_after u work) (sym whole))

-- 1 to 5 are in order: what is asked is within its limits
pub record Within (n K m : ℕ) (t : List ℕ) : Type 0 where
  pub inputs : n ≤ most_inputs
  pub cell : K ≤ 8
  pub some : 1 ≤ m
  pub most : m ≤ most_records
  pub long : length t ≡ table_length n

pub within : (e : Edition) → IsEdition e → (n K m : ℕ) (t : List ℕ) (v : Verdict) → v ≡ verdict (few_form e n K m t)
    → v ≡ Fine → Within n K m t
within e w n K m t v p q =
    let s = sound_before e n K t (bad_cells m ∷ []) v p q in
    let i = inside 1 m most_records (in_order_lem (few_form e n K m t) (sym p ∙ q)).1.1.1.1.0 in record {
      inputs = s.most;
      cell = omega (arith, s.largest, w.eight);
      some = i.0;
      most = i.1;
      long = s.long;
    }

-- the size that the code has, and the certificate's rows
module _ (n K m R : ℕ) (t c : List ℕ) (w : Within n K m t) (e : R ≡ rows_in c) (h : header_in_order n c ≡ true) where
  abbrev pub size_of : Size
  size_of = record { inputs = n; cell = K; cells = m; rows = R }

  pub is_size : IsSize size_of
  is_size = record {
    inputs = w.inputs;
    cell = w.cell;
    some = w.some;
    cells = w.most;
    rows = omega (arith, e, few_rows n c h);
  }

  pub has_rows : HasRows size_of c
  has_rows = record {
    count = e;
    room = omega (arith, e, rows_there n c h);
    below = λ a l. rows_below n c h a (omega (arith, e));
  }

-- a work area that was cleared, and is long enough
module _ (x : Task) (work : List ℕ) {area : List ℕ} (z : area ≡ replicate (length work) 0) where
  abbrev all_zero : (j : ℕ) → byte_at area j ≡ 0
  all_zero j = ap (λ (a : List ℕ). byte_at a j) z ∙ zeros (length work) j

  pub not_marked : (j : ℕ) → begun_in (variables x.size) (length x.certificate.now) area j ≡ false
  not_marked = none_marked (variables x.size) (length x.certificate.now) area all_zero

  pub ready : {all : ℕ} {b : Bool} → all ≡ variables x.size → b ≡ ltb (length work) (all + 2 * length x.certificate.now)
      → b ≡ false → IsReady x area
  ready {all} {b} ea eb f = record {
    room = omega (
      arith,
      ea,
      ltb-false (length work) (all + 2 * length x.certificate.now) (sym eb ∙ f),
      ap length z,
      length-replicate {A = ℕ} (length work) 0,
    );
    clean = λ v l. all_zero v;
    usable = λ j u. absurd (clash u (not_marked j));
  }
