-- How many variables there are, and that each has its own place among them. Assumes nothing.
use Prim.Native.Nat.{ℕ, ◌+◌, ◌*◌, ◌<◌, ◌≤◌}
use native.Mathlib.Nat.{mul-le-mul, mul-le-mul_right, add-mul}
use native.Mathlib.Omega.{arith}
use Rattle.clauses.specs.declared.variables.Size.{Size}
use Rattle.clauses.specs.declared.variables.Variable.{Variable}
use Rattle.clauses.specs.declared.variables.Variable.TheVariants.{Reads, Many, Differ, Apart, Same}
use Rattle.clauses.specs.Variables.{IsSize, signals, Named, number_of, variables, number_limit}
use Rattle.clauses.specs.Variables.{differ_from, apart_from, same_from}
use Rattle.clauses.specs.Variables.{reads_many, many_many, differ_many, apart_many, same_many}

-- place p of row i lies among m rows of w places
pub row_below : (i m p w : ℕ) → i < m → p < w → i * w + p < m * w
row_below i m p w h k =
    let s : (i + 1) * w ≤ m * w = mul-le-mul_right w (omega arith) in
    omega (arith, s, add-mul i 1 w)

-- the products that the numbers are made of
pub record Most (z : Size) : Type 0 where
  pub reads : z.cells * signals z ≤ 465
  pub signal : z.cells * (signals z + 1) ≤ 480
  pub many : z.cells * (signals z + 1) * (z.cell + 2) ≤ 4800
  pub row : z.cells * z.rows ≤ 7680
  pub differ : z.cells * z.rows * z.rows ≤ 3932160
  pub cells : z.cells * z.cells ≤ 225
  pub cell_row : z.cells * z.cells * z.rows ≤ 115200
  pub apart : z.cells * z.cells * z.rows * z.rows ≤ 58982400
  pub inputs : z.inputs * z.inputs ≤ 256
  pub same : z.inputs * z.inputs * (z.cells + 1) ≤ 4096

pub most : (z : Size) → IsSize z → Most z
most z h =
    let n = h.inputs in let m = h.cells in let r = h.rows in
    let s : signals z ≤ 31 = omega arith in
    let s1 : signals z + 1 ≤ 32 = omega arith in
    let k2 : z.cell + 2 ≤ 10 = omega (arith, h.cell) in
    let m1 : z.cells + 1 ≤ 16 = omega arith in record {
      reads = mul-le-mul m s;
      signal = mul-le-mul m s1;
      many = mul-le-mul (mul-le-mul m s1) k2;
      row = mul-le-mul m r;
      differ = mul-le-mul (mul-le-mul m r) r;
      cells = mul-le-mul m m;
      cell_row = mul-le-mul (mul-le-mul m m) r;
      apart = mul-le-mul (mul-le-mul (mul-le-mul m m) r) r;
      inputs = mul-le-mul n n;
      same = mul-le-mul (mul-le-mul n n) m1;
    }

-- where a variable lies among those of its kind, from the first field on
pub two_below : (a A b B c C : ℕ) → a < A → b < B → c < C → (a * B + b) * C + c < A * B * C
two_below a A b B c C p q r = row_below (a * B + b) (A * B) c C (row_below a A b B p q) r

pub three_below : (a A b B c C d D : ℕ) → a < A → b < B → c < C → d < D
    → ((a * B + b) * C + c) * D + d < A * B * C * D
three_below a A b B c C d D p q r s = row_below ((a * B + b) * C + c) (A * B * C) d D (two_below a A b B c C p q r) s

-- each number is below V
pub number_below : (z : Size) (x : Variable) → Named z x → number_of z x < variables z
unfolding number_of reads_many many_many differ_many apart_many same_many
number_below z (Reads i p) h = omega (arith, row_below i z.cells p (signals z) h.0 h.1)
number_below z (Many i p t) h =
    omega (arith, two_below i z.cells p (signals z + 1) t (z.cell + 2) h.0 h.1 h.2)
number_below z (Differ i a b) h =
    omega (arith, two_below i z.cells a z.rows b z.rows h.0 h.1 h.2)
number_below z (Apart i j a b) h =
    omega (arith, three_below i z.cells j z.cells a z.rows b z.rows h.0 h.1 h.2 h.3)
number_below z (Same p q i) h =
    omega (arith, two_below p z.inputs q z.inputs i (z.cells + 1) h.0 h.1 h.2)

-- and V is small
pub variables_most : (z : Size) → IsSize z → variables z < number_limit
unfolding reads_many many_many differ_many apart_many same_many
variables_most z h = let k = most z h in omega arith

-- where each kind begins
pub record From (z : Size) : Type 0 where
  pub differ : differ_from z ≤ 5265
  pub apart : apart_from z ≤ 3937425
  pub same : same_from z ≤ 62919825

pub from : (z : Size) → IsSize z → From z
unfolding reads_many many_many differ_many apart_many same_many
from z h = let k = most z h in record { differ = omega arith; apart = omega arith; same = omega arith }

-- a number as it is computed stays small
module _ (z : Size) (h : IsSize z) where
  pub apart_small : (i j a b : ℕ) → Named z (Apart i j a b) → (i * z.cells + j < 225)
      × ((i * z.cells + j) * z.rows + a < 115200) × (((i * z.cells + j) * z.rows + a) * z.rows + b < 58982400)
  apart_small i j a b w =
      let x = row_below i z.cells j z.cells w.0 w.1 in
      let y = two_below i z.cells j z.cells a z.rows w.0 w.1 w.2 in
      let v = three_below i z.cells j z.cells a z.rows b z.rows w.0 w.1 w.2 w.3 in
      (omega (arith, (most z h).cells), omega (arith, (most z h).cell_row), omega (arith, (most z h).apart))
