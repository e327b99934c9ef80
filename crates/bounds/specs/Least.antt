-- The bound to the bit: by the best split, and with cells of two inputs by the chain.
use Rattle.std.specs.Prelude.{Bool, true, false, cond, ℕ, ◌+◌, ◌-◌, ◌/◌, ◌^◌, max, leb, eqb}
use Rattle.bits.specs.Numbers.{bit, number}
use Rattle.bits.specs.Sets.{size}
use Rattle.best.specs.Search.{Answer}
use Rattle.best.specs.Counting.{best_counting}
use Rattle.chains.specs.Chain.{Made, stuck, made}
use Rattle.chains.specs.Aside.{sheet_aside}
use Rattle.finding.specs.FindBest.{own_of}
use Rattle.bounds.specs.Bound.{counted}

-- the least m with c ≤ m(K - 1) + 1
abbrev pub reaching : ℕ → ℕ → ℕ
reaching c K = (c + K - 3) / (K - 1)

-- c of n inputs count, which are more than K: two cells do where H of the best split is left with at most K inputs
abbrev pub by_split : ℕ → ℕ → ℕ → Answer → ℕ
by_split n K c a = cond (leb (c + 1) (K + size n (bit (own_of a)))) 2 (max 3 (reaching c K))

-- with cells of two inputs: a chain that comes to its end has one cell fewer than inputs count
abbrev pub by_chain : ℕ → Made → ℕ
by_chain c stuck = c
by_chain c (made cs) = c - 1

-- the bound on cells of size K for the table F of n inputs
unfoldable pub cell_bound : ℕ → ℕ → (ℕ → Bool) → ℕ
cell_bound n K F =
    let c = counted n F in
    elim (leb c K) [
      | true ↦ 1
      | false ↦ elim (eqb K 2) [
        | true ↦ by_chain c (sheet_aside n 2 (number (2 ^ n) F))
        | false ↦ by_split n K c (best_counting n 1 F K)
      ]
    ]
