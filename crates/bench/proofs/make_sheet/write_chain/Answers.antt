-- `write_chain` meets its contract: the held chain is that of the table, and is written as records where a sheet has
-- room for it. Assumes nothing.
use Rattle.std.proofs.Common.{Option, Some, Result, Ok}
use Rattle.std.specs.Result.{result_ok}
use mathlib.Core.Path.{◌≡◌, sym, ap, ap₂, ◌∙◌, subst}
use mathlib.Core.List.{List}
use Prim.Native.Nat.{ℕ, ◌^◌}
use native.Mathlib.Nat.{le_trans, mul-le-mul_left}
use native.Mathlib.Omega.{arith}
use Rattle.bits.specs.Numbers.{number}
use Rattle.tables.specs.Table.{table_bit}
use Rattle.sheets.specs.Held.{cells_of}
use Rattle.chains.specs.Chain.{Made}
use Rattle.chains.specs.Aside.{cells_aside}
use Rattle.chains.proofs.Aside.{cells_few}
use Rattle.making.specs.declared.chaining.ChainEnd.{ChainEnd}
use Rattle.making.specs.Chaining.{Tells}
use Rattle.refusals.specs.declared.verdicts.Refusal.{Refusal as Why}
use Rattle.refusals.specs.Verdicts.{Fine}
use Rattle.refusals.proofs.Results.{refused_with}
use Rattle.bench.specs.MakeSheet.{make_answer}
use Rattle.bench.proofs.Written.{stuck_written, long_written, fits}
use Rattle.bench.proofs.make_sheet.write_chain.Goals as goal

pub chain_upto-requires : goal.chain_upto-requires
chain_upto-requires c =
    let p = c.requires.edition in
    (p.1, p.2, p.3, p.4, omega (arith, p.5, p.0.eight), c.requires.t_len.0, c.requires.t_len.2)

-- the chain of the table
abbrev chain : ℕ → ℕ → ℕ → List ℕ → Made
chain n most k t = cells_aside most n k (number (2 ^ n) (table_bit t))

pub returns-in_err-chain : goal.returns-in_err-chain
returns-in_err-chain c =
    let a = c.args in
    ap (λ (r : Result ℕ Why). record { answer = make_answer r; sheet = a.sheet.now; work = c.chain_upto.new.work })
    (refused_with _ _ c.from_residual.ensures.1)
    ∙ stuck_written a.e a.d a.sheet.now a.work.now c.chain_upto.new.work c.chain_upto.ensures.cleared
    c.chain_upto.result (chain a.n a.most a.k a.t.now) c.chain_upto.ensures.told _
    (sym c.ok_or.ensures.value ∙ c.in_err-chain.was)

-- what it came to, where it isn't stuck
told_of : (r : Option ChainEnd) (s : Result ChainEnd Why) (end : ChainEnd) (x : Made) → Tells r x → r ≡ result_ok s
    → s ≡ Ok end → Tells (Some end) x
told_of r s end x t p q = subst (λ (o : Option ChainEnd). Tells o x) (p ∙ ap result_ok q) t

pub returns-then-chain-gt-RECORDS : goal.returns-then-chain-gt-RECORDS
returns-then-chain-gt-RECORDS c =
    let a = c.args in
    let x = chain a.n a.most a.k a.t.now in
    long_written a.e a.d a.sheet.now a.work.now c.chain_upto.new.work c.chain_upto.ensures.cleared c.in_ok-chain.chain x
    (told_of _ _ _ x c.chain_upto.ensures.told c.ok_or.ensures.ok_part c.in_ok-chain.was)
    (omega (arith, c.if-chain-gt-RECORDS.true))

pub put_all-requires : goal.put_all-requires
put_all-requires c =
    let a = c.args in
    let p = c.requires.edition in
    let x = chain a.n a.most a.k a.t.now in
    let k = fits a.e a.d a.sheet.now a.work.now c.in_ok-chain.chain x
    (told_of _ _ _ x c.chain_upto.ensures.told c.ok_or.ensures.ok_part c.in_ok-chain.was)
    (omega (arith, c.if-chain-gt-RECORDS.false)) in (
      p.0,
      k.few,
      cells_few a.most a.n a.k (table_bit a.t.now) p.1 (omega (arith, p.4)) (cells_of c.in_ok-chain.chain.sheet) k.chain
          a.e.most p.5,
      le_trans (mul-le-mul_left a.e.size k.few) c.requires.t_len.1,
    )

pub returns : goal.returns
returns c =
    let a = c.args in
    let x = chain a.n a.most a.k a.t.now in
    let n = c.in_ok-chain.chain.count in
    ap₂ (λ (l w : List ℕ). record { answer = record { verdict = Fine; count = n }; sheet = l; work = w })
    c.put_all.ensures c.chain_upto.ensures.cleared
    ∙ (fits a.e a.d a.sheet.now a.work.now c.in_ok-chain.chain x
    (told_of _ _ _ x c.chain_upto.ensures.told c.ok_or.ensures.ok_part c.in_ok-chain.was)
    (omega (arith, c.if-chain-gt-RECORDS.false))).written
