-- What looking at a call's lines comes to: nothing is wrong, or a refusal.
use Rattle.std.specs.Prelude.{ℕ}

-- why a call says no: the paper's number, and what it names besides, else 0
pub record Refusal : Type 0 where
  pub number : ℕ
  pub place : ℕ

-- what looking at a call's lines comes to
pub data Verdict : Type 0 where
  Fine : Verdict
  Refused : Refusal → Verdict
