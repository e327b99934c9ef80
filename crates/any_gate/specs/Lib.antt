-- A sheet for any gate: what the call answers.
pub mod MakeAny
