-- When a call says no: verdicts, a call's lines, the table of refusals, what the code's results say, and lent bytes
-- afterwards.
pub mod Verdicts
pub mod Lines
pub mod Refusals
pub mod Results
pub mod Looks
pub mod Lent
