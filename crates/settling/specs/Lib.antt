-- The lines on times of the table of refusals, and what settle and slack return.
pub mod Refusals
pub mod Settle
pub mod Slack
