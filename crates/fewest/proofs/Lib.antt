-- Where a sheet has the fewest cells. Reach, Enough: how many inputs m cells count. Two, Fewest: demand 3; the sheet
-- for any gate. AnyOwn, Joining: AND, OR and XOR of any size.
pub mod Reach
pub mod Enough
pub mod Two
pub mod Fewest
pub mod AnyOwn
pub mod Joining
