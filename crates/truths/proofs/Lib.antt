-- Why a certificate that is accepted shows that m cells are too few.
pub mod OneTrue
pub mod Counts
pub mod Differences
pub mod Orders
pub mod EachKind
pub mod Numbering
pub mod Propagation
pub mod Shown
