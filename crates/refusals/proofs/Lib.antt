-- The laws of the table of refusals, and its tests as the code asks them.
pub mod Lines
pub mod Lent
pub mod Tests
pub mod Sheets
pub mod Told
pub mod Refusing
pub mod Results
