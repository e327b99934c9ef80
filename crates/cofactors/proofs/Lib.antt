-- The laws of the sheet of cofactors, and of the sheet for any gate. Groups: cells in groups, one
-- behind the other. Selecting: the cells that select. Levels: level by level. Cofactors: the sheet is right, keeps the
-- record rules and leaves no cell unread. Count: how many cells. Aside: of a gate, with what does not count set aside.
-- Shorter, Any, Choice: the sheet for any gate.
pub mod Groups
pub mod Selecting
pub mod Levels
pub mod Cofactors
pub mod Count
pub mod Aside
pub mod Shorter
pub mod Any
pub mod Choice
