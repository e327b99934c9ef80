-- Why a gate is decided to be a tree. Setting: an assignment with one input set. Joining: what holds where one input
-- can stand for two. Columns: where it can. Telling, Asking: how four columns tell it, and how the code asks. Leaving:
-- what is left as an input is fixed. Starting, Turns, Ending: deciding, step by step.
pub mod Setting
pub mod Joining
pub mod Columns
pub mod Telling
pub mod Asking
pub mod Leaving
pub mod Starting
pub mod Turns
pub mod Ending
