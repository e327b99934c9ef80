-- Which text stands for which formula, and the call that reads one.
pub mod Text
pub mod Reading
pub mod Words
pub mod Refusals
pub mod ReadFormula
