-- The book of the least table of each class.
pub mod Book
