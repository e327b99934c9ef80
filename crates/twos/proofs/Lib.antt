-- Every sheet made with cells of two inputs is printed, and its formula is a tree.
pub mod Cells
pub mod Printed
pub mod Formula
