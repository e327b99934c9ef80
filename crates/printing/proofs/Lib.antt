-- Why what is printed reads back, and why the code writes it.
pub mod Cells
pub mod Turns
pub mod Forms
pub mod Lengths
pub mod Spelling
pub mod Staging
pub mod Printing
