-- What a network of m cells is like, said in clauses: the variables and their numbers, the clause of each kind of step,
-- and how a certificate's bytes name them.
pub mod Variables
pub mod Swapping
pub mod Clause
pub mod Step
pub mod Shapes
pub mod Asking
pub mod Lengths
