-- Why the code does what is meant. Opening: what is open in a clause. Reading: the clauses of earlier steps. Trailing:
-- variables that are set and forgotten. Going: a step's literals and hints, one after the other. Deriving: a step as a whole.
pub mod Opening
pub mod Reading
pub mod Trailing
pub mod Going
pub mod Deriving
