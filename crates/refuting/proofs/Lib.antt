-- Why the call answers what its lines say. Lengths: a step that is all there. Walking: the steps from a place on. Marking:
-- the places at which steps begin. Rows: the header. Answering: the lines of the call.
pub mod Lengths
pub mod Walking
pub mod Marking
pub mod Rows
pub mod Answering
