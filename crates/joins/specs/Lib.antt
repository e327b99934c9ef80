-- Two inputs of a gate of which one can stand for both, and what is left of the gate.
pub mod StandsFor
pub mod Left
