-- Paths through a network, and the time along one.
pub mod Paths
