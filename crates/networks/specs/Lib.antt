-- The signals of a network, inputs that can change places, and networks in order.
pub mod Signals
pub mod Swapping
pub mod Sorted
