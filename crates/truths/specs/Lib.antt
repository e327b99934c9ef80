-- What the variables of a certificate mean in a network.
pub mod Meaning
