-- The laws of cards: what stores make of a card and the isolation of the desks, what a desk answers while it is loaded
-- and afterwards, and the calls' lines.
pub mod Making
pub mod Order
pub mod Mingled
pub mod Loaded
pub mod Desks
pub mod Looked
pub mod Calls
