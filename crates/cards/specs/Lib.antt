-- Four desks on one card: what a desk holds, loads as stores in their order and every mingling of them, what a desk
-- answers, and the calls.
pub mod Card
pub mod Stores
pub mod Refusals
pub mod LoadDesk
pub mod LoadCut
pub mod LoadStore
pub mod RunDesk
pub mod Mingling
