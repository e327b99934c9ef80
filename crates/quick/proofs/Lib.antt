-- The answers without a walk.
pub mod Early
pub mod Taking
