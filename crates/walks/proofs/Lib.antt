-- Where a walk may stop, and what it learns on its way.
pub mod Pruning
pub mod Learning
