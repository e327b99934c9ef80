-- The best split over how many first cells there are: what it is, the search that finds it, and what the code holds.
pub mod Best
pub mod Search
pub mod Chosen
