-- Several first cells: what the call that finds the best split over how many there are answers.
pub mod FindSeveral
