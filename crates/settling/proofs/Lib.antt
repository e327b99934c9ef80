-- What the lines leave for times, and that in sixteenths settle and slack are exact.
pub mod Kept
pub mod Slacking
