-- When the output of a sheet settles: its inputs' times, the times of its signals, and times in whole sixteenths.
pub mod InputTimes
pub mod Reading
pub mod Signals
pub mod Sixteenths
pub mod Whole
