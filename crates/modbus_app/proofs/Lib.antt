pub mod Fitting
pub mod Ending
pub mod Splitting
pub mod SingleWrites
pub mod Making
pub mod Planned
