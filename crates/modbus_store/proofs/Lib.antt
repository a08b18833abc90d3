pub mod Fitting
pub mod Lists
pub mod Histories
pub mod Keeps
pub mod Passing
pub mod Turning
pub mod Writing
pub mod Orderly
