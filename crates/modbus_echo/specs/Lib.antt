pub mod Guard
pub mod Runs
