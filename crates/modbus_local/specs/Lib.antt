pub mod Exchange
pub mod Back
pub mod Polls
