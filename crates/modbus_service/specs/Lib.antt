pub mod Outcome
pub mod Answering
pub mod Exchange
pub mod OnlyUnit
pub mod Units
pub mod Shared
