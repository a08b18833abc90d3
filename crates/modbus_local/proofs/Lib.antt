pub mod Exchanging
pub mod Exchanged
pub mod IdentifiedHeads
pub mod ResponseHeads
pub mod AskedOnce
pub mod ReadBack
pub mod Back
pub mod Served
