pub mod Places
pub mod Heard
pub mod Placed
