pub mod Reports
pub mod Watches
pub mod Patient
pub mod TurnsAway
pub mod Port
pub mod Listen
