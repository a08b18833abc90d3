pub mod Device
pub mod Dues
pub mod Fleet
