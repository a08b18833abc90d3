pub mod Rules
pub mod Restricted
