pub mod Writes
pub mod ReadsBack
pub mod Linked
pub mod Connectors
pub mod Opened
pub mod Unopened
pub mod Hosts
pub mod Stty
