pub mod Expiring
pub mod Going
pub mod Ordered
