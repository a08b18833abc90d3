pub mod Data
pub mod Diagnostics
pub mod Events
pub mod OnlyReads
pub mod Picks
pub mod FileLimits
pub mod Files
