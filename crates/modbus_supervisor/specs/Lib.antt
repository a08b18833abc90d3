pub mod Alive
pub mod Asking
pub mod Lines
pub mod Queues
pub mod Reads
pub mod Targets
pub mod Turns
pub mod Watched
