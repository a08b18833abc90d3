pub mod Deadline
pub mod DeadlineLine
pub mod Echo
pub mod Moments
pub mod Paced
pub mod Taking
pub mod Paused
