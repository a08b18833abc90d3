pub mod PortLine
pub mod Watched
