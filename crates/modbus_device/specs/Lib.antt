pub mod Echoes
pub mod Held
