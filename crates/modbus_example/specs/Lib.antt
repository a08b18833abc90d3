pub mod Counter
pub mod Single
pub mod Thermometer
