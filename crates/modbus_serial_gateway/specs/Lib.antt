pub mod Words
pub mod Ends
pub mod SparingWords
pub mod StaleWords
