pub mod Sizes
pub mod Bits
pub mod Worths
pub mod Digits
pub mod LastDigits
pub mod Multiples
pub mod Raising
pub mod Grids
pub mod WordsOf
pub mod Texts
pub mod OnlyOne
pub mod Trimmed
mod TableReads
mod Planning
mod Stopping
