pub mod Adu
pub mod Limits
pub mod Stream
pub mod Decoder
