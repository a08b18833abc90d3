pub mod Accepts
pub mod Found
pub mod Peers
pub mod Polls
pub mod Setbacks
pub mod Tokens
