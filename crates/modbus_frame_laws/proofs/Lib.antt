pub mod Same
pub mod SameAnswer
pub mod SameFrame
pub mod SameRequest
