pub mod Filed
pub mod Files
pub mod MaybeFiled
