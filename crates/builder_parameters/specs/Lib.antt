pub mod Ready
pub mod Listed
