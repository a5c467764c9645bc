pub mod Ready
pub mod Collected
pub mod Call
