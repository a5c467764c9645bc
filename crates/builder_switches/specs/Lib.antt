pub mod Cases
pub mod Ready
