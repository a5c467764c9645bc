pub mod Operation
pub mod Ready
