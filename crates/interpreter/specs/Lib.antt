pub mod Arithmetic
pub mod Eval
pub mod Validate
pub mod Runs
