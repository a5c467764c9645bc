pub mod Arithmetic
pub mod Compute
pub mod Lookup
