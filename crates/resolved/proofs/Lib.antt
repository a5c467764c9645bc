pub mod Compute
pub mod Lookup
