pub mod Compute
pub mod Steps
