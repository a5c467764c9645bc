pub mod Compute
