pub mod Paths
pub mod Ready
