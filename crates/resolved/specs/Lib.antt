pub mod Resolved
pub mod Set
