pub mod Match
pub mod Segments
pub mod Paths
