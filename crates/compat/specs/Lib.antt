pub mod Types
pub mod Nodes
pub mod Grown
pub mod Ways
pub mod Statement
