pub mod Names
pub mod Registry
pub mod Nodes
pub mod BuildType
pub mod Build
