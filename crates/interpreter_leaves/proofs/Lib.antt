pub mod Nodes
pub mod Cases
pub mod Binding
pub mod Align
pub mod Exits
