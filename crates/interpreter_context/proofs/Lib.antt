pub mod Laws
pub mod Shape
pub mod Blocks
pub mod Names
pub mod Lists
pub mod Calls
