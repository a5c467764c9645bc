pub mod Bytes
pub mod Utf8
pub mod Name
pub mod Grammar
pub mod Tree
pub mod Read
pub mod Write
pub mod Blocks
