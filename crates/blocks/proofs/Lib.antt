pub mod Bytes
pub mod Blocks
pub mod Name
pub mod Utf8
pub mod Compute
pub mod Refusals
pub mod Worked
