pub mod Bytes
pub mod Parts
pub mod Accepted
pub mod Written
pub mod Unique
pub mod Limited
