pub mod Lines
pub mod Parts
pub mod Calls
pub mod Program
