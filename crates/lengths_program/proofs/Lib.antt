pub mod Blocks
pub mod Buffer
pub mod Runs
pub mod Set
pub mod Calls
pub mod Whole
pub mod Given
