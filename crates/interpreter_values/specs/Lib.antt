pub mod Entries
pub mod Remembered
