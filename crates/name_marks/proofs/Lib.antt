pub mod Marks
pub mod Worked
