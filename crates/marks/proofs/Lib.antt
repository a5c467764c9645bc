pub mod Marks
pub mod Tables
pub mod Walks
