pub mod Marks
pub mod Tags
pub mod Cases
pub mod Switch
