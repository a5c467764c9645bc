pub mod Chosen
pub mod Sums
