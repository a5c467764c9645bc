pub mod Fits
pub mod Shape
pub mod Placed
