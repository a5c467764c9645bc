pub mod Ready
pub mod Array
pub mod Shapes
pub mod Owner
