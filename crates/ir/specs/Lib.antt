pub mod Ir
pub mod Layout
