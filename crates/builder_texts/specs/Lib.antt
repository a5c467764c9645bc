pub mod Texts
pub mod Unheld
