pub mod Laws
pub mod Head
pub mod Each
pub mod Fields
pub mod Owners
