pub mod Collecting
pub mod Laws
