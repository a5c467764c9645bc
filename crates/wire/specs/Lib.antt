pub mod Poke
pub mod Named
pub mod Order
