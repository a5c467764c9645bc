pub mod Names
mod Numbers
mod Order
mod Search
pub mod Laws
