pub mod Read
pub mod Laws
pub mod Lists
pub mod Named
