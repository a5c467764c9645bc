pub mod Laws
pub mod Lists
pub mod Distinct
pub mod Compute
