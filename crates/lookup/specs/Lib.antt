pub mod Named
pub mod Found
