pub mod Types
pub mod Values
pub mod Distinct
pub mod Near
