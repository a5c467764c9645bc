pub mod Places
pub mod Types
