pub mod Strip
pub mod Canonical
pub mod Colons
pub mod Qualified
