pub mod Segments
pub mod Fields
pub mod Listed
pub mod Pass
