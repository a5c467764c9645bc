pub mod Clear
pub mod Triples
pub mod Left
