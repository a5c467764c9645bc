pub mod Located
pub mod Names
pub mod Context
