pub mod Before
pub mod Input
