pub mod Mark
pub mod Table
