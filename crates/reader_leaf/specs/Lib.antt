pub mod Answer
pub mod Seen
pub mod Mark
