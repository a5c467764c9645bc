pub mod Fold
pub mod Next
pub mod Field
pub mod Ready
