pub mod Word
pub mod Words
pub mod Place
pub mod Texts
pub mod NameMarks
