pub mod Validator
