pub mod Starts
pub mod Types
