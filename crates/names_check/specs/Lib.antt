pub mod Read
pub mod Nexts
pub mod Found
