pub mod Blocks
pub mod Function
