pub mod Clear
pub mod Copies
pub mod Fits
