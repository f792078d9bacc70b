pub mod Pen
pub mod Write
