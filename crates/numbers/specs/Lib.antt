pub mod Align
pub mod Bits
pub mod Digits
mod Examples
pub mod Open
pub mod Power
pub mod Tests
pub mod Width
pub mod Wrap
