pub mod Lead
pub mod Characters
pub mod Encoding
pub mod Reading
