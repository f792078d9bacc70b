pub mod Table
pub mod Words
pub mod Ends
pub mod Plain
