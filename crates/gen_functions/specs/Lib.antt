-- The functions of a book, one after the other.
pub mod Turns
pub mod Walk
