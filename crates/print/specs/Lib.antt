pub mod Reply
pub mod Function
pub mod Heads
pub mod Segments
pub mod Passes
pub mod Names
pub mod Book
pub mod Any
