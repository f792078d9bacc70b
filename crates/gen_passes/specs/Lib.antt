pub mod Reply
pub mod Passes
pub mod Generate
