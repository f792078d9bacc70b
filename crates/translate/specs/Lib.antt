pub mod Sound
pub mod Reply
