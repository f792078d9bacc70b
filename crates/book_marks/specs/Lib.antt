pub mod Once
pub mod Range
