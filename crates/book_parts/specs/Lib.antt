pub mod Reading
pub mod Folds
pub mod Parts
pub mod Maps
