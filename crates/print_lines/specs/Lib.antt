pub mod Lines
pub mod Named
pub mod All
pub mod Weigh
pub mod Same
