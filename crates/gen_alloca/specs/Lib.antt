-- `alloca`: its fields, and its lines part by part.
pub mod Alloca
