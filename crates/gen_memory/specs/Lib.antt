-- Loads, stores and `freeze`, part by part.
pub mod Freeze
pub mod Memory
