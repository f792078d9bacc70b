-- An instruction in front of the entries lent, by its kind, and the laws that put its lines together.
pub mod View
pub mod Body
pub mod Held
pub mod Values
pub mod Measured
pub mod Own
pub mod Whole
