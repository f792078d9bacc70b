-- Operands at their entries, and the work words in which names are looked up.
pub mod Values
pub mod Maps
pub mod Push
pub mod Fields
pub mod Present
pub mod Widths
