-- Terminators at their entries, and the lines that lead on from them.
pub mod Toward
pub mod Terms
pub mod Returns
pub mod Branches
pub mod Switches
pub mod Whole
