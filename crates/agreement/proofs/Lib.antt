-- Theorems about the definitions of specs/.
pub mod TwoRuns
pub mod Corollaries
pub mod NeverFails
pub mod GoesOn
pub mod Example
