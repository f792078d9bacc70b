-- Theorems about the definitions of specs/.
pub mod ExactParts
pub mod Exact
