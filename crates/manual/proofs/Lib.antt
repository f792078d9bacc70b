-- Theorems about the definitions of specs/.
pub mod ExactGep
pub mod ExactInst
pub mod Progress
pub mod Loop
pub mod ExactTerm
