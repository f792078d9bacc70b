-- Theorems about the definitions of specs/.
pub mod Allowance
pub mod AnyAllowance
pub mod Multiple
pub mod Parts
pub mod Limit
pub mod Refusals
pub mod AtLimits
pub mod Cases
