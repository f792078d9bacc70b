-- Theorems about the definitions of specs/.
pub mod AllowedBlocks
pub mod AllowedFunction
pub mod Printable
pub mod Bounds
pub mod WordsOf
pub mod Fits
pub mod AloneCalls
