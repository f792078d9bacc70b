-- The source run of document 01, "The two runs": what a function means by the LLVM Language Reference Manual.
pub mod Stop
pub mod Values
pub mod State
pub mod Operand
pub mod Gep
pub mod Call
pub mod Inst
pub mod Term
pub mod Run
pub mod Open
pub mod Cases
pub mod Functions
-- where it goes on
pub mod Goes
pub mod Measured
pub mod GoesOn
-- and that it goes on exactly there
pub mod Going
pub mod Exact
pub mod ExactCall
pub mod LeftOut
pub mod Alone
pub mod Conversions
pub mod Arithmetic
pub mod Ranges
pub mod Calls
pub mod Reads
pub mod Types
pub mod Returns
pub mod Edges
pub mod Stack
pub mod Swaps
pub mod Begins
pub mod Paths
