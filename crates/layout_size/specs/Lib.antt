pub mod Sums
pub mod Loop
pub mod LoopCalls
