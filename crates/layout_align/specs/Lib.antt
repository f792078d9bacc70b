pub mod Loop
pub mod LoopCalls
