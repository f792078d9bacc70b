pub mod Layout
pub mod Step
pub mod Frame
pub mod Cases
pub mod Natural
