-- Arguments one after the other, and calls part by part.
pub mod Args
pub mod Calls
