-- What looking through a name rests on.
pub mod Scan
