-- What the code rests on: a step of the comparison at a place.
pub mod Steps
