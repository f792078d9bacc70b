-- What generators of lines leave behind, and the laws by which they follow one another.
pub mod Puts
pub mod Follow
