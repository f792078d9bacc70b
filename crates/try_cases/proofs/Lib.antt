-- What the loops of the code rest on.
pub mod Copying
pub mod Reading
