-- What the code on words rests on: the bytes of a word one by one.
pub mod Bytes
pub mod Stops
