-- What the loops of the code rest on: laws of the definitions at a place of the bytes.
pub mod Scan
pub mod Chars
pub mod Spell
