-- Where a function stands, and the work words 0 and 2 of names: its parameters and its blocks.
pub mod Words
pub mod Function
pub mod Params
pub mod Blocks
