-- Which work words a function sets, and how they are cleared.
pub mod Sets
pub mod Covers
pub mod Clear
