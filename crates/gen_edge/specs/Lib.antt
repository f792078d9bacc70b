-- The leading phis of a block as entries, the copies that an edge makes of them, and their slots set backwards.
pub mod Phis
pub mod Copies
pub mod Walks
pub mod Backwards
pub mod Edges
