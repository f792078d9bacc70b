-- The fields of a getelementptr, the varying terms in the work words, the walk over the indices, and the lines.
pub mod Indices
pub mod Terms
pub mod Walks
pub mod Loop
pub mod Lines
