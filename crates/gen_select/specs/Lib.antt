-- Selects: the generator's lines from its fields.
pub mod Select
