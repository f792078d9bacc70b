-- Places among an instruction's fields, fields of several entries, values by their kinds, and tests that refuse.
pub mod Places
pub mod Given
pub mod Items
pub mod Kinds
pub mod Tests
