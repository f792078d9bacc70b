-- The work word 5 of each name: how a global of that name is called.
pub mod Mark
pub mod Spelling
pub mod Defined
