pub mod Insts
pub mod Groups
pub mod InstLaws
pub mod Rules
