pub mod Forms
pub mod Kinds
pub mod All
pub mod Allowed
