pub mod Length
pub mod Groups
pub mod Found
pub mod Tables
pub mod Laws
pub mod TypeLaws
pub mod Passes
pub mod Leaf
