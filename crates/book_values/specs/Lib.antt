pub mod Items
pub mod ItemLaws
pub mod Pairs
