pub mod Book
pub mod Laws
pub mod Decodes
