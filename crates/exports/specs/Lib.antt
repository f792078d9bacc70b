-- What the boundary's answers say.
pub mod Printed
pub mod Translated
