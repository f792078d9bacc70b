-- What a measurement asks for and answers, and what a generator that measures is lent.
pub mod Sizes
pub mod Lent
