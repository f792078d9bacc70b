-- What the functions that read the input and fill the lent slices give back.
pub mod Text
pub mod Lent
