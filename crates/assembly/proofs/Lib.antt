-- Theorems about the definitions of specs/.
pub mod Laws
pub mod Lists
