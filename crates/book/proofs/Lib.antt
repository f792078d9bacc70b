pub mod AgreeTy
pub mod AgreeInst
pub mod AgreeBook
pub mod AgreeInput
