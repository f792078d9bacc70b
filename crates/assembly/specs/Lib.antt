pub mod Line
pub mod Number
pub mod Text
pub mod Printer
pub mod Open
pub mod Lists
pub mod Cases
pub mod Numbers
