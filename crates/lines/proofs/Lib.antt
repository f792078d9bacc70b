mod Words
mod Room
mod Text
mod Showing
