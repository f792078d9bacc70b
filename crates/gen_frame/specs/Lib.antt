-- Slots and fixed places: what the work words hold of them while the frame pass goes on.
pub mod Frames
pub mod Fixed
pub mod Placed
pub mod Allocas
pub mod Taken
pub mod Steps
pub mod Scan
pub mod Pass
pub mod Contexts
