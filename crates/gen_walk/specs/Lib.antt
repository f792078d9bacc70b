-- Where the next instruction and the next block stand.
pub mod Walk
