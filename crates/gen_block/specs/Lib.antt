-- A block's instructions at a place, one after the other, and the lines of blocks.
pub mod Body
pub mod Block
