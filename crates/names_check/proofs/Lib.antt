-- What the loop over the names rests on: what is left of the check behind those that were passed, a name and the one before it, the range
-- that was found among them, and where the next ones start.
pub mod Through
pub mod Check
pub mod Words
pub mod Found
pub mod Tally
pub mod Nexts
