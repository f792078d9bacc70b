-- Operations, comparisons, conversions and selects: the generators' lines from their fields.
pub mod Arith
pub mod Conv
