-- Atomics and the slots of a `cmpxchg`, part by part.
pub mod Atomic
