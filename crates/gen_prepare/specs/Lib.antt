-- What stands in the work words before the first line: the maps of the function's context.
pub mod Prepare
pub mod Passes
