-- The definitions that the contracts of passes over an export cite.
pub mod Stops
pub mod Traces
pub mod Prints
