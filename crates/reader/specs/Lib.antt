-- The definitions that the contracts of reading cite.
pub mod Turns
pub mod Nesting
pub mod Models
pub mod Resuming
pub mod Plain
pub mod Refusals
