-- The definitions that the contracts of passes cite.
pub mod Passes
pub mod Walks
