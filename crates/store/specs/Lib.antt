-- The definitions that the contracts of stored reports cite.
pub mod Stored
