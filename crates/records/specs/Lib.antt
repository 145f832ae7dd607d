-- The definitions that the contracts of records cite.
pub mod Hex
pub mod Records
