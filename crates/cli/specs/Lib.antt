-- The definitions that the contracts of the program's words cite.
pub mod Chosen
pub mod Kinds
pub mod Listings
pub mod Numbers
pub mod Problems
pub mod Readings
pub mod Stages
