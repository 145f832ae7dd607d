-- The definitions that the contracts of the calls cite.
pub mod Statuses
pub mod Lefts
pub mod Matches
pub mod Named
