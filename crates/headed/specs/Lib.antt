-- The definitions that the contracts of the header rule cite.
pub mod Heads
pub mod HeadCuts
