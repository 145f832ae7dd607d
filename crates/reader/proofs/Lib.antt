-- Lemmas on the reading loop.
pub mod Lists
pub mod Chains
pub mod Beyond
pub mod Resumed
pub mod Scans
pub mod Tables
pub mod Keeps
pub mod Loads
pub mod Whole
pub mod Numbers
pub mod Stacks
pub mod Going
pub mod Begun
pub mod Faults
pub mod PlainLines
pub mod Straight
