-- The definitions that the contracts of explanations cite.
pub mod Shown
pub mod Causes
pub mod Faults
pub mod Lines
pub mod Matches
pub mod Reports
pub mod Explanations
pub mod Rest
