-- The definitions that the contracts of reports cite.
pub mod Outcomes
pub mod Lines
pub mod Values
pub mod Checks
pub mod Leaves
pub mod Trials
pub mod Recovery
pub mod Readings
pub mod Printing
pub mod Reports
pub mod Meets
pub mod Standing
pub mod Known
pub mod Promises
pub mod Worked
