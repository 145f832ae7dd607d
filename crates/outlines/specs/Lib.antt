-- The definitions that the contracts of a layout's words cite.
pub mod Words
pub mod Lines
