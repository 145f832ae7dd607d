-- Lemmas of passes over an export.
pub mod Streams
pub mod Told
pub mod Rows
pub mod TraceLaws
pub mod PrintLaws
pub mod Taking
