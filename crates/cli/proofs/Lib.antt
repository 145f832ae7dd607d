-- Lemmas of the program's words.
pub mod Closing
pub mod Digits
pub mod Nested
