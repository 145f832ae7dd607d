-- Lemmas on packed lists.
pub mod Loads
pub mod EightBytes
pub mod FieldLaws
pub mod NodeLaws
