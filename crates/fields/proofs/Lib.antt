-- Lemmas on the field families.
pub mod Firsts
pub mod Stand
pub mod WholeRule
pub mod AmountRule
pub mod DateRule
pub mod BinaryRule
pub mod Writing
pub mod AmountWriting
pub mod RunLaws
