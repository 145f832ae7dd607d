-- Lemmas of explanations.
pub mod Steps
pub mod Standing
pub mod Walks
