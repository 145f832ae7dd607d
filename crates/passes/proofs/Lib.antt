-- Lemmas on passes.
pub mod PassLaws
pub mod WalkLaws
pub mod Filing
pub mod Joined
