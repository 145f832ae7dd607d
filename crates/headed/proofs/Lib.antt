-- Lemmas of the header rule.
pub mod HeadFrames
pub mod HeadSteps
