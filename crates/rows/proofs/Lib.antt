-- Lemmas of the row rules.
pub mod FirstPlaces
pub mod FrameLaws
pub mod NewlineSteps
pub mod NewlineWords
pub mod SampleSteps
pub mod WidthSteps
