-- Lemmas on imports.
pub mod SlipLaws
mod Heard
mod Moments
pub mod StepLaws
pub mod RunLaws
pub mod WholeRuns
mod Printing
mod Reading
pub mod TwoFiles
mod Comparing
mod ScanLaws
mod Fresh
mod MatchLaws
mod Matched
mod OneAnswer
mod Exchange
