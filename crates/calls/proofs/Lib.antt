-- Lemmas on the calls.
pub mod Taking
pub mod Staying
pub mod MatchLaws
pub mod Numbers
