-- The definitions that the contracts of printing cite.
pub mod Parts
pub mod Puts
pub mod Frames
