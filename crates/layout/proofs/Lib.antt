-- Lemmas on layouts.
pub mod Any
pub mod Views
pub mod Rising
pub mod Once
pub mod Depths
pub mod TreeLaws
pub mod DepthLoop
pub mod Accepted
pub mod FileLaws
pub mod LoadLaws
