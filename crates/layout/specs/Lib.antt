-- The definitions that the contracts of layouts cite.
pub mod Refusals
pub mod Trees
pub mod Links
pub mod Shapes
pub mod Judged
pub mod Files
pub mod Loading
